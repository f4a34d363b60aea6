use Rattle.std.proofs.Common.{◌≡◌, ℕ, ◌<◌, length, get_or, None}
use Rattle.delivery.proofs.preparing.places_read.Given as goal
use Rattle.model.specs.Quorums.{held, meant}
use Rattle.rows.specs.Caps.{capped_at}
use Rattle.rows.specs.Values.{matrix_of}

abbrev pub invariant-loop-k : goal.invariant-loop-k
invariant-loop-k l =
    (length l.place-items ≡ length l.votes)
    × ((j : ℕ) → j < l.k → meant matrix_of (get_or l.place-items j None) ≡ meant (capped_at l.limit) (get_or (held matrix_of l.votes) j None))
