use Rattle.std.proofs.Common.{◌≡◌, ℕ, ◌<◌, ◌≤◌, get_or}
use Rattle.order.specs.Orders.{raised}
use Rattle.order.specs.Reaches.{kept}
use Rattle.order.proofs.reach.Reach.raise.Given as goal

-- the reaches below the origin are raised, and the others as they were
abbrev pub invariant-loop-origin : goal.invariant-loop-origin
invariant-loop-origin l =
    ((k : ℕ) → k < l.origin → get_or l.reach-items k 0 ≡ raised l.watch.faults l.watch.limit (kept l.fn.self) l.matrix k)
    × ((k : ℕ) → l.origin ≤ k → get_or l.reach-items k 0 ≡ get_or l.initial.reach-items k 0)
