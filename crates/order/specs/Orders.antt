-- The order that a list of matrices gives.
use Rattle.std.specs.Prelude.{ℕ, zero, suc, ◌+◌, ◌-◌, max, cond, List, [], ◌∷◌, ◌++◌, length, None, Option, nat_le}
use Rattle.std.specs.List.{slice_get}
use Rattle.model.specs.Quorums.{stations}
use Rattle.order.specs.Columns.{Matrix, column}
use Rattle.order.specs.declared.key.Key.{Key}

-- an operation by its origin and sequence
abbrev pub key : ℕ → ℕ → Key
key o s = record { origin = o; sequence = s }

-- An origin's reach after these matrices: the largest of its column's values so far.
abbrev pub reach : ℕ → ℕ → List Matrix → ℕ → ℕ
reach f limit [] o = 0
reach f limit (X ∷ Xs) o = max (column f limit X o) (reach f limit Xs o)

-- an origin's next d sequences after a, rising
abbrev pub span : ℕ → ℕ → ℕ → List Key
span o a zero = []
span o a (suc d) = key o (suc a) ∷ span o (suc a) d

-- what the numbers below n give, rising
abbrev pub each : ℕ → (ℕ → List Key) → List Key
each zero g = []
each (suc n) g = each n g ++ g n

-- What a matrix adds where the origins' reaches were these: origins rising, each origin's sequences from the old reach + 1 to the new.
abbrev pub added : ℕ → ℕ → (ℕ → ℕ) → Matrix → List Key
added f limit before X = each (stations f) (λ o. span o (before o) (column f limit X o - before o))

-- the reaches after one matrix more
abbrev pub raised : ℕ → ℕ → (ℕ → ℕ) → Matrix → ℕ → ℕ
raised f limit before X o = max (before o) (column f limit X o)

abbrev pub order_after : ℕ → ℕ → (ℕ → ℕ) → List Matrix → List Key
order_after f limit before [] = []
order_after f limit before (X ∷ Xs) = added f limit before X ++ order_after f limit (raised f limit before X) Xs

abbrev pub order : ℕ → ℕ → List Matrix → List Key
order f limit Xs = order_after f limit (λ o. 0) Xs

-- the sum over all numbers below n
abbrev pub total : ℕ → (ℕ → ℕ) → ℕ
total zero g = 0
total (suc n) g = total n g + g n

-- what stands at a position of a list that goes on after earlier positions; earlier ones are not in it
abbrev pub after : ℕ → List Key → ℕ → Option Key
after earlier keys k = cond (nat_le earlier k) (slice_get keys (k - earlier)) None

-- what stands at a position after one matrix more, if the order before it does not come so far
abbrev pub found : ℕ → ℕ → List Matrix → Matrix → ℕ → Option Key
found f limit Xs X k = cond (nat_le (length (order f limit Xs)) k) (slice_get (order f limit (Xs ++ X ∷ [])) k) None
