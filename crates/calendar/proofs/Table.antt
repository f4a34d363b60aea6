-- A rule of a table, shown at all of its entries by one test that is computed over the whole table.
use Rattle.std.proofs.Common.{◌≡◌, ℕ, zero, suc, ◌+◌, ◌<◌, Bool, true, ◌&&◌, List, [], ◌∷◌, length, get_or, add-zero, add-suc, suc-add, zero-add, arith}
use Rattle.std.proofs.lemmas.Bool.{and_parts}

-- The test passes at each entry and its place, counted from i.
abbrev pub every : {X : Type 0} → (ℕ → X → Bool) → ℕ → List X → Bool
every f i [] = true
every f i (x ∷ xs) = f i x && every f (suc i) xs

from : {X : Type 0} (f : ℕ → X → Bool) (xs : List X) (d : X) (i k : ℕ) → every f i xs ≡ true → k < length xs → f (i + k) (get_or xs k d) ≡ true
from f [] d i k t h = absurd (omega arith)
from f (x ∷ xs) d i zero t h = rw add-zero (and_parts (f i x) (every f (suc i) xs) t).0
from f (x ∷ xs) d i (suc k) t h =
    let rest = from f xs d (suc i) k (and_parts (f i x) (every f (suc i) xs) t).1 (omega arith) in rw add-suc (rw suc-add at rest)

pub at : {X : Type 0} (f : ℕ → X → Bool) (xs : List X) (d : X) → every f 0 xs ≡ true → (k : ℕ) → k < length xs → f k (get_or xs k d) ≡ true
at f xs d t k h = rw zero-add at (from f xs d 0 k t h)
