-- Rows, and how two stand to each other.
use Rattle.std.specs.Prelude.{ℕ, zero, suc, ◌<◌, ◌≤◌, min, Bool, true, false, cond, ◌&&◌, ◌||◌, ◌⊎◌, List, map, nat_le, nat_lt, slice_index}
use Rattle.order.specs.declared.standing.Standing.{Standing}
use Rattle.order.specs.declared.standing.Standing.TheVariants.{Newer, Known, Inconsistent}

-- A row has one number for each origin. Past its end it reads as 0.
abbrev pub Row : Type 0
Row = List ℕ

abbrev pub entry : Row → ℕ → ℕ
entry row o = slice_index row o

-- a row as it is read in a watch of this length: no entry is above it
abbrev pub read : ℕ → Row → Row
read limit row = map (λ e. min e limit) row

-- every number below n passes the test; some number below n does
abbrev pub every : ℕ → (ℕ → Bool) → Bool
every zero test = true
every (suc n) test = test n && every n test

abbrev pub any : ℕ → (ℕ → Bool) → Bool
any zero test = false
any (suc n) test = test n || any n test

-- of the first n entries none of a is smaller than b's: a is at least as up-to-date as b
abbrev pub none_smaller : ℕ → Row → Row → Bool
none_smaller n a b = every n (λ o. nat_le (entry b o) (entry a o))

-- of the first n entries some of a is larger than b's
abbrev pub some_larger : ℕ → Row → Row → Bool
some_larger n a b = any n (λ o. nat_lt (entry b o) (entry a o))

-- How a new row stands to a kept one. Consistent rows are those of which one is at least as up-to-date as the other.
abbrev pub standing : ℕ → Row → Row → Standing
standing n new kept = cond (some_larger n new kept) (cond (none_smaller n new kept) Newer Inconsistent) Known

-- ---- the same in words

abbrev pub UpToDate : ℕ → Row → Row → Type 0
UpToDate n a b = (o : ℕ) → o < n → entry b o ≤ entry a o

abbrev pub Larger : ℕ → Row → Row → Type 0
Larger n a b = (o : ℕ) × (o < n) × (entry b o < entry a o)

abbrev pub Consistent : ℕ → Row → Row → Type 0
Consistent n a b = UpToDate n a b ⊎ UpToDate n b a
