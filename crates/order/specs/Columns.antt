-- What a matrix makes eligible of an origin's operations.
use Rattle.std.specs.Prelude.{ℕ, zero, suc, ◌+◌, ◌*◌, Bool, cond, List, count_ones, nat_le, slice_index}
use Rattle.model.specs.Sets.{gathered}
use Rattle.model.specs.Quorums.{stations, quorum}

-- A matrix is the rows of all stations, one after the other.
abbrev pub Matrix : Type 0
Matrix = List ℕ

-- the entry of row k for origin o, where n stations are
abbrev pub cell : ℕ → Matrix → ℕ → ℕ → ℕ
cell n matrix k o = slice_index matrix (k * n + o)

-- the set of the rows with an entry of s or more for origin o
abbrev pub rows_with : ℕ → Matrix → ℕ → ℕ → ℕ
rows_with f matrix o s = gathered (stations f) (λ k. nat_le s (cell (stations f) matrix k o))

-- the largest number from 1 to n that passes the test, else 0
abbrev pub largest : ℕ → (ℕ → Bool) → ℕ
largest zero test = 0
largest (suc n) test = cond (test (suc n)) (suc n) (largest n test)

-- The value of column o: the largest s, at most the watch length, such that at least 2f + 1 rows have an entry of s or more; else 0.
abbrev pub column : ℕ → ℕ → Matrix → ℕ → ℕ
column f limit matrix o = largest limit (λ s. nat_le (quorum f) (count_ones (rows_with f matrix o s)))
