-- Reaches as they are kept from matrix to matrix.
use Rattle.std.specs.Prelude.{◌≡◌, ℕ, ◌<◌, ◌≤◌, List, slice_index}
use Rattle.model.specs.Quorums.{stations}
use Rattle.order.specs.Columns.{Matrix}
use Rattle.order.specs.Orders.{reach, raised}
use Rattle.order.specs.declared.reach.Reach.{Reach}

-- the reach of an origin as kept
abbrev pub kept : Reach → ℕ → ℕ
kept r o = slice_index r.reaches o

-- these reaches are those after the matrices Xs
abbrev pub Reached : ℕ → ℕ → List Matrix → Reach → Type 0
Reached f limit Xs r = (o : ℕ) → o < stations f → kept r o ≡ reach f limit Xs o

-- r' are the reaches r after the matrix X
abbrev pub Raised : ℕ → ℕ → Matrix → Reach → Reach → Type 0
Raised f limit X r r' = ((o : ℕ) → o < stations f → kept r' o ≡ raised f limit (kept r) X o) × ((o : ℕ) → stations f ≤ o → kept r' o ≡ kept r o)
