use Rattle.std.specs.Prelude.{ℕ, ◌+◌, ◌*◌, List, ◌++◌, length, take, drop}
use Rattle.rows.specs.declared.owned.Entries.{Entries}
use Rattle.rows.specs.declared.owned.Matrix.{Matrix}

-- Entries mean the list of them.
abbrev pub entries_of : {most : ℕ} → Entries most → List ℕ
entries_of e = take e.count e.cells

abbrev pub Row : Type 0
Row = Entries 16

-- A row means its entries.
abbrev pub row_of : Row → List ℕ
row_of r = take r.count r.cells

-- A matrix means its entries, row by row. Their number is the square of the side.
abbrev pub matrix_of : Matrix → List ℕ
matrix_of m = take (m.side * m.side) m.entries.cells

-- Row i of a matrix of this side; none from the side on.
abbrev pub row_in : ℕ → List ℕ → ℕ → List ℕ
row_in side es i = take side (drop (i * side) es)

-- The list with `part` in the place of what stood from `at` on.
abbrev pub placed : List ℕ → ℕ → List ℕ → List ℕ
placed es at part = take at es ++ (part ++ drop (at + length part) es)
