use Rattle.std.specs.Prelude.{ℕ, List}

-- What a frame says. An operation is its 64 packed bits; a row or a matrix is its entries, row by row.
pub data Said : Type 0 where
  request : (sender faults sequence operation : ℕ) → Said
  ack : (sender faults sequence origin operation : ℕ) → Said
  summary : (sender faults : ℕ) (row : List ℕ) → Said
  proposal : (sender faults sequence : ℕ) (matrix : List ℕ) → Said
  prepare : (sender faults sequence : ℕ) (matrix : List ℕ) → Said
  commit : (sender faults sequence : ℕ) (matrix : List ℕ) → Said
