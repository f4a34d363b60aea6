-- The rows that a station keeps.
use Rattle.std.proofs.Common.{◌≡◌, ℕ, zero, suc, ◌+◌, ◌*◌, ◌/◌, ◌%◌, ◌<◌, min, List, [], map, length, get_or, sym, ap, ◌∙◌, subst, div-lt_iff_lt-mul, arith}
use Rattle.model.specs.Quorums.{stations}
use Rattle.rows.specs.Values.{row_of}
use Rattle.rows.specs.Values.{Row}
use Rattle.sending.specs.Sends.{kept_entry}
use Rattle.std.proofs.lemmas.Nat.{div-add-mod', mod_below, mul-add-lt}
use Rattle.std.proofs.lemmas.List.{get_or-map}
use Rattle.tables.specs.Plans.{Plan}

pub row_below : (n m i j : ℕ) → m ≡ n → i < n → j < n → i * m + j < n * n
row_below n m i j e hi hj = subst (λ m. i * m + j < n * n) (sym e) (mul-add-lt i n j n hi hj)

pub entry_read : (p : Plan) (table : List Row) (i j o n : ℕ) (row : Row) (x r : ℕ) → n ≡ stations p.faults → i * n + j < length table
    → row ≡ get_or table (i * n + j) row → x ≡ get_or (row_of row) o 0 → r ≡ min x p.limit → r ≡ kept_entry p (map row_of table) i j o
entry_read p table i j o n row x r e low at get least =
    let there : row_of row ≡ get_or (map row_of table) (i * n + j) [] = ap row_of at ∙ sym (get_or-map row_of table (i * n + j) row [] low) in
    least ∙ ap (λ x. min x p.limit) (get ∙ ap (λ es. get_or es o 0) there)
    ∙ ap (λ n. min (get_or (get_or (map row_of table) (i * n + j) []) o 0) p.limit) e

-- Cell k of the matrix of the rows that station i keeps.
abbrev pub cell_of : Plan → List (List ℕ) → ℕ → ℕ → ℕ
cell_of p kept i k = kept_entry p kept i (k / stations p.faults) (k % stations p.faults)

-- Cell k of a square of side m, by row and column.
pub record Cell (m k : ℕ) : Type 0 where
  pub row : k / m < m
  pub column : k % m < m
  pub whole : k / m * m + k % m ≡ k

pub cell : (m k : ℕ) → k < m * m → Cell m k
cell m k h =
    let some : 0 < m = positive m k h in
    record { row = (div-lt_iff_lt-mul some).1 h; column = mod_below k m some; whole = div-add-mod' k m }
  where
    positive : (m k : ℕ) → k < m * m → 0 < m
    positive zero k h = absurd (omega arith)
    positive (suc m) k h = omega arith
