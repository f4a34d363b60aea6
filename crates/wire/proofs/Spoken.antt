-- Frames on the wire, and the rows that a proposal may have.
use Rattle.std.proofs.Common.{◌≡◌, ℕ, ◌*◌, ◌<◌, ◌≤◌, Bool, eqb, List, length, take, drop, ap, ◌∙◌, arith, rules}
use Rattle.rows.proofs.Cells.{row_fits, row_whole, square_fits}
use Rattle.rows.specs.Values.{row_in}
use Rattle.std.proofs.lemmas.Slice.Eq.{IsBytesEq, compares_Decides, slice_eq-Decides}
use Rattle.std.proofs.lemmas.List.{length-drop, length-take-le}
use Rattle.std.proofs.lemmas.Bool.Decides.{same_from_decides, Decides-eqb}
use Rattle.std.specs.Cmp.Lexicographic.{pointwise}
use Rattle.wire.specs.Wires.{same_list}

compares : IsBytesEq same_list
compares = search rules

-- What `==` answers at two lists of bytes.
abbrev pub Equals : List ℕ → List ℕ → Bool → Type 0
Equals xs ys r = r ≡ pointwise eqb xs ys

pub same_list_lem : (xs ys at : List ℕ) (r : Bool) → Equals xs ys r → xs ≡ at → r ≡ same_list at ys
same_list_lem xs ys at r m e =
    same_from_decides r (same_list xs ys) (slice_eq-Decides Decides-eqb xs ys r m) (compares_Decides same_list compares xs ys) ∙ ap (λ l. same_list l ys) e

-- Each row of a matrix has as many entries as there are rows.
pub row_long : (s k : ℕ) (cells : List ℕ) → k < s → s ≤ 16 → length cells ≡ 256 → length (row_in s (take (s * s) cells) k) ≡ s
row_long s k cells l few whole =
    let all = row_fits k s l in
    let small = square_fits s few in
    ap length (row_whole s k cells l) ∙ length-take-le s (drop (k * s) cells) (omega (arith, length-drop (k * s) cells))
