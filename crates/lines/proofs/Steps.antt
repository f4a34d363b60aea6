-- The lines of a text, one after the other.
use Rattle.std.proofs.Common.{◌≡◌, ℕ, zero, suc, ◌≤◌, false, eqb, List, [], ◌∷◌, length, refl, ap, arith}
use Rattle.lines.specs.Numbers.{first_line, lines_of, lines_within, other_lines}
use Rattle.std.proofs.lemmas.List.{length-drop}

shorter : (b : ℕ) (text : List ℕ) → length (other_lines (b ∷ text)) ≤ length text
shorter b text = simp length-drop (omega arith)

-- As many steps as the text has bytes are enough.
enough : (n m : ℕ) (text : List ℕ) → length text ≤ n → length text ≤ m → lines_within n text ≡ lines_within m text
enough zero zero text h k = refl
enough zero (suc m) [] h k = refl
enough zero (suc m) (b ∷ text) h k = absurd (omega arith)
enough (suc n) zero [] h k = refl
enough (suc n) zero (b ∷ text) h k = absurd (omega arith)
enough (suc n) (suc m) [] h k = refl
enough (suc n) (suc m) (b ∷ text) h k =
    let less = shorter b text in
    ap (λ rest. first_line (b ∷ text) ∷ rest) (enough n m (other_lines (b ∷ text)) (omega (arith, less)) (omega (arith, less)))

-- The first line, and then those of what follows its newline.
pub lines_step : (text : List ℕ) → false ≡ eqb (length text) 0 → lines_of text ≡ first_line text ∷ lines_of (other_lines text)
lines_step [] h = absurd (grind arith)
lines_step (b ∷ text) h =
    ap (λ rest. first_line (b ∷ text) ∷ rest) (enough (length text) (length (other_lines (b ∷ text))) (other_lines (b ∷ text)) (shorter b text) (omega arith))
