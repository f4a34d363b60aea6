-- A line's numbers, read one after the other.
use Rattle.std.proofs.Common.{◌≡◌, ℕ, suc, Bool, true, false, eqb, List, [], ◌∷◌, ◌++◌, length, Some, None, Option, sym, refl, ap, ◌∙◌, append_assoc, arith}
use Rattle.lines.specs.Numbers.{end, field_at, fields, more}
use Rattle.std.specs.Option.{option_map}
use Rattle.std.proofs.lemmas.Bool.{eqb-true}

pub mapped_same : (o : Option (List ℕ)) → o ≡ option_map (λ others. [] ++ others) o
mapped_same None = refl
mapped_same (Some xs) = refl

pushed : (front : List ℕ) (v : ℕ) (o : Option (List ℕ))
    → option_map (λ others. front ++ others) (option_map (λ others. v ∷ others) o) ≡ option_map (λ others. (front ++ v ∷ []) ++ others) o
pushed front v None = refl
pushed front v (Some xs) = ap Some (sym (append_assoc front (v ∷ []) xs))

-- One number more.
pub turn : (front : List ℕ) (k : ℕ) (first : Bool) (text : List ℕ) (v : ℕ) (rest : List ℕ) → Some (v, rest) ≡ field_at first text
    → option_map (λ others. front ++ others) (fields (suc k) first text) ≡ option_map (λ others. (front ++ v ∷ []) ++ others) (fields k false rest)
turn front k first text v rest e =
    ap (λ o. option_map (λ others. front ++ others) (more o (fields k false))) (sym e) ∙ pushed front v (fields k false rest)

-- No number where one is due.
pub stop : (front : List ℕ) (k : ℕ) (first : Bool) (text : List ℕ) → None ≡ field_at first text
    → None ≡ option_map (λ others. front ++ others) (fields (suc k) first text)
stop front k first text e = ap (λ o. option_map (λ others. front ++ others) (more o (fields k false))) e

-- Nothing follows the last number.
pub ends : (text : List ℕ) → true ≡ eqb (length text) 0 → end text ≡ Some []
ends [] e = refl
ends (b ∷ text) e = absurd (omega (arith, eqb-true (length (b ∷ text)) 0 (sym e)))
