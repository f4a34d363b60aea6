-- A line of pairs of digits, read one pair after the other.
use Rattle.std.proofs.Common.{◌≡◌, ℕ, ◌+◌, ◌*◌, ◌≤◌, List, [], ◌∷◌, ◌++◌, length, get_or, drop, Some, None, Option, sym, refl, ap, ◌∙◌, append_assoc, arith}
use Rattle.frames_tool.specs.Hex.{bytes_of, nibble_of, paired}
use Rattle.std.specs.Option.{option_map}

pushed : (front : List ℕ) (v : ℕ) (o : Option (List ℕ))
    → option_map (λ others. front ++ others) (option_map (λ others. v ∷ others) o) ≡ option_map (λ others. (front ++ v ∷ []) ++ others) o
pushed front v None = refl
pushed front v (Some xs) = ap Some (sym (append_assoc front (v ∷ []) xs))

-- One pair more.
pub pair : (front rest : List ℕ) (high low : ℕ) → 2 ≤ length rest → Some high ≡ nibble_of (get_or rest 0 0) → Some low ≡ nibble_of (get_or rest 1 0)
    → option_map (λ others. front ++ others) (bytes_of rest) ≡ option_map (λ others. (front ++ (high * 16 + low) ∷ []) ++ others) (bytes_of (drop 2 rest))
pair front [] high low h p q = absurd (omega arith)
pair front (a ∷ []) high low h p q = absurd (omega arith)
pair front (a ∷ b ∷ rest) high low h p q =
    ap (λ x. option_map (λ others. front ++ others) (paired x (nibble_of b) (bytes_of rest))) (sym p)
    ∙ ap (λ y. option_map (λ others. front ++ others) (paired (Some high) y (bytes_of rest))) (sym q)
    ∙ pushed front (high * 16 + low) (bytes_of rest)
