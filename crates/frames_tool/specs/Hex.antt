use Rattle.std.specs.Prelude.{ℕ, ◌+◌, ◌-◌, ◌*◌, Bool, cond, ◌&&◌, List, [], ◌∷◌, Some, None, Option, nat_le}
use Rattle.std.specs.Option.{option_map}

abbrev pub among : ℕ → ℕ → ℕ → Bool
among low high b = nat_le low b && nat_le b high

-- The number that a hexadecimal digit stands for: 0 to 9, A to F, a to f.
abbrev pub nibble_of : ℕ → Option ℕ
nibble_of b = cond (among 48 57 b) (Some (b - 48)) (cond (among 65 70 b) (Some (b - 55)) (cond (among 97 102 b) (Some (b - 87)) None))

-- A byte of two digits before others.
abbrev pub paired : Option ℕ → Option ℕ → Option (List ℕ) → Option (List ℕ)
paired None low rest = None
paired (Some high) None rest = None
paired (Some high) (Some low) rest = option_map (λ others. (high * 16 + low) ∷ others) rest

-- The bytes that a line of pairs of hexadecimal digits writes.
abbrev pub bytes_of : List ℕ → Option (List ℕ)
bytes_of [] = Some []
bytes_of (a ∷ []) = None
bytes_of (a ∷ b ∷ rest) = paired (nibble_of a) (nibble_of b) (bytes_of rest)
