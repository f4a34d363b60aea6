-- Numbers above a limit.
use Rattle.std.proofs.Common.{◌≡◌, ℕ, ◌||◌, ltb, List, [], ◌∷◌, map, refl, ap}
use Rattle.std.specs.List.{list_any}
use Rattle.wire.specs.Wires.{some_above}

pub any_above : (limit : ℕ) (xs : List ℕ) → list_any (λ x. ltb limit x) xs ≡ some_above limit xs
any_above limit [] = refl
any_above limit (x ∷ xs) = ap (λ b. ltb limit x || b) (any_above limit xs)

-- The same of numbers that a function gives.
pub any_above_map : (limit : ℕ) (f : ℕ → ℕ) (ks : List ℕ) → list_any (λ k. ltb limit (f k)) ks ≡ some_above limit (map f ks)
any_above_map limit f [] = refl
any_above_map limit f (k ∷ ks) = ap (λ b. ltb limit (f k) || b) (any_above_map limit f ks)
