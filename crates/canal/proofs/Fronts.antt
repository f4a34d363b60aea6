-- The front of a list, as the fitted part of an array.
use Rattle.std.proofs.Common.{◌≡◌, ℕ, zero, suc, ◌<◌, List, [], ◌∷◌, length, get_or, take, set, Some, refl, ap, arith}
use Rattle.std.specs.List.{slice_get}

pub take-set-front : {X : Type 0} (n : ℕ) (xs : List X) (i : ℕ) (x : X) → take n (set xs i x) ≡ set (take n xs) i x
take-set-front zero xs i x = refl
take-set-front (suc n) [] i x = refl
take-set-front (suc n) (y ∷ xs) zero x = refl
take-set-front (suc n) (y ∷ xs) (suc i) x = ap (λ l. y ∷ l) (take-set-front n xs i x)

pub nth_some : {X : Type 0} (xs : List X) (i : ℕ) (x d : X) → slice_get xs i ≡ Some x → (i < length xs) × (get_or xs i d ≡ x)
nth_some [] i x d e = absurd (grind arith)
nth_some (y ∷ xs) zero x d e = (omega arith, cc)
nth_some (y ∷ xs) (suc i) x d e = let r = nth_some xs i x d e in (omega arith, r.1)
