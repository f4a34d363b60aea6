-- Lists whose front has one meaning, and that keep what lies behind it.
use Rattle.std.proofs.Common.{◌≡◌, ℕ, zero, suc, ◌<◌, ◌≤◌, List, [], ◌∷◌, length, get_or, map, drop, sym, refl, ap, ◌∙◌, arith}
use Rattle.std.proofs.lemmas.List.{map-id}
use Rattle.tables.specs.Cleared.{front}

-- Each of the first n items means y; the rest is as it was.
pub fronted : {X Y : Type 0} (v : X → Y) (y : Y) (n : ℕ) (after before : List X) → n ≤ length before → length after ≡ length before
    → ((k : ℕ) (d : X) → k < n → v (get_or after k d) ≡ y) → drop n after ≡ drop n before → map v after ≡ front n y (map v before)
fronted v y zero after before h l f e = ap (map v) e
fronted v y (suc n) after [] h l f e = absurd (omega arith)
fronted v y (suc n) [] (b ∷ before) h l f e = absurd (omega arith)
fronted v y (suc n) (a ∷ after) (b ∷ before) h l f e =
    let first : v a ≡ y = f 0 a (omega arith) in
    let rest : map v after ≡ front n y (map v before) = fronted v y n after before (omega arith) (omega arith) (λ k d less. f (suc k) d (omega arith)) e in
    rw (first, rest) refl

-- Each of the first n items is x; the rest is as it was.
pub fronted_same : {X : Type 0} (x : X) (n : ℕ) (after before : List X) → n ≤ length before → length after ≡ length before
    → ((k : ℕ) (d : X) → k < n → get_or after k d ≡ x) → drop n after ≡ drop n before → after ≡ front n x before
fronted_same x n after before h l f e = sym (map-id after) ∙ fronted (λ y. y) x n after before h l f e ∙ ap (front n x) (map-id before)
