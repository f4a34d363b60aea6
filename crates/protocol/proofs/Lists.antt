-- Lists by position.
use Rattle.std.proofs.Common.{◌≡◌, ℕ, zero, suc, ◌<◌, ◌≤◌, ◌⊎◌, List, [], ◌∷◌, ◌++◌, map, length, Some, None, Option, sym, refl, ap, inl, inr, arith}
use Rattle.std.specs.List.{slice_get}
use Rattle.order.specs.Laws.{In}
use Rattle.order.proofs.Sequence.{in_append}
use Rattle.protocol.specs.Claims.{Beginning}

module _ {A : Type 0} where
  pub never : {x : A} → ◌≡◌ {A = Option A} None (Some x) → ⊥
  never h = let z : ◌≡◌ {A = ℕ} 0 1 = cc in omega arith

  pub nth_lt : (xs : List A) (p : ℕ) (x : A) → slice_get xs p ≡ Some x → p < length xs
  nth_lt [] p x h = absurd (never h)
  nth_lt (y ∷ ys) zero x h = omega arith
  nth_lt (y ∷ ys) (suc p) x h = omega (arith, nth_lt ys p x h)

  pub nth_below : (xs : List A) (p q : ℕ) (y : A) → slice_get xs q ≡ Some y → p ≤ q → (x : A) × (slice_get xs p ≡ Some x)
  nth_below [] p q y h le = absurd (never h)
  nth_below (z ∷ zs) zero q y h le = (z, refl)
  nth_below (z ∷ zs) (suc p) zero y h le = absurd (omega arith)
  nth_below (z ∷ zs) (suc p) (suc q) y h le = nth_below zs p q y h (omega arith)

  -- a list with one more at its end
  pub nth_push : (xs : List A) (x : A) (p : ℕ) (y : A) → slice_get (xs ++ (x ∷ [])) p ≡ Some y → (slice_get xs p ≡ Some y) ⊎ ((p ≡ length xs) × (y ≡ x))
  nth_push [] x zero y h = inr (refl, cc)
  nth_push [] x (suc p) y h = absurd (never h)
  nth_push (z ∷ zs) x zero y h = inl h
  nth_push (z ∷ zs) x (suc p) y h = elim (nth_push zs x p y h) [ inl e ↦ inl e | inr e ↦ inr (ap suc e.0, e.1) ]

  pub nth_old : (xs ys : List A) (p : ℕ) (y : A) → slice_get xs p ≡ Some y → slice_get (xs ++ ys) p ≡ Some y
  nth_old [] ys p y h = absurd (never h)
  nth_old (z ∷ zs) ys zero y h = h
  nth_old (z ∷ zs) ys (suc p) y h = nth_old zs ys p y h

  pub nth_new : (xs : List A) (x : A) → slice_get (xs ++ (x ∷ [])) (length xs) ≡ Some x
  nth_new [] x = refl
  nth_new (z ∷ zs) x = nth_new zs x

  pub in_nth : (xs : List A) (x : A) → In x xs → (p : ℕ) × (slice_get xs p ≡ Some x)
  in_nth [] x h = absurd h
  in_nth (y ∷ ys) x (inl e) = (0, ap Some (sym e))
  in_nth (y ∷ ys) x (inr h) = let r = in_nth ys x h in (suc r.0, r.1)

  pub in_push : (xs : List A) (m x : A) → In x (xs ++ (m ∷ [])) → (x ≡ m) ⊎ In x xs
  in_push xs m x h = elim (in_append xs (m ∷ []) x h) [ inl a ↦ inr a | inr b ↦ (elim b [ inl e ↦ inl e | inr z ↦ absurd z ]) ]

  -- two lists that agree at each position, and are equally long, are equal
  pub same_lists : (xs ys : List A) → length xs ≡ length ys → ((p : ℕ) (x y : A) → slice_get xs p ≡ Some x → slice_get ys p ≡ Some y → x ≡ y) → xs ≡ ys
  same_lists [] [] l h = refl
  same_lists [] (y ∷ ys) l h = absurd (omega arith)
  same_lists (x ∷ xs) [] l h = absurd (omega arith)
  same_lists (x ∷ xs) (y ∷ ys) l h =
      let e = h 0 x y refl refl in let t = same_lists xs ys (omega arith) (λ p. h (suc p)) in cc

  -- what stands at each position of a list stands there in another
  pub beginning : (xs ys : List A) → ((p : ℕ) (x : A) → slice_get xs p ≡ Some x → slice_get ys p ≡ Some x) → Beginning xs ys
  beginning [] ys h = (ys, refl)
  beginning (x ∷ xs) [] h = absurd (never (h 0 x refl))
  beginning (x ∷ xs) (y ∷ ys) h =
      let e = h 0 x refl in let r = beginning xs ys (λ p. h (suc p)) in let t = r.1 in (r.0, cc)

pub nth_map : {A B : Type 0} (g : A → B) (xs : List A) (p : ℕ) (y : B) → slice_get (map g xs) p ≡ Some y → (x : A) × (slice_get xs p ≡ Some x) × (g x ≡ y)
nth_map g [] p y h = absurd (never h)
nth_map g (x ∷ xs) zero y h = (x, refl, cc)
nth_map g (x ∷ xs) (suc p) y h = nth_map g xs p y h
