-- What stands in an order, and in which sequence.
use Rattle.std.proofs.Common.{◌≡◌, ℕ, zero, suc, ◌+◌, ◌-◌, ◌<◌, ◌≤◌, max, Bool, eqb, leb, ◌≢◌, ◌⊎◌, List, [], ◌∷◌, ◌++◌, length, take, Some, None, Option, sym, refl, ap, ◌∙◌, subst, ap₂, inl, inr, arith}
use lib.Count.{ones}
use Rattle.std.proofs.lemmas.List.{append-nil}
use Rattle.std.proofs.lemmas.Bool.{cases_Bool, cases_lt, cases_eq, eq-eqb, ne_eqb, leb-true, le-leb}
use Rattle.std.specs.List.{slice_get}
use Rattle.model.specs.Quorums.{AtLeast, stations, quorum}
use Rattle.model.proofs.Members.{gathered_lt, gathered_in, gathered_from, ones_subset}
use Rattle.order.specs.Columns.{Matrix, cell, column, rows_with}
use Rattle.order.specs.Laws.{In, Once, Begins, sequences, upward, Gapless, Backed, Adds, Before, Rising, IsOrder, Unique, OrderLaws}
use Rattle.order.specs.Orders.{key, reach, span, each, added, raised, order_after, order}
use Rattle.order.specs.declared.key.Key.{Key}
use Rattle.order.proofs.Searching.{largest_le, largest_passes}
use Rattle.order.proofs.Spans.{order-append}

-- ---- members

module _ {A : Type 0} where
  pub in_append : (xs ys : List A) (x : A) → In x (xs ++ ys) → In x xs ⊎ In x ys
  in_append [] ys x h = inr h
  in_append (z ∷ zs) ys x (inl e) = inl (inl e)
  in_append (z ∷ zs) ys x (inr h) = elim (in_append zs ys x h) [ inl a ↦ inl (inr a) | inr b ↦ inr b ]

  pub in_left : (xs ys : List A) (x : A) → In x xs → In x (xs ++ ys)
  in_left [] ys x h = absurd h
  in_left (z ∷ zs) ys x (inl e) = inl e
  in_left (z ∷ zs) ys x (inr h) = inr (in_left zs ys x h)

  pub in_right : (xs ys : List A) (x : A) → In x ys → In x (xs ++ ys)
  in_right [] ys x h = h
  in_right (z ∷ zs) ys x h = inr (in_right zs ys x h)

  pub in_take : (n : ℕ) (xs : List A) (x : A) → In x (take n xs) → In x xs
  in_take zero xs x h = absurd h
  in_take (suc n) [] x h = absurd h
  in_take (suc n) (y ∷ ys) x (inl e) = inl e
  in_take (suc n) (y ∷ ys) x (inr h) = inr (in_take n ys x h)

  some-none : {x : A} → ◌≡◌ {A = Option A} None (Some x) → ⊥
  some-none h = let z : ◌≡◌ {A = ℕ} 0 1 = cc in omega arith

  pub nth_in : (xs : List A) (p : ℕ) (x : A) → slice_get xs p ≡ Some x → In x xs
  nth_in [] p x h = absurd (some-none h)
  nth_in (y ∷ ys) zero x h = inl cc
  nth_in (y ∷ ys) (suc p) x h = inr (nth_in ys p x h)

  -- ---- rising lists

  rising_append : (R : A → A → Type 0) (xs ys : List A) → Rising R xs → Rising R ys → ((x y : A) → In x xs → In y ys → R x y) → Rising R (xs ++ ys)
  rising_append R [] ys hx hy cross = hy
  rising_append R (x ∷ xs) ys (h, hx) hy cross = (
    λ y m. elim (in_append xs ys y m) [ inl a ↦ h y a | inr b ↦ cross x y (inl refl) b ],
    rising_append R xs ys hx hy (λ z y a b. cross z y (inr a) b),
  )

  rising_weaker : (R S : A → A → Type 0) (xs : List A) → ((x y : A) → In x xs → In y xs → R x y → S x y) → Rising R xs → Rising S xs
  rising_weaker R S [] w h = tt
  rising_weaker R S (x ∷ xs) w (h, hs) = (λ y m. w x y (inl refl) (inr m) (h y m), rising_weaker R S xs (λ y z a b. w y z (inr a) (inr b)) hs)

  -- a rising list has no element twice
  rising_once : (R : A → A → Type 0) → ((x : A) → R x x → ⊥) → (xs : List A) → Rising R xs → (p q : ℕ) (x : A) → slice_get xs p ≡ Some x → slice_get xs q ≡ Some x → p ≡ q
  rising_once R irr [] h p q x a b = absurd (some-none a)
  rising_once R irr (y ∷ ys) h zero zero x a b = refl
  rising_once R irr (y ∷ ys) (h, hs) zero (suc q) x a b = let e : y ≡ x = cc in absurd (irr x (subst (λ z. R z x) e (h x (nth_in ys q x b))))
  rising_once R irr (y ∷ ys) (h, hs) (suc p) zero x a b = let e : y ≡ x = cc in absurd (irr x (subst (λ z. R z x) e (h x (nth_in ys p x a))))
  rising_once R irr (y ∷ ys) (h, hs) (suc p) (suc q) x a b = ap suc (rising_once R irr ys hs p q x a b)

  -- two rising lists with the same elements are one
  rising_same : (R : A → A → Type 0) → ((x y : A) → R x y → R y x → ⊥) → (xs ys : List A) → Rising R xs → Rising R ys
      → ((x : A) → In x xs → In x ys) → ((x : A) → In x ys → In x xs) → xs ≡ ys
  rising_same R asym [] [] hx hy a b = refl
  rising_same R asym [] (y ∷ ys) hx hy a b = absurd (b y (inl refl))
  rising_same R asym (x ∷ xs) [] hx hy a b = absurd (a x (inl refl))
  rising_same R asym (x ∷ xs) (y ∷ ys) (h, hs) (k, ks) a b =
      let e : x ≡ y = first (a x (inl refl)) (b y (inl refl)) in
      let t = rising_same R asym xs ys hs ks
      (λ z m. elim (a z (inr m)) [ inl d ↦ absurd (twice x xs h (subst (λ w. In w xs) (d ∙ sym e) m)) | inr n ↦ n ])
      (λ z m. elim (b z (inr m)) [ inl d ↦ absurd (twice y ys k (subst (λ w. In w ys) (d ∙ e) m)) | inr n ↦ n ])
      in
      ap₂ (λ z zs. z ∷ zs) e t
    where
      first : (x ≡ y) ⊎ In x ys → (y ≡ x) ⊎ In y xs → x ≡ y
      first (inl e) m = e
      first (inr n) (inl e) = sym e
      first (inr n) (inr m) = absurd (asym x y (h y m) (k x n))

      twice : (z : A) (zs : List A) → ((w : A) → In w zs → R z w) → In z zs → ⊥
      twice z zs r m = asym z z (r z m) (r z m)

-- ---- what a matrix adds

in_span : (o a d : ℕ) (x : Key) → In x (span o a d) → (x.origin ≡ o) × (a < x.sequence) × (x.sequence ≤ a + d)
in_span o a zero x h = absurd h
in_span o a (suc d) x (inl e) = let t : x.sequence ≡ suc a = ap (λ k. k.sequence) e in (ap (λ k. k.origin) e, omega arith, omega arith)
in_span o a (suc d) x (inr h) = let r = in_span o (suc a) d x h in (r.0, omega (arith, r.1), omega (arith, r.2))

span_in : (o a d : ℕ) (x : Key) → x.origin ≡ o → a < x.sequence → x.sequence ≤ a + d → In x (span o a d)
span_in o a zero x e low high = absurd (omega arith)
span_in o a (suc d) x e low high =
    elim (cases_eq x.sequence (suc a)) [
      | inl t ↦ inl (ap₂ key e t)
      | inr ne ↦ inr (span_in o (suc a) d x e (omega arith) (omega arith))
    ]

in_each : (n : ℕ) (g : ℕ → List Key) (x : Key) → In x (each n g) → (o : ℕ) × (o < n) × In x (g o)
in_each zero g x h = absurd h
in_each (suc n) g x h =
    elim (in_append (each n g) (g n) x h) [ inl a ↦ (let r = in_each n g x a in (r.0, omega (arith, r.1), r.2)) | inr b ↦ (n, omega arith, b) ]

each_in : (n : ℕ) (g : ℕ → List Key) (x : Key) (o : ℕ) → o < n → In x (g o) → In x (each n g)
each_in zero g x o l h = absurd (omega arith)
each_in (suc n) g x o l h =
    elim (cases_eq o n) [ inl e ↦ in_right (each n g) (g n) x (subst (λ p. In x (g p)) e h) | inr ne ↦ in_left (each n g) (g n) x (each_in n g x o (omega arith) h) ]

Less : Key → Key → Type 0
Less x y = (x.origin < y.origin) ⊎ ((x.origin ≡ y.origin) × (x.sequence < y.sequence))

span_rising : (o a d : ℕ) → Rising Less (span o a d)
unfolding Less
span_rising o a zero = tt
span_rising o a (suc d) = (λ y m. let r = in_span o (suc a) d y m in inr (sym r.0, r.1), span_rising o (suc a) d)

each_rising : (n : ℕ) (g : ℕ → List Key) → ((o : ℕ) (x : Key) → In x (g o) → x.origin ≡ o) → ((o : ℕ) → Rising Less (g o)) → Rising Less (each n g)
unfolding Less
each_rising zero g own h = tt
each_rising (suc n) g own h =
    rising_append Less (each n g) (g n) (each_rising n g own h) (h n)
    (λ x y a b. let r = in_each n g x a in inl (omega (arith, r.1, own r.0 x r.2, own n y b)))

-- ---- orders after other matrices

module _ (f limit : ℕ) where
  -- the proposal after n others adds x, where the reaches were b before all of them
  record After (b : ℕ → ℕ) (Xs : List Matrix) (n : ℕ) (x : Key) : Type 0 where
    place : n < length Xs
    known : x.origin < stations f
    above : max (b x.origin) (reach f limit (take n Xs) x.origin) < x.sequence
    within : x.sequence ≤ max (b x.origin) (reach f limit (take (suc n) Xs) x.origin)

  -- the proposal itself, and those after it
  here_added : (b : ℕ → ℕ) (X : Matrix) (Xs : List Matrix) (x : Key) → In x (added f limit b X) → After b (X ∷ Xs) 0 x
  here_added b X Xs x h =
      let r = in_each (stations f) (λ o. span o (b o) (column f limit X o - b o)) x h in
      let s = in_span r.0 (b r.0) (column f limit X r.0 - b r.0) x r.2 in
      let e = ap b s.0 in
      let d = ap (column f limit X) s.0 in
      record { place = omega arith; known = omega (arith, s.0, r.1); above = omega (arith, s.1, e); within = omega (arith, s.1, s.2, e, d) }

  added_here : (b : ℕ → ℕ) (X : Matrix) (Xs : List Matrix) (x : Key) → After b (X ∷ Xs) 0 x → In x (added f limit b X)
  added_here b X Xs x h =
      each_in (stations f) (λ o. span o (b o) (column f limit X o - b o)) x x.origin h.known
      (span_in x.origin (b x.origin) (column f limit X x.origin - b x.origin) x refl (omega (arith, h.above)) (omega (arith, h.above, h.within)))

  later : (b : ℕ → ℕ) (X : Matrix) (Xs : List Matrix) (n : ℕ) (x : Key) → After (raised f limit b X) Xs n x → After b (X ∷ Xs) (suc n) x
  later b X Xs n x h = record { place = omega (arith, h.place); known = h.known; above = omega (arith, h.above); within = omega (arith, h.within) }

  sooner : (b : ℕ → ℕ) (X : Matrix) (Xs : List Matrix) (n : ℕ) (x : Key) → After b (X ∷ Xs) (suc n) x → After (raised f limit b X) Xs n x
  sooner b X Xs n x h = record { place = omega (arith, h.place); known = h.known; above = omega (arith, h.above); within = omega (arith, h.within) }

  in_after : (b : ℕ → ℕ) (Xs : List Matrix) (x : Key) → In x (order_after f limit b Xs) → (n : ℕ) × After b Xs n x
  in_after b [] x h = absurd h
  in_after b (X ∷ Xs) x h =
      elim (in_append (added f limit b X) (order_after f limit (raised f limit b X) Xs) x h) [
        | inl a ↦ (0, here_added b X Xs x a)
        | inr m ↦ (let r = in_after (raised f limit b X) Xs x m in (suc r.0, later b X Xs r.0 x r.1))
      ]

  after_in : (b : ℕ → ℕ) (Xs : List Matrix) (n : ℕ) (x : Key) → After b Xs n x → In x (order_after f limit b Xs)
  after_in b [] n x h = absurd (omega (arith, h.place))
  after_in b (X ∷ Xs) zero x h = in_left (added f limit b X) (order_after f limit (raised f limit b X) Xs) x (added_here b X Xs x h)
  after_in b (X ∷ Xs) (suc n) x h =
      in_right (added f limit b X) (order_after f limit (raised f limit b X) Xs) x (after_in (raised f limit b X) Xs n x (sooner b X Xs n x h))

  -- x comes before y, where the reaches were b
  Sooner : (ℕ → ℕ) → List Matrix → Key → Key → Type 0
  Sooner b Xs x y = (m : ℕ) × (n : ℕ) × After b Xs m x × After b Xs n y × ((m < n) ⊎ ((m ≡ n) × Less x y))

  added_rising : (b : ℕ → ℕ) (X : Matrix) → Rising Less (added f limit b X)
  added_rising b X =
      each_rising (stations f) (λ o. span o (b o) (column f limit X o - b o)) (λ o x h. (in_span o (b o) (column f limit X o - b o) x h).0)
      (λ o. span_rising o (b o) (column f limit X o - b o))

  after_rising : (b : ℕ → ℕ) (Xs : List Matrix) → Rising (Sooner b Xs) (order_after f limit b Xs)
  unfolding Sooner
  after_rising b [] = tt
  after_rising b (X ∷ Xs) =
      rising_append (Sooner b (X ∷ Xs)) (added f limit b X) (order_after f limit (raised f limit b X) Xs)
      (rising_weaker Less (Sooner b (X ∷ Xs)) (added f limit b X)
      (λ x y a c l. (0, 0, here_added b X Xs x a, here_added b X Xs y c, inr (refl, l))) (added_rising b X))
      (rising_weaker (Sooner (raised f limit b X) Xs) (Sooner b (X ∷ Xs)) (order_after f limit (raised f limit b X) Xs)
      (λ x y a c r. (
        suc r.0,
        suc r.1,
        later b X Xs r.0 x r.2,
        later b X Xs r.1 y r.3,
        (elim r.4 [ inl l ↦ inl (omega arith) | inr e ↦ inr (ap suc e.0, e.1) ]),
      ))
      (after_rising (raised f limit b X) Xs))
      (λ x y a c. let r = in_after (raised f limit b X) Xs y c in (0, suc r.0, here_added b X Xs x a, later b X Xs r.0 y r.1, inl (omega arith)))

  -- ---- from the start

  after_adds : (Xs : List Matrix) (n : ℕ) (x : Key) → After (λ o. 0) Xs n x → Adds f limit Xs n x
  after_adds Xs n x h = (h.place, h.known, omega (arith, h.above), omega (arith, h.within))

  adds_after : (Xs : List Matrix) (n : ℕ) (x : Key) → Adds f limit Xs n x → After (λ o. 0) Xs n x
  adds_after Xs n x h = record { place = h.0; known = h.1; above = omega (arith, h.2); within = omega (arith, h.3) }

  reach_mono : (o : ℕ) (Xs : List Matrix) (m n : ℕ) → m ≤ n → reach f limit (take m Xs) o ≤ reach f limit (take n Xs) o
  reach_mono o Xs zero n l = omega arith
  reach_mono o [] (suc m) zero l = absurd (omega arith)
  reach_mono o [] (suc m) (suc n) l = omega arith
  reach_mono o (X ∷ Xs) (suc m) zero l = absurd (omega arith)
  reach_mono o (X ∷ Xs) (suc m) (suc n) l = omega (arith, reach_mono o Xs m n (omega arith))

  -- an operation is added by one proposal
  adds_one : (Xs : List Matrix) (m n : ℕ) (x : Key) → Adds f limit Xs m x → Adds f limit Xs n x → m ≡ n
  adds_one Xs m n x h k =
      elim (cases_lt m n) [
        | inl l ↦ absurd (omega (arith, h.3, k.2, reach_mono x.origin Xs (suc m) n (omega arith)))
        | inr l ↦ (elim (cases_lt n m) [ inl d ↦ absurd (omega (arith, k.3, h.2, reach_mono x.origin Xs (suc n) m (omega arith))) | inr d ↦ omega arith ])
      ]

  before_one_way : (Xs : List Matrix) (x y : Key) → Before f limit Xs x y → Before f limit Xs y x → ⊥
  before_one_way Xs x y (m, n, hm, hn, h) (i, j, ki, kj, k) =
      let e = adds_one Xs m j x hm kj in
      let d = adds_one Xs n i y hn ki in
      elim h [
        | inl l ↦ (elim k [ inl r ↦ omega arith | inr r ↦ omega (arith, r.0) ])
        | inr l ↦ (elim k [
          | inl r ↦ omega (arith, l.0)
          | inr r ↦ (elim l.1 [
            | inl a ↦ (elim r.1 [ inl b ↦ omega arith | inr b ↦ omega (arith, b.0) ])
            | inr a ↦ (elim r.1 [ inl b ↦ omega (arith, a.0) | inr b ↦ omega (arith, a.1, b.1) ])
          ])
        ])
      ]

  is_order : (Xs : List Matrix) → IsOrder f limit Xs (order f limit Xs)
  unfolding Less Sooner
  is_order Xs =
      record {
        only = λ x m. let r = in_after (λ o. 0) Xs x m in (r.0, after_adds Xs r.0 x r.1);
        all = λ x n h. after_in (λ o. 0) Xs n x (adds_after Xs n x h);
        rises = rising_weaker (Sooner (λ o. 0) Xs) (Before f limit Xs) (order f limit Xs)
            (λ x y _ _ r. (r.0, r.1, after_adds Xs r.0 x r.2, after_adds Xs r.1 y r.3, r.4)) (after_rising (λ o. 0) Xs);
      }

pub unique : Unique
unique f limit Xs =
    let mine = is_order f limit Xs in (
      mine,
      λ keys other. rising_same (Before f limit Xs) (before_one_way f limit Xs) keys (order f limit Xs) other.rises mine.rises
          (λ x m. let r = other.only x m in mine.all x r.0 r.1) (λ x m. let r = mine.only x m in other.all x r.0 r.1),
    )

pub once : Once
once f limit Xs p q x =
    rising_once (Before f limit Xs) (λ z h. before_one_way f limit Xs z z h h) (order f limit Xs) (is_order f limit Xs).rises p q x

pub begins : Begins
begins f limit Xs Ys = (order_after f limit (λ o. max 0 (reach f limit Xs o)) Ys, order-append f limit (λ o. 0) Xs Ys)

-- ---- an origin's own sequences

seq_append : (o : ℕ) (xs ys : List Key) → sequences o (xs ++ ys) ≡ sequences o xs ++ sequences o ys
seq_append o [] ys = refl
seq_append o (x ∷ xs) ys =
    elim (cases_Bool (eqb x.origin o)) [
      | inl e ↦ rw e (ap (λ zs. x.sequence ∷ zs) (seq_append o xs ys))
      | inr e ↦ rw e (seq_append o xs ys)
    ]

seq_own : (o a d : ℕ) → sequences o (span o a d) ≡ upward a d
seq_own o a zero = refl
seq_own o a (suc d) = rw (eq-eqb o o refl) (ap (λ zs. suc a ∷ zs) (seq_own o (suc a) d))

seq_other : (o p a d : ℕ) → p ≢ o → sequences o (span p a d) ≡ []
seq_other o p a zero ne = refl
seq_other o p a (suc d) ne = rw (ne_eqb p o ne) (seq_other o p (suc a) d ne)

seq_past : (o n : ℕ) (b c : ℕ → ℕ) → n ≤ o → sequences o (each n (λ p. span p (b p) (c p - b p))) ≡ []
seq_past o zero b c l = refl
seq_past o (suc n) b c l =
    seq_append o (each n (λ p. span p (b p) (c p - b p))) (span n (b n) (c n - b n))
    ∙ ap₂ (λ xs ys. xs ++ ys) (seq_past o n b c (omega arith)) (seq_other o n (b n) (c n - b n) (λ e. omega arith))

seq_each : (o n : ℕ) (b c : ℕ → ℕ) → o < n → sequences o (each n (λ p. span p (b p) (c p - b p))) ≡ upward (b o) (c o - b o)
seq_each o zero b c l = absurd (omega arith)
seq_each o (suc n) b c l =
    seq_append o (each n (λ p. span p (b p) (c p - b p))) (span n (b n) (c n - b n))
    ∙ elim (cases_eq o n) [
      | inl e ↦
          ap₂ (λ xs ys. xs ++ ys) (seq_past o n b c (omega arith)) (ap (λ p. sequences o (span p (b p) (c p - b p))) (sym e) ∙ seq_own o (b o) (c o - b o))
      | inr ne ↦
          ap₂ (λ xs ys. xs ++ ys) (seq_each o n b c (omega arith)) (seq_other o n (b n) (c n - b n) (λ e. ne (sym e))) ∙ append-nil (upward (b o) (c o - b o))
    ]

upward-append : (a d e : ℕ) → upward a d ++ upward (a + d) e ≡ upward a (d + e)
upward-append a zero e = let z : a + 0 ≡ a = omega arith in let y : 0 + e ≡ e = omega arith in rw (z, y) refl
upward-append a (suc d) e =
    let z : a + suc d ≡ suc a + d = omega arith in let y : suc d + e ≡ suc (d + e) = omega arith in
    rw (z, y) (ap (λ zs. suc a ∷ zs) (upward-append (suc a) d e))

seq_after : (f limit : ℕ) (b : ℕ → ℕ) (Xs : List Matrix) (o : ℕ) → o < stations f
    → sequences o (order_after f limit b Xs) ≡ upward (b o) (max (b o) (reach f limit Xs o) - b o)
seq_after f limit b [] o l = let e : max (b o) 0 - b o ≡ 0 = omega arith in rw e refl
seq_after f limit b (X ∷ Xs) o l =
    let c = column f limit X o in
    let e : raised f limit b X o ≡ b o + (c - b o) = omega arith in
    let d : c - b o + (max (raised f limit b X o) (reach f limit Xs o) - raised f limit b X o) ≡ max (b o) (reach f limit (X ∷ Xs) o) - b o = omega arith in
    seq_append o (added f limit b X) (order_after f limit (raised f limit b X) Xs)
    ∙ ap₂ (λ xs ys. xs ++ ys) (seq_each o (stations f) b (column f limit X) l) (seq_after f limit (raised f limit b X) Xs o l
    ∙ ap (λ m. upward m (max (raised f limit b X o) (reach f limit Xs o) - raised f limit b X o)) e)
    ∙ upward-append (b o) (c - b o) (max (raised f limit b X o) (reach f limit Xs o) - raised f limit b X o) ∙ ap (upward (b o)) d

pub gapless : Gapless
gapless f limit Xs o l =
    let e : max 0 (reach f limit Xs o) - 0 ≡ reach f limit Xs o = omega arith in seq_after f limit (λ _. 0) Xs o l ∙ ap (upward 0) e

-- ---- who backs it

-- what a column's value covers has a quorum of rows
pub column_rows : (f limit : ℕ) (X : Matrix) (o s : ℕ) → 1 ≤ s → s ≤ column f limit X o → quorum f ≤ ones (rows_with f X o s)
column_rows f limit X o s low high =
    let v = column f limit X o in
    let test : ℕ → Bool = λ m. leb (quorum f) (ones (rows_with f X o m)) in
    let top = leb-true (quorum f) (ones (rows_with f X o v)) (largest_passes test limit (omega arith)) in
    let fewer = ones_subset (stations f) (rows_with f X o v) (rows_with f X o s) (gathered_lt (stations f) (λ k. leb v (cell (stations f) X k o)))
    (λ j m.
    let r = gathered_in (stations f) (λ k. leb v (cell (stations f) X k o)) j m in
    gathered_from (stations f) (λ k. leb s (cell (stations f) X k o)) j r.0 (le-leb s (cell (stations f) X j o) (omega (arith, leb-true v (cell (stations f) X j o) r.1))))
    in
    omega (arith, top, fewer)

pub column_le : (f limit : ℕ) (X : Matrix) (o : ℕ) → column f limit X o ≤ limit
column_le f limit X o = largest_le (λ m. leb (quorum f) (ones (rows_with f X o m))) limit

pub reach_le : (f limit : ℕ) (Xs : List Matrix) (o : ℕ) → reach f limit Xs o ≤ limit
reach_le f limit [] o = omega arith
reach_le f limit (X ∷ Xs) o = omega (arith, column_le f limit X o, reach_le f limit Xs o)

-- a reach is the value of some column
pub reach_from : (f limit : ℕ) (Xs : List Matrix) (o s : ℕ) → 1 ≤ s → s ≤ reach f limit Xs o → (X : Matrix) × In X Xs × (s ≤ column f limit X o)
reach_from f limit [] o s low high = absurd (omega arith)
reach_from f limit (X ∷ Xs) o s low high =
    elim (cases_lt (column f limit X o) s) [
      | inl l ↦ (let r = reach_from f limit Xs o s low (omega arith) in (r.0, inr r.1, r.2))
      | inr l ↦ (X, inl refl, l)
    ]

pub backed : Backed
backed f limit Xs x h =
    let a = (is_order f limit Xs).only x h in
    let low : 1 ≤ x.sequence = omega (arith, a.1.2) in
    let r = reach_from f limit (take (suc a.0) Xs) x.origin x.sequence low a.1.3 in (
      a.1.1,
      low,
      omega (arith, a.1.3, reach_le f limit (take (suc a.0) Xs) x.origin),
      (r.0, in_take (suc a.0) Xs r.0 r.1, column_rows f limit r.0 x.origin x.sequence low r.2),
    )

pub order_laws : OrderLaws
order_laws = record { once = once; begins = begins; gapless = gapless; backed = backed; unique = unique }

-- the rows that back it, as a count of stations
pub rows_least : (f : ℕ) (X : Matrix) (o s : ℕ) → f ≤ 5 → quorum f ≤ ones (rows_with f X o s) → AtLeast (quorum f) (λ k. (k < stations f) × (s ≤ cell (stations f) X k o))
rows_least f X o s low h = (
  rows_with f X o s,
  λ j m. omega (arith, (gathered_in (stations f) (λ k. leb s (cell (stations f) X k o)) j m).0),
  h,
  λ j m. let r = gathered_in (stations f) (λ k. leb s (cell (stations f) X k o)) j m in (r.0, leb-true s (cell (stations f) X j o) r.1),
)

-- ---- orders of matrices that agree agree

module _ {A : Type 0} where
  cut : (bs xs ys : List A) (p : ℕ) (x y : A) → slice_get (bs ++ xs) p ≡ Some x → slice_get (bs ++ ys) p ≡ Some y
      → ((q : ℕ) → slice_get xs q ≡ Some x → slice_get ys q ≡ Some y → x ≡ y) → x ≡ y
  cut [] xs ys p x y h k rest = rest p h k
  cut (b ∷ bs) xs ys zero x y h k rest = cc
  cut (b ∷ bs) xs ys (suc p) x y h k rest = cut bs xs ys p x y h k rest

after_agree : (f limit : ℕ) (b : ℕ → ℕ) (Xs Ys : List Matrix)
    → ((n : ℕ) (X Y : Matrix) → slice_get Xs n ≡ Some X → slice_get Ys n ≡ Some Y → X ≡ Y)
    → (p : ℕ) (x y : Key) → slice_get (order_after f limit b Xs) p ≡ Some x → slice_get (order_after f limit b Ys) p ≡ Some y → x ≡ y
after_agree f limit b [] Ys same p x y h k = absurd (some-none h)
after_agree f limit b (X ∷ Xs) [] same p x y h k = absurd (some-none k)
after_agree f limit b (X ∷ Xs) (Y ∷ Ys) same p x y h k =
    cut (added f limit b X) (order_after f limit (raised f limit b X) Xs) (order_after f limit (raised f limit b X) Ys) p x y h
    (subst (λ (Z : Matrix). slice_get (order_after f limit b (Z ∷ Ys)) p ≡ Some y) (sym (same 0 X Y refl refl)) k)
    (λ q. after_agree f limit (raised f limit b X) Xs Ys (λ n. same (suc n)) q x y)

pub orders_agree : (f limit : ℕ) (Xs Ys : List Matrix) → ((n : ℕ) (X Y : Matrix) → slice_get Xs n ≡ Some X → slice_get Ys n ≡ Some Y → X ≡ Y)
    → (p : ℕ) (x y : Key) → slice_get (order f limit Xs) p ≡ Some x → slice_get (order f limit Ys) p ≡ Some y → x ≡ y
orders_agree f limit Xs Ys = after_agree f limit (λ o. 0) Xs Ys
