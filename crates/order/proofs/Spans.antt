-- Lists by position, and what a matrix adds.
use Rattle.std.proofs.Common.{◌≡◌, ℕ, zero, suc, ◌+◌, ◌-◌, ◌<◌, ◌≤◌, max, Bool, true, false, cond, leb, List, [], ◌∷◌, ◌++◌, length, get_or, take, drop, is_some, Some, None, Option, sym, refl, ap, ◌∙◌, ap₂, suc-add, zero-add, add-one, arith, length-append}
use Rattle.std.proofs.lemmas.List.{append-nil, append_assoc, take-append-drop, take_more}
use Rattle.std.proofs.lemmas.Bool.{leb-true, le-leb, lt-leb, cond-true, cond-false, true≢false, false≢true}
use Rattle.std.specs.List.{slice_get}
use Rattle.std.specs.Option.{SomeIff, option_and_then}
use Rattle.model.specs.Quorums.{stations}
use Rattle.order.specs.Columns.{Matrix, column}
use Rattle.order.specs.Orders.{key, reach, span, each, added, raised, order_after, order, total, after, found}
use Rattle.order.specs.declared.key.Key.{Key}

pub total_same : (g h : ℕ → ℕ) (n : ℕ) → ((o : ℕ) → o < n → g o ≡ h o) → total n g ≡ total n h
total_same g h zero e = refl
total_same g h (suc n) e = ap₂ (λ a b. a + b) (total_same g h n (λ o l. e o (omega arith))) (e n (omega arith))

pub total-none : (n : ℕ) → total n (λ o. 0) ≡ 0
total-none zero = refl
total-none (suc n) = omega (arith, total-none n)

cond_same : {A : Type 0} (b : Bool) (x y z : A) → (b ≡ true → x ≡ y) → cond b x z ≡ cond b y z
cond_same true x y z e = e refl
cond_same false x y z e = refl

-- ---- positions

module _ {A : Type 0} where
  pub nth_left : (xs ys : List A) (k : ℕ) → k < length xs → slice_get (xs ++ ys) k ≡ slice_get xs k
  nth_left [] ys k l = absurd (omega arith)
  nth_left (x ∷ xs) ys zero l = refl
  nth_left (x ∷ xs) ys (suc k) l = nth_left xs ys k (omega arith)

  pub nth_right : (xs ys : List A) (k : ℕ) → length xs ≤ k → slice_get (xs ++ ys) k ≡ slice_get ys (k - length xs)
  nth_right [] ys k l = let e : k - 0 ≡ k = omega arith in rw e refl
  nth_right (x ∷ xs) ys zero l = absurd (omega arith)
  nth_right (x ∷ xs) ys (suc k) l = let e : suc k - suc (length xs) ≡ k - length xs = omega arith in rw e (nth_right xs ys k (omega arith))

  pub nth_lt : (xs : List A) (k : ℕ) → is_some (slice_get xs k) ≡ true → k < length xs
  nth_lt [] k h = absurd (false≢true h)
  nth_lt (x ∷ xs) zero h = omega arith
  nth_lt (x ∷ xs) (suc k) h = omega (arith, nth_lt xs k h)

  pub nth_none : (xs : List A) (k : ℕ) → is_some (slice_get xs k) ≡ false → length xs ≤ k
  nth_none [] k h = omega arith
  nth_none (x ∷ xs) zero h = absurd (true≢false h)
  nth_none (x ∷ xs) (suc k) h = omega (arith, nth_none xs k h)

-- ---- what a matrix adds

pub length-span : (o a d : ℕ) → length (span o a d) ≡ d
length-span o a zero = refl
length-span o a (suc d) = ap suc (length-span o (suc a) d)

pub nth_span : (o a d k : ℕ) → k < d → slice_get (span o a d) k ≡ Some (key o (a + 1 + k))
nth_span o a zero k l = absurd (omega arith)
nth_span o a (suc d) zero l = let e : a + 1 + 0 ≡ suc a = omega arith in rw e refl
nth_span o a (suc d) (suc k) l =
    let e : a + 1 + suc k ≡ suc a + 1 + k = omega arith in rw e (nth_span o (suc a) d k (omega arith))

pub each_same : (n : ℕ) (g h : ℕ → List Key) → ((o : ℕ) → o < n → g o ≡ h o) → each n g ≡ each n h
each_same zero g h e = refl
each_same (suc n) g h e = ap₂ (λ a b. a ++ b) (each_same n g h (λ o l. e o (omega arith))) (e n (omega arith))

pub each_more : (g : ℕ → List Key) (n : ℕ) → each (n + 1) g ≡ each n g ++ g n
each_more g n = rw add-one refl

-- the first of them stand in front
pub each_front : (g : ℕ → List Key) (d m k : ℕ) → k < length (each m g) → slice_get (each (d + m) g) k ≡ slice_get (each m g) k
each_front g zero m k l = rw zero-add refl
each_front g (suc d) m k l =
    rw suc-add (nth_left (each (d + m) g) (g (d + m)) k (omega (arith, each_grows g d m)) ∙ each_front g d m k l)
  where
    each_grows : (h : ℕ → List Key) (c n : ℕ) → length (each n h) ≤ length (each (c + n) h)
    each_grows h zero n = rw zero-add (omega arith)
    each_grows h (suc c) n = rw (suc-add, length-append) (omega (arith, each_grows h c n))

-- position k lies in what o gives
pub nth_each : (g : ℕ → List Key) (n o k : ℕ) (x : Key) → o < n → length (each o g) ≤ k → slice_get (g o) (k - length (each o g)) ≡ Some x → k - length (each o g) < length (g o)
    → slice_get (each n g) k ≡ Some x
nth_each g n o k x l past at low =
    let e : n - (o + 1) + (o + 1) ≡ n = omega arith in
    let long : length (each (o + 1) g) ≡ length (each o g) + length (g o) = ap length (each_more g o) ∙ length-append (each o g) (g o) in
    ap (λ m. slice_get (each m g) k) (sym e) ∙ each_front g (n - (o + 1)) (o + 1) k (omega (arith, long))
    ∙ ap (λ xs. slice_get xs k) (each_more g o) ∙ nth_right (each o g) (g o) k past ∙ at

module _ (f limit : ℕ) where
  pub added_same : (b c : ℕ → ℕ) (X : Matrix) → ((o : ℕ) → o < stations f → b o ≡ c o) → added f limit b X ≡ added f limit c X
  added_same b c X e =
      each_same (stations f) (λ o. span o (b o) (column f limit X o - b o)) (λ o. span o (c o) (column f limit X o - c o))
      (λ o l. ap (λ a. span o a (column f limit X o - a)) (e o l))

  length-each : (n : ℕ) (b : ℕ → ℕ) (X : Matrix)
      → length (each n (λ o. span o (b o) (column f limit X o - b o))) + total n b ≡ total n (raised f limit b X)
  length-each zero b X = refl
  length-each (suc n) b X =
      let s = length-append (each n (λ o. span o (b o) (column f limit X o - b o))) (span n (b n) (column f limit X n - b n)) in
      omega (arith, s, length-span n (b n) (column f limit X n - b n), length-each n b X)

  pub length-added : (b : ℕ → ℕ) (X : Matrix) → length (added f limit b X) + total (stations f) b ≡ total (stations f) (raised f limit b X)
  length-added b X = length-each (stations f) b X

  -- ---- orders, matrix by matrix

  pub after_same : (b c : ℕ → ℕ) (Xs : List Matrix) → ((o : ℕ) → o < stations f → b o ≡ c o) → order_after f limit b Xs ≡ order_after f limit c Xs
  after_same b c [] e = refl
  after_same b c (X ∷ Xs) e =
      ap₂ (λ a d. a ++ d) (added_same b c X e) (after_same (raised f limit b X) (raised f limit c X) Xs (λ o l. ap (λ a. max a (column f limit X o)) (e o l)))

  pub order-append : (b : ℕ → ℕ) (Xs Ys : List Matrix)
      → order_after f limit b (Xs ++ Ys) ≡ order_after f limit b Xs ++ order_after f limit (λ o. max (b o) (reach f limit Xs o)) Ys
  order-append b [] Ys = after_same b (λ o. max (b o) 0) Ys (λ o l. omega arith)
  order-append b (X ∷ Xs) Ys =
      ap (λ ks. added f limit b X ++ ks) (
      order-append (raised f limit b X) Xs Ys
      ∙ ap (λ ks. order_after f limit (raised f limit b X) Xs ++ ks)
      (after_same (λ o. max (raised f limit b X o) (reach f limit Xs o)) (λ o. max (b o) (reach f limit (X ∷ Xs) o)) Ys (λ o l. omega arith))
      )
      ∙ sym (append_assoc (added f limit b X) (order_after f limit (raised f limit b X) Xs) (order_after f limit (λ o. max (b o) (reach f limit (X ∷ Xs) o)) Ys))

  pub length-after : (b : ℕ → ℕ) (Xs : List Matrix)
      → length (order_after f limit b Xs) + total (stations f) b ≡ total (stations f) (λ o. max (b o) (reach f limit Xs o))
  length-after b [] = zero-add (total (stations f) b) ∙ total_same b (λ o. max (b o) 0) (stations f) (λ o l. omega arith)
  length-after b (X ∷ Xs) =
      let s = length-append (added f limit b X) (order_after f limit (raised f limit b X) Xs) in
      let t = total_same (λ o. max (raised f limit b X o) (reach f limit Xs o)) (λ o. max (b o) (reach f limit (X ∷ Xs) o)) (stations f) (λ o l. omega arith) in
      omega (arith, s, t, length-added b X, length-after (raised f limit b X) Xs)

  -- an order is as long as all reaches together
  pub length-order : (Xs : List Matrix) → length (order f limit Xs) ≡ total (stations f) (reach f limit Xs)
  length-order Xs =
      let z = total-none (stations f) in
      let t = total_same (λ o. max 0 (reach f limit Xs o)) (reach f limit Xs) (stations f) (λ o l. omega arith) in
      omega (arith, z, t, length-after (λ o. 0) Xs)

  -- one matrix more
  pub order_push : (Xs : List Matrix) (X : Matrix) → order f limit (Xs ++ X ∷ []) ≡ order f limit Xs ++ added f limit (reach f limit Xs) X
  order_push Xs X =
      order-append (λ o. 0) Xs (X ∷ [])
      ∙ ap (λ ks. order f limit Xs ++ ks) (
      append-nil (added f limit (λ o. max 0 (reach f limit Xs o)) X)
      ∙ added_same (λ o. max 0 (reach f limit Xs o)) (reach f limit Xs) X (λ o l. omega arith)
      )

  pub reach_push : (Xs : List Matrix) (X : Matrix) (o : ℕ) → reach f limit (Xs ++ X ∷ []) o ≡ raised f limit (reach f limit Xs) X o
  reach_push [] X o = omega arith
  reach_push (Y ∷ Xs) X o = omega (arith, reach_push Xs X o)

  -- what stands at k after one matrix more, if not before
  pub after_push : (Xs : List Matrix) (X : Matrix) (b : ℕ → ℕ) (k : ℕ) → ((o : ℕ) → o < stations f → b o ≡ reach f limit Xs o)
      → after (total (stations f) b) (added f limit b X) k ≡ found f limit Xs X k
  after_push Xs X b k e =
      let long : total (stations f) b ≡ length (order f limit Xs) = total_same b (reach f limit Xs) (stations f) e ∙ sym (length-order Xs) in
      ap₂ (λ m ks. after m ks k) long (added_same b (reach f limit Xs) X e)
      ∙ ap (λ x. x) (cond_same (leb (length (order f limit Xs)) k) (slice_get (added f limit (reach f limit Xs) X) (k - length (order f limit Xs))) (slice_get (order f limit (Xs ++ X ∷ [])) k) None
      (λ h. sym (ap (λ ks. slice_get ks k) (order_push Xs X) ∙ nth_right (order f limit Xs) (added f limit (reach f limit Xs) X) k (leb-true (length (order f limit Xs)) k h))))

-- the position is that of a sequence of origin o
pub added_here : (f limit : ℕ) (b : ℕ → ℕ) (X : Matrix) (o left k : ℕ) → o < stations f
    → left + length (each o (λ p. span p (b p) (column f limit X p - b p))) ≡ k → left < column f limit X o - b o
    → slice_get (added f limit b X) k ≡ Some (key o (b o + 1 + left))
added_here f limit b X o left k l e low =
    let g : ℕ → List Key = λ p. span p (b p) (column f limit X p - b p) in
    let d : k - length (each o g) ≡ left = omega arith in
    nth_each g (stations f) o k (key o (b o + 1 + left)) l (omega arith)
    (ap (λ m. slice_get (g o) m) d ∙ nth_span o (b o) (column f limit X o - b o) left low)
    (omega (arith, d, length-span o (b o) (column f limit X o - b o)))

-- the origin's sequences are passed
pub added_passed : (f limit : ℕ) (b : ℕ → ℕ) (X : Matrix) (o left k : ℕ)
    → left + length (each o (λ p. span p (b p) (column f limit X p - b p))) ≡ k → column f limit X o - b o ≤ left
    → left - (column f limit X o - b o) + length (each (o + 1) (λ p. span p (b p) (column f limit X p - b p))) ≡ k
added_passed f limit b X o left k e low =
    let g : ℕ → List Key = λ p. span p (b p) (column f limit X p - b p) in
    let long : length (each (o + 1) g) ≡ length (each o g) + length (g o) = ap length (each_more g o) ∙ length-append (each o g) (g o) in
    omega (arith, long, length-span o (b o) (column f limit X o - b o))

-- what is asked for lies before, or in what is added
pub after_earlier : (earlier : ℕ) (keys : List Key) (k : ℕ) → k < earlier → after earlier keys k ≡ None
after_earlier earlier keys k l = cond-false (leb earlier k) (slice_get keys (k - earlier)) None (lt-leb earlier k l)

pub after_later : (earlier : ℕ) (keys : List Key) (k : ℕ) → earlier ≤ k → after earlier keys k ≡ slice_get keys (k - earlier)
after_later earlier keys k l = cond-true (leb earlier k) (slice_get keys (k - earlier)) None (le-leb earlier k l)

pub after_sub : (m earlier : ℕ) (r : Option ℕ) (k : ℕ) (keys : List Key) → m ≡ earlier → SomeIff r (m ≤ k) (k - m) → option_and_then (λ p. slice_get keys p) r ≡ after earlier keys k
after_sub m earlier None k keys e h = sym (after_earlier earlier keys k (omega arith))
after_sub m earlier (Some x) k keys e (l, d) = let g : x ≡ k - earlier = omega arith in ap (λ p. slice_get keys p) g ∙ sym (after_later earlier keys k (omega arith))

module _ (f limit : ℕ) where
  pub found_later : (Xs : List Matrix) (X : Matrix) (k : ℕ) → length (order f limit Xs) ≤ k → found f limit Xs X k ≡ slice_get (order f limit (Xs ++ X ∷ [])) k
  found_later Xs X k l = cond-true (leb (length (order f limit Xs)) k) (slice_get (order f limit (Xs ++ X ∷ [])) k) None (le-leb (length (order f limit Xs)) k l)

  -- the order over fewer matrices stands in front
  pub order-front : (Xs Ys : List Matrix) (k : ℕ) → k < length (order f limit Xs) → slice_get (order f limit (Xs ++ Ys)) k ≡ slice_get (order f limit Xs) k
  order-front Xs Ys k l =
      ap (λ ks. slice_get ks k) (order-append f limit (λ o. 0) Xs Ys) ∙ nth_left (order f limit Xs) (order_after f limit (λ o. max 0 (reach f limit Xs o)) Ys) k l

  pub order-front-take : (i : ℕ) (Xs : List Matrix) (k : ℕ) → k < length (order f limit (take i Xs)) → slice_get (order f limit Xs) k ≡ slice_get (order f limit (take i Xs)) k
  order-front-take i Xs k l = ap (λ Ys. slice_get (order f limit Ys) k) (sym (take-append-drop i Xs)) ∙ order-front (take i Xs) (drop i Xs) k l

  pub found_step : (Xs : List Matrix) (i k : ℕ) (r : Option Key) → i < length Xs → length (order f limit (take i Xs)) ≤ k
      → r ≡ found f limit (take i Xs) (get_or Xs i []) k → r ≡ slice_get (order f limit (take (i + 1) Xs)) k
  found_step Xs i k r l low e = e ∙ found_later (take i Xs) (get_or Xs i []) k low ∙ ap (λ Ys. slice_get (order f limit Ys) k) (sym (take_more Xs i [] l))
