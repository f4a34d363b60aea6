-- Members of a set, one digit at a time, and how many a set has.
use Rattle.std.proofs.Common.{◌≡◌, ℕ, zero, suc, ◌+◌, ◌-◌, ◌*◌, ◌/◌, ◌%◌, ◌^◌, ◌<◌, ◌≤◌, min, Bool, true, false, cond, ◌&&◌, eqb, ltb, ◌≢◌, ◌⊎◌, sym, refl, ap, ◌∙◌, subst, inl, inr, add-zero, one-mul, pow-suc, zero-add, div-one, one-add, arith, lit<}
use lib.Bits.{bit_and, bit_or, or_shr, or_mod, or_zero_r, or_shifted_r, or_lt, or_add_and, and_le_l, and_step}
use lib.Count.{ones, ones_step, ones_cat}
use native.Mathlib.Nat.{div-eq_of_lt, div_self, mul-mod_right, pow-succ'}
use Rattle.std.proofs.lemmas.Nat.{pow_below, pow-add, pow_pos, shl-shr, shr-shr, mod_below}
use Rattle.std.proofs.lemmas.Bool.{cases_order, cases_lt, cases_Bool, and_parts, eq-eqb, ne_eqb, eqb-true, eqb-false, ltb-true, lt-ltb, le-ltb, both_ways}
use Rattle.model.specs.Sets.{named, Names, Within, joined, parted, gathered}

-- ---- digits

pub named_zero : (set : ℕ) → named set 0 ≡ eqb (set % 2) 1
named_zero set = rw (div-one set) refl

pub named_suc : (set j : ℕ) → named set (suc j) ≡ named (set / 2) j
named_suc set j = rw (← one-add j, ← shr-shr set 1 j) refl

pub named_none : (j : ℕ) → named 0 j ≡ false
named_none zero = refl
named_none (suc j) = named_suc 0 j ∙ named_none j

odd : (set : ℕ) → Names set 0 → set % 2 ≡ 1
odd set h = eqb-true (set % 2) 1 (sym (named_zero set) ∙ h)

-- a set below 2 ^ n names only stations below n
pub above_none : (n set j : ℕ) → set < 2 ^ n → n ≤ j → named set j ≡ false
above_none zero set j h l = let e : set ≡ 0 = omega arith in rw e (named_none j)
above_none (suc n) set zero h l = absurd (omega arith)
above_none (suc n) set (suc j) h l = named_suc set j ∙ above_none n (set / 2) j (omega (arith, pow-suc 2 n)) (omega arith)

pub within_from_below : (n set : ℕ) → set < 2 ^ n → Within n set
within_from_below n set h j m =
    elim (cases_lt j n) [ inl l ↦ l | inr l ↦ absurd (both_ways (named set j) (above_none n set j h l) m) ]

none_named : (fuel set : ℕ) → set ≤ fuel → ((j : ℕ) → Names set j → ⊥) → set ≡ 0
none_named zero set le h = omega arith
none_named (suc fuel) set le h =
    let half : set / 2 ≡ 0 = none_named fuel (set / 2) (omega arith) (λ j m. h (suc j) (named_suc set j ∙ m)) in
    elim (cases_Bool (named set 0)) [ inl m ↦ absurd (h 0 m) | inr m ↦ omega (arith, eqb-false (set % 2) 1 (sym (named_zero set) ∙ m)) ]

pub below_from_within : (n set : ℕ) → Within n set → set < 2 ^ n
below_from_within zero set h = let e = none_named set set (omega arith) (λ j m. absurd (omega (arith, h j m))) in omega (arith, e)
below_from_within (suc n) set h =
    let half = below_from_within n (set / 2) (λ j m. omega (arith, h (suc j) (named_suc set j ∙ m))) in omega (arith, half, pow-suc 2 n)

below_pow : (n : ℕ) → n < 2 ^ n
below_pow zero = omega arith
below_pow (suc n) = omega (arith, below_pow n, pow-suc 2 n)

-- a set is its members
pub same_members : (n a b : ℕ) → a < 2 ^ n → b < 2 ^ n → ((j : ℕ) → j < n → named a j ≡ named b j) → a ≡ b
same_members zero a b la lb h = omega arith
same_members (suc n) a b la lb h =
    let half = same_members n (a / 2) (b / 2) (omega (arith, pow-suc 2 n)) (omega (arith, pow-suc 2 n)) (λ j l. sym (named_suc a j) ∙ h (suc j) (omega arith) ∙ named_suc b j) in
    let low : eqb (a % 2) 1 ≡ eqb (b % 2) 1 = sym (named_zero a) ∙ h 0 (omega arith) ∙ named_zero b in
    elim (cases_Bool (eqb (a % 2) 1)) [
      | inl m ↦ omega (arith, half, eqb-true (a % 2) 1 m, eqb-true (b % 2) 1 (sym low ∙ m))
      | inr m ↦ omega (arith, half, eqb-false (a % 2) 1 m, eqb-false (b % 2) 1 (sym low ∙ m))
    ]

-- ---- how many a set names

pub ones_none : ones 0 ≡ 0
unfolding ones
ones_none = refl

-- all that a names, b names
pub ones_subset : (n a b : ℕ) → a < 2 ^ n → ((j : ℕ) → Names a j → Names b j) → ones a ≤ ones b
ones_subset zero a b la h = let e : a ≡ 0 = omega arith in rw (e, ones_none) (omega arith)
ones_subset (suc n) a b la h =
    let rest = ones_subset n (a / 2) (b / 2) (omega (arith, pow-suc 2 n)) (λ j m. sym (named_suc b j) ∙ h (suc j) (named_suc a j ∙ m)) in
    elim (cases_Bool (named a 0)) [
      | inl m ↦ omega (arith, rest, odd b (h 0 m), ones_step a, ones_step b)
      | inr m ↦ omega (arith, rest, eqb-false (a % 2) 1 (sym (named_zero a) ∙ m), ones_step a, ones_step b)
    ]

-- two sets of stations below n, with their shared stations
pub ones_meet : (n a b : ℕ) → a < 2 ^ n → b < 2 ^ n → ones a + ones b ≤ n + ones (bit_and a b)
ones_meet zero a b la lb =
    let e : a ≡ 0 = omega arith in let d : b ≡ 0 = omega arith in rw (e, d, ones_none) (omega arith)
ones_meet (suc n) a b la lb =
    let rest = ones_meet n (a / 2) (b / 2) (omega (arith, pow-suc 2 n)) (omega (arith, pow-suc 2 n)) in
    let half : bit_and a b / 2 ≡ bit_and (a / 2) (b / 2) = omega (arith, and_step a b) in
    let low : bit_and a b % 2 ≡ min (a % 2) (b % 2) = omega (arith, and_step a b) in
    let count : ones (bit_and a b) ≡ bit_and a b % 2 + ones (bit_and (a / 2) (b / 2)) = ones_step (bit_and a b) ∙ ap (λ x. bit_and a b % 2 + ones x) half in
    omega (arith, rest, low, count, ones_step a, ones_step b)

-- of two sets, where the first has more, it names a station that the second does not
pub ones-outside : (n a b : ℕ) → a < 2 ^ n → ones b < ones a → (j : ℕ) × (j < n) × Names a j × (named b j ≡ false)
ones-outside zero a b la h = let e : a ≡ 0 = omega arith in absurd (omega (arith, ap ones e, ones_none))
ones-outside (suc n) a b la h = go (cases_Bool (named a 0)) (cases_Bool (named b 0)) (ones-outside n (a / 2) (b / 2) (omega (arith, pow-suc 2 n)))
  where
    rest : (j : ℕ) × (j < n) × Names (a / 2) j × (named (b / 2) j ≡ false) → (j : ℕ) × (j < suc n) × Names a j × (named b j ≡ false)
    rest r = (suc r.0, omega (arith, r.1), named_suc a r.0 ∙ r.2, named_suc b r.0 ∙ r.3)

    go : (named a 0 ≡ true) ⊎ (named a 0 ≡ false) → (named b 0 ≡ true) ⊎ (named b 0 ≡ false)
        → (ones (b / 2) < ones (a / 2) → (j : ℕ) × (j < n) × Names (a / 2) j × (named (b / 2) j ≡ false)) → (j : ℕ) × (j < suc n) × Names a j × (named b j ≡ false)
    go (inl m) (inr k) next = (0, omega arith, m, k)
    go (inl m) (inl k) next = rest (next (omega (arith, odd b k, odd a m, ones_step a, ones_step b)))
    go (inr m) k next = rest (next (omega (arith, eqb-false (a % 2) 1 (sym (named_zero a) ∙ m), ones_step a, ones_step b)))

-- what both name
pub named_meet : (a b j : ℕ) → Names (bit_and a b) j → Names a j × Names b j
named_meet a b zero h =
    let e = odd (bit_and a b) h in
    (named_zero a ∙ eq-eqb (a % 2) 1 (omega (arith, e, and_step a b)), named_zero b ∙ eq-eqb (b % 2) 1 (omega (arith, e, and_step a b)))
named_meet a b (suc j) h =
    let half : bit_and a b / 2 ≡ bit_and (a / 2) (b / 2) = omega (arith, and_step a b) in
    let r = named_meet (a / 2) (b / 2) j (sym (ap (λ x. named x j) half) ∙ sym (named_suc (bit_and a b) j) ∙ h) in
    (named_suc a j ∙ r.0, named_suc b j ∙ r.1)

-- ---- one set less another

pub apart : ℕ → ℕ → ℕ
apart a b = a - bit_and a b

apart_half : (a b : ℕ) → apart a b / 2 ≡ apart (a / 2) (b / 2)
unfolding apart
apart_half a b = omega (arith, and_step a b, and_le_l (a / 2) (b / 2))

apart_low : (a b : ℕ) → apart a b % 2 ≡ a % 2 - min (a % 2) (b % 2)
unfolding apart
apart_low a b = omega (arith, and_step a b, and_le_l (a / 2) (b / 2))

pub ones-apart : (fuel a b : ℕ) → a ≤ fuel → ones a ≤ ones (apart a b) + ones b
ones-apart zero a b l = let e : a ≡ 0 = omega arith in omega (arith, ap ones e, ones_none)
ones-apart (suc fuel) a b l =
    let rest = ones-apart fuel (a / 2) (b / 2) (omega arith) in
    omega (arith, rest, apart_low a b, ap ones (apart_half a b), ones_step a, ones_step b, ones_step (apart a b))

pub apart_names : (a b j : ℕ) → Names (apart a b) j → Names a j × (named b j ≡ false)
apart_names a b zero h =
    let e = odd (apart a b) h in
    (named_zero a ∙ eq-eqb (a % 2) 1 (omega (arith, e, apart_low a b)), named_zero b ∙ ne_eqb (b % 2) 1 (λ z. omega (arith, e, apart_low a b)))
apart_names a b (suc j) h =
    let r = apart_names (a / 2) (b / 2) j (sym (ap (λ x. named x j) (apart_half a b)) ∙ sym (named_suc (apart a b) j) ∙ h) in
    (named_suc a j ∙ r.0, named_suc b j ∙ r.1)

-- ---- one station less

-- rest is the set without station j, which it names
record Less (set j rest : ℕ) : Type 0 where
  fits : 2 ^ j ≤ set
  many : ones set ≡ ones rest + 1
  out : named rest j ≡ false
  keeps : (k : ℕ) → k ≢ j → named rest k ≡ named set k

less : (set j : ℕ) → Names set j → Less set j (set - 2 ^ j)
less set zero h =
    let e = odd set h in
    let half : (set - 1) / 2 ≡ set / 2 = omega arith in
    let low : (set - 1) % 2 ≡ 0 = omega arith in
    record {
      fits = omega arith;
      many = omega (arith, ones_step set, ones_step (set - 1), ap ones half);
      out = named_zero (set - 1) ∙ ap (λ x. eqb x 1) low;
      keeps = at half;
    }
  where
    at : (set - 1) / 2 ≡ set / 2 → (k : ℕ) → k ≢ 0 → named (set - 1) k ≡ named set k
    at half zero ne = absurd (ne refl)
    at half (suc k) ne = named_suc (set - 1) k ∙ ap (λ x. named x k) half ∙ sym (named_suc set k)
less set (suc j) h =
    let r = less (set / 2) j (sym (named_suc set j) ∙ h) in
    let pow : 2 ^ suc j ≡ 2 ^ j * 2 = pow-suc 2 j in
    let half : (set - 2 ^ suc j) / 2 ≡ set / 2 - 2 ^ j = omega (arith, r.fits, pow) in
    let low : (set - 2 ^ suc j) % 2 ≡ set % 2 = omega (arith, r.fits, pow) in
    record {
      fits = omega (arith, r.fits, pow);
      many = omega (arith, r.many, ones_step set, ones_step (set - 2 ^ suc j), ap ones half, low);
      out = named_suc (set - 2 ^ suc j) j ∙ ap (λ x. named x j) half ∙ r.out;
      keeps = at half low r.keeps;
    }
  where
    at : (set - 2 ^ suc j) / 2 ≡ set / 2 - 2 ^ j → (set - 2 ^ suc j) % 2 ≡ set % 2 → ((k : ℕ) → k ≢ j → named (set / 2 - 2 ^ j) k ≡ named (set / 2) k)
        → (k : ℕ) → k ≢ suc j → named (set - 2 ^ suc j) k ≡ named set k
    at half low next zero ne = named_zero (set - 2 ^ suc j) ∙ ap (λ x. eqb x 1) low ∙ sym (named_zero set)
    at half low next (suc k) ne =
        named_suc (set - 2 ^ suc j) k ∙ ap (λ x. named x k) half ∙ next k (λ e. ne (ap suc e)) ∙ sym (named_suc set k)

pub names_fits : (set j : ℕ) → Names set j → 2 ^ j ≤ set
names_fits set j m = (less set j m).fits

pub parted_out : (set j : ℕ) → named (parted set j) j ≡ false
parted_out set j = elim (cases_Bool (named set j)) [ inl m ↦ rw m (less set j m).out | inr m ↦ rw m m ]

pub parted_keeps : (set j k : ℕ) → k ≢ j → named (parted set j) k ≡ named set k
parted_keeps set j k ne = elim (cases_Bool (named set j)) [ inl m ↦ rw m ((less set j m).keeps k ne) | inr m ↦ rw m refl ]

pub parted_many : (set j : ℕ) → Names set j → ones set ≡ ones (parted set j) + 1
parted_many set j m = rw m (less set j m).many

pub parted_least : (set j : ℕ) → ones set ≤ ones (parted set j) + 1
parted_least set j = elim (cases_Bool (named set j)) [ inl m ↦ omega (arith, parted_many set j m) | inr m ↦ rw m (omega arith) ]

pub parted_names : (set j k : ℕ) → Names (parted set j) k → (k ≢ j) × Names set k
parted_names set j k m =
    let ne : k ≢ j = λ e. both_ways (named (parted set j) j) (parted_out set j) (subst (λ x. Names (parted set j) x) e m) in
    (ne, sym (parted_keeps set j k ne) ∙ m)

-- ---- one station more

one_at : (j : ℕ) → 2 ^ j / 2 ^ j % 2 ≡ 1
one_at j = rw (div_self (pow_pos j)) refl

none_above : (j k : ℕ) → j < k → 2 ^ j / 2 ^ k % 2 ≡ 0
none_above j k h = rw (div-eq_of_lt (pow_below j k h)) refl

none_below : (d k : ℕ) → 2 ^ (suc d + k) / 2 ^ k % 2 ≡ 0
none_below d k = rw (pow-add 2 (suc d) k, shl-shr (2 ^ suc d) k, pow-succ' 2 d) (mul-mod_right 2 (2 ^ d))

none_other : (j k : ℕ) → k ≢ j → 2 ^ j / 2 ^ k % 2 ≡ 0
none_other j k ne =
    elim (cases_order j k) [
      | inl e ↦ absurd (ne (sym e))
      | inr o ↦ elim o [
        | inl l ↦ none_above j k l
        | inr l ↦ (let e : suc (j - k - 1) + k ≡ j = omega arith in subst (λ x. 2 ^ x / 2 ^ k % 2 ≡ 0) e (none_below (j - k - 1) k))
      ]
    ]

or_one : (x : ℕ) → x < 2 → bit_or x 1 ≡ 1
or_one x h = omega (arith, or_lt 1 x 1 h (lit< tt), or_add_and x 1, and_le_l x 1)

digit : (set j k : ℕ) → bit_or set (2 ^ j) / 2 ^ k % 2 ≡ bit_or (set / 2 ^ k % 2) (2 ^ j / 2 ^ k % 2)
digit set j k = rw (or_shr set (2 ^ j) k) (or_mod (set / 2 ^ k) (2 ^ j / 2 ^ k) 1)

pub joined_in : (set j : ℕ) → j < 16 → named (joined set j) j ≡ true
joined_in set j l = rw (lt-ltb j 16 l, digit set j j, one_at j, or_one (set / 2 ^ j % 2) (mod_below (set / 2 ^ j) 2 (lit< tt))) refl

pub joined_keeps : (set j k : ℕ) → k ≢ j → named (joined set j) k ≡ named set k
joined_keeps set j k ne =
    elim (cases_lt j 16) [
      | inl l ↦ rw (lt-ltb j 16 l, digit set j k, none_other j k ne, or_zero_r) refl
      | inr l ↦ rw (le-ltb j 16 l) refl
    ]

pub joined_lt : (set j : ℕ) → set < 2 ^ 16 → joined set j < 2 ^ 16
joined_lt set j h =
    elim (cases_lt j 16) [
      | inl l ↦ rw (lt-ltb j 16 l) (or_lt 16 set (2 ^ j) h (pow_below j 16 l))
      | inr l ↦ rw (le-ltb j 16 l) h
    ]

pub joined_many : (set j : ℕ) → j < 16 → named set j ≡ false → ones set + 1 ≤ ones (joined set j)
joined_many set j l out =
    omega (
      arith,
      parted_many (joined set j) j (joined_in set j l),
      ones_subset set set (parted (joined set j) j) (below_pow set)
          (λ k m. let ne : k ≢ j = λ e. both_ways (named set j) out (subst (Names set) e m) in parted_keeps (joined set j) j k ne ∙ joined_keeps set j k ne ∙ m),
    )

-- ---- sets by a test

pub gathered_lt : (n : ℕ) (test : ℕ → Bool) → gathered n test < 2 ^ n
gathered_lt zero test = omega arith
gathered_lt (suc n) test =
    elim (cases_Bool (test n)) [ inl m ↦ rw m (omega (arith, gathered_lt n test, pow-suc 2 n)) | inr m ↦ rw m (omega (arith, gathered_lt n test, pow-suc 2 n, pow_pos n)) ]

one_more : (n g : ℕ) → g < 2 ^ n → ones (2 ^ n + g) ≡ ones g + 1
unfolding ones
one_more n g l = let e = ones_cat n 1 g l in rw (one-mul (2 ^ n)) at e ∙ omega arith

as_union : (n g : ℕ) → g < 2 ^ n → 2 ^ n + g ≡ bit_or g (2 ^ n)
as_union n g l = let e = or_shifted_r 1 n g l in sym (rw (one-mul (2 ^ n)) at e)

-- at n itself, and elsewhere
top_in : (n g : ℕ) → g < 2 ^ n → named (2 ^ n + g) n ≡ true
top_in n g l = rw (as_union n g l, digit g n n, one_at n, or_one (g / 2 ^ n % 2) (mod_below (g / 2 ^ n) 2 (lit< tt))) refl

top_keeps : (n g j : ℕ) → g < 2 ^ n → j ≢ n → named (2 ^ n + g) j ≡ named g j
top_keeps n g j l ne = rw (as_union n g l, digit g n j, none_other n j ne, or_zero_r) refl

pub ones-gathered : (n : ℕ) (test : ℕ → Bool) → ones (gathered (suc n) test) ≡ ones (gathered n test) + cond (test n) 1 0
ones-gathered n test =
    elim (cases_Bool (test n)) [
      | inl m ↦ rw m (one_more n (gathered n test) (gathered_lt n test))
      | inr m ↦ rw (m, zero-add, add-zero) refl
    ]

pub named_gathered : (n : ℕ) (test : ℕ → Bool) (j : ℕ) → named (gathered n test) j ≡ (ltb j n && test j)
named_gathered zero test j = named_none j ∙ rw (le-ltb j 0 (omega arith)) refl
named_gathered (suc n) test j =
    elim (cases_order j n) [
      | inl e ↦ rw (e, lt-ltb n (suc n) (omega arith)) (at (cases_Bool (test n)))
      | inr o ↦ elim o [
        | inl l ↦ kept (λ e. omega arith) ∙ named_gathered n test j ∙ rw (lt-ltb j n l, lt-ltb j (suc n) (omega arith)) refl
        | inr l ↦ kept (λ e. omega arith) ∙ named_gathered n test j ∙ rw (le-ltb j n (omega arith), le-ltb j (suc n) (omega arith)) refl
      ]
    ]
  where
    at : (test n ≡ true) ⊎ (test n ≡ false) → named (cond (test n) (2 ^ n) 0 + gathered n test) n ≡ test n
    at (inl m) = rw m (top_in n (gathered n test) (gathered_lt n test))
    at (inr m) = rw (m, zero-add) (above_none n (gathered n test) n (gathered_lt n test) (omega arith))

    kept : j ≢ n → named (cond (test n) (2 ^ n) 0 + gathered n test) j ≡ named (gathered n test) j
    kept ne = elim (cases_Bool (test n)) [ inl m ↦ rw m (top_keeps n (gathered n test) j (gathered_lt n test) ne) | inr m ↦ rw (m, zero-add) refl ]

pub gathered_in : (n : ℕ) (test : ℕ → Bool) (j : ℕ) → Names (gathered n test) j → (j < n) × (test j ≡ true)
gathered_in n test j m =
    let b = and_parts (ltb j n) (test j) (sym (named_gathered n test j) ∙ m) in (ltb-true j n b.0, b.1)

pub gathered_from : (n : ℕ) (test : ℕ → Bool) (j : ℕ) → j < n → test j ≡ true → Names (gathered n test) j
gathered_from n test j l m = named_gathered n test j ∙ rw (lt-ltb j n l) m
