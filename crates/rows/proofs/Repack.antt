use Rattle.std.proofs.Common.{◌≡◌, ℕ, zero, suc, ◌+◌, ◌-◌, ◌*◌, ◌/◌, ◌%◌, ◌^◌, ◌<◌, ◌≤◌, List, length, get_or, drop, sym, refl, ap, ◌∙◌, ⊎_elim, mod-eq_of_lt, mul_assoc, mul_comm, add-mul, div-one, arith}
use Rattle.rows.specs.Bits.{bit, field_of, repacked}
use Rattle.std.proofs.lemmas.Nat.{mod-pow-add, shr-shr, mod_below, pow_pos, shr_high, mod_low, div-mul-add, mod-mul-add, pow-add, mul-le, mul-add-lt}
use Rattle.std.proofs.lemmas.List.FromFn.{length-map-range_with_len, get_or-map-range_with_len}
use Rattle.std.proofs.lemmas.List.{ext_get_or, get_or_past, get_or-drop}
use Rattle.std.proofs.lemmas.Bool.{cases_eq, cases_lt}
use native.Mathlib.Nat.{mod-one, zero-div, div-add-mod, mul-add-div_right, mul-add-mod_self_right}

-- Equal bits, equal fields.
pub field_same : (a b : ℕ) (ds es : List ℕ) (at w : ℕ) → ((j : ℕ) → j < w → bit a ds (at + j) ≡ bit b es (at + j)) → field_of a ds at w ≡ field_of b es at w
unfolding field_of
field_same a b ds es at zero same = refl
field_same a b ds es at (suc w) same =
    let e = field_same a b ds es at w (λ j h. same j (omega arith)) in
    let f = same w (omega arith) in
    cc

-- A field is the number whose bits it has: x shifted by s, w bits of it.
pub field_is : (a : ℕ) (ds : List ℕ) (at w x s : ℕ) → ((j : ℕ) → j < w → bit a ds (at + j) ≡ x / 2 ^ (s + (w - 1 - j)) % 2) → field_of a ds at w ≡ x / 2 ^ s % 2 ^ w
unfolding field_of
field_is a ds at zero x s bits = sym (mod-one (x / 2 ^ s))
field_is a ds at (suc w) x s bits =
    let e : field_of a ds at w ≡ x / 2 ^ (s + 1) % 2 ^ w =
    field_is a ds at w x (s + 1) (λ j h.
    let q : s + (suc w - 1 - j) ≡ s + 1 + (w - 1 - j) = omega arith in
    bits j (omega arith) ∙ ap (λ n. x / 2 ^ n % 2) q) in
    let z : s + (suc w - 1 - w) ≡ s = omega arith in
    let f : bit a ds (at + w) ≡ x / 2 ^ s % 2 = bits w (omega arith) ∙ ap (λ n. x / 2 ^ n % 2) z in
    let m : x / 2 ^ s % 2 ^ (w + 1) ≡ (x / 2 ^ s / 2 ^ 1 % 2 ^ w) * 2 ^ 1 + x / 2 ^ s % 2 ^ 1 = mod-pow-add (x / 2 ^ s) w 1 in
    let d : x / 2 ^ s / 2 ^ 1 ≡ x / 2 ^ (s + 1) = shr-shr x s 1 in
    let u : suc w ≡ w + 1 = omega arith in
    cc

-- Each bit of a field.
pub bit_of_field : (a : ℕ) (ds : List ℕ) (at w j : ℕ) → j < w → field_of a ds at w / 2 ^ (w - 1 - j) % 2 ≡ bit a ds (at + j)
unfolding field_of
bit_of_field a ds at zero j h = omega arith
bit_of_field a ds at (suc w) j h =
    let F = field_of a ds at w in
    let low : bit a ds (at + w) < 2 ^ 1 = mod_below _ 2 (omega arith) in
    ⊎_elim
    (λ (e : j ≡ w).
    let z : suc w - 1 - j ≡ 0 = omega arith in
    let m : (F * 2 ^ 1 + bit a ds (at + w)) % 2 ^ 1 ≡ bit a ds (at + w) = mod_low F 1 (bit a ds (at + w)) low in
    let o = div-one (F * 2 + bit a ds (at + w)) in
    rw (z, o, e) m)
    (λ ne.
    let z : suc w - 1 - j ≡ 1 + (w - 1 - j) = omega arith in
    let d : (F * 2 ^ 1 + bit a ds (at + w)) / 2 ^ 1 ≡ F = shr_high F 1 (bit a ds (at + w)) low in
    let s = shr-shr (F * 2 + bit a ds (at + w)) 1 (w - 1 - j) in
    let r = bit_of_field a ds at w j (omega arith) in
    rw (z, ← s, d) r)
    (cases_eq j w)

-- A digit is the field of its own bits.
pub field_of_digit : (a : ℕ) (ds : List ℕ) (k : ℕ) → get_or ds k 0 < 2 ^ a → field_of a ds (a * k) a ≡ get_or ds k 0
field_of_digit a ds k small =
    field_is a ds (a * k) a (get_or ds k 0) 0 (λ j h.
    let q : (k * a + j) / a ≡ k = div-mul-add k a j h in
    let r : (k * a + j) % a ≡ j = mod-mul-add k a j h in
    let z : 0 + (a - 1 - j) ≡ a - 1 - j = omega arith in
    rw (mul_comm a k, q, r, z))
    ∙ rw (div-one (get_or ds k 0), mod-eq_of_lt small)

-- The bits of digits that are packed anew, where those that are left out are 0.
pub bit-repacked : (a b m : ℕ) (ds : List ℕ) (i : ℕ) → 0 < b → (b * m ≤ i → bit a ds i ≡ 0) → bit b (repacked a b m ds) i ≡ bit a ds i
bit-repacked a b m ds i pos past =
    let j : i % b < b = mod_below i b pos in
    let e : b * (i / b) + i % b ≡ i = div-add-mod i b in
    ⊎_elim
    (λ (h : i / b < m).
    let g : get_or (repacked a b m ds) (i / b) 0 ≡ field_of a ds (b * (i / b)) b = get_or-map-range_with_len (λ k. field_of a ds (b * k) b) 0 m (i / b) (i / b) 0 h (omega arith) in
    rw g (bit_of_field a ds (b * (i / b)) b (i % b) j ∙ ap (bit a ds) e))
    (λ (h : m ≤ i / b).
    let p : b * m ≤ b * (i / b) = mul-le b m b (i / b) (omega arith) h in
    let g : get_or (repacked a b m ds) (i / b) 0 ≡ 0 = get_or_past (repacked a b m ds) (i / b) 0 (rw length-map-range_with_len h) in
    rw (g, zero-div) (sym (past (omega arith))))
    (cases_lt (i / b) m)

-- Packed one way and then back, the digits are the same.
pub repacked_back : (a b n m : ℕ) (ds : List ℕ) → 0 < b → length ds ≡ n → ((k : ℕ) → k < n → get_or ds k 0 < 2 ^ a)
    → ((i : ℕ) → b * m ≤ i → i < a * n → bit a ds i ≡ 0)
    → repacked b a n (repacked a b m ds) ≡ ds
repacked_back a b n m ds pos len small past =
    ext_get_or 0 _ _ (length-map-range_with_len _ 0 n ∙ sym len) (λ k h.
    let h' : k < n = rw length-map-range_with_len at h in
    get_or-map-range_with_len (λ k. field_of b (repacked a b m ds) (a * k) a) 0 n k k 0 h' (omega arith)
    ∙ field_same b a (repacked a b m ds) ds (a * k) a (λ j l.
    bit-repacked a b m ds (a * k + j) pos (λ p. past (a * k + j) p (omega (arith, mul-add-lt k a j n h' l))))
    ∙ field_of_digit a ds k (small k h'))

-- A low bit of a number is not changed by what stands above.
pub low_bit : (x y a u e : ℕ) → u + 1 + e ≡ a → (x * 2 ^ a + y) / 2 ^ e % 2 ≡ y / 2 ^ e % 2
low_bit x y a u e w =
    let pw : 2 ^ a ≡ 2 ^ u * 2 ^ 1 * 2 ^ e = ap (λ n. 2 ^ n) (sym w) ∙ pow-add 2 (u + 1) e ∙ ap (λ n. n * 2 ^ e) (pow-add 2 u 1) in
    let xw : x * 2 ^ a ≡ x * 2 ^ u * 2 * 2 ^ e = ap (λ n. x * n) pw ∙ simp mul_assoc in
    let dv : (x * 2 ^ u * 2 * 2 ^ e + y) / 2 ^ e ≡ x * 2 ^ u * 2 + y / 2 ^ e = mul-add-div_right (pow_pos e) (x * 2 ^ u * 2) y in
    rw (xw, dv) (mul-add-mod_self_right (x * 2 ^ u) 2 (y / 2 ^ e))

-- Bit t of two digits, as a bit of the number that they write.
bit_in_two : (a : ℕ) (ds : List ℕ) (i t p e : ℕ) → get_or ds (i + 1) 0 < 2 ^ a → t < 2 * a → a * i + t ≡ p → e + 1 + t ≡ 2 * a
    → bit a ds p ≡ (get_or ds i 0 * 2 ^ a + get_or ds (i + 1) 0) / 2 ^ e % 2
bit_in_two a ds i t p e small within place left =
    let x = get_or ds i 0 in
    let y = get_or ds (i + 1) 0 in
    ⊎_elim
    (λ (h : t < a).
    let ip : i * a + t ≡ p = ap (λ n. n + t) (mul_comm i a) ∙ place in
    let q : p / a ≡ i = ap (λ n. n / a) (sym ip) ∙ div-mul-add i a t h in
    let r : p % a ≡ t = ap (λ n. n % a) (sym ip) ∙ mod-mul-add i a t h in
    let z : e ≡ a + (a - 1 - t) = omega arith in
    let d : (x * 2 ^ a + y) / 2 ^ a ≡ x = shr_high x a y small in
    let s = shr-shr (x * 2 ^ a + y) a (a - 1 - t) in
    rw (q, r, z, ← s, d))
    (λ (h : a ≤ t).
    let u = t - a in
    let ub : u < a = omega arith in
    let ip : (i + 1) * a + u ≡ p = omega (arith, add-mul i 1 a, mul_comm i a, place) in
    let q : p / a ≡ i + 1 = ap (λ n. n / a) (sym ip) ∙ div-mul-add (i + 1) a u ub in
    let r : p % a ≡ u = ap (λ n. n % a) (sym ip) ∙ mod-mul-add (i + 1) a u ub in
    let z : a - 1 - u ≡ e = omega arith in
    rw (q, r, z) (sym (low_bit x y a u e (omega arith))))
    (cases_lt t a)

-- Two digits hold every field that begins in the first and ends in the second.
pub field_in_two : (a : ℕ) (ds : List ℕ) (i skip w p : ℕ) → a * i + skip ≡ p → get_or ds (i + 1) 0 < 2 ^ a → skip + w ≤ 2 * a
    → field_of a ds p w ≡ (get_or ds i 0 * 2 ^ a + get_or ds (i + 1) 0) / 2 ^ (2 * a - skip - w) % 2 ^ w
field_in_two a ds i skip w p place small within =
    field_is a ds p w (get_or ds i 0 * 2 ^ a + get_or ds (i + 1) 0) (2 * a - skip - w) (λ j h.
    bit_in_two a ds i (skip + j) (p + j) (2 * a - skip - w + (w - 1 - j)) small (omega arith) (omega arith) (omega arith))

-- A field in two parts.
pub field-append : (a : ℕ) (ds : List ℕ) (at v w : ℕ) → field_of a ds at (v + w) ≡ field_of a ds at v * 2 ^ w + field_of a ds (at + v) w
unfolding field_of
field-append a ds at v zero =
    let z : v + 0 ≡ v = omega arith in
    let o : field_of a ds at v * 1 + 0 ≡ field_of a ds at v = omega arith in
    rw (z, o)
field-append a ds at v (suc w) =
    let z : v + suc w ≡ suc (v + w) = omega arith in
    let s : at + (v + w) ≡ at + v + w = omega arith in
    let e = field-append a ds at v w in
    let p : 2 ^ suc w ≡ 2 ^ w * 2 = ap (λ n. 2 ^ n) (omega arith) ∙ pow-add 2 w 1 in
    let m : field_of a ds at v * (2 ^ w * 2) ≡ field_of a ds at v * 2 ^ w * 2 = sym (mul_assoc (field_of a ds at v) (2 ^ w) 2) in
    rw (z, e, s, p, m) (omega arith)

pub field_below : (a : ℕ) (ds : List ℕ) (at w : ℕ) → field_of a ds at w < 2 ^ w
unfolding field_of
field_below a ds at zero = omega arith
field_below a ds at (suc w) =
    let e = field_below a ds at w in
    let b : bit a ds (at + w) < 2 = mod_below _ 2 (omega arith) in
    let p : 2 ^ suc w ≡ 2 ^ w * 2 = ap (λ n. 2 ^ n) (omega arith) ∙ pow-add 2 w 1 in
    rw p (omega arith)

bit-drop : (a n : ℕ) (ds : List ℕ) (i : ℕ) → 0 < a → bit a ds (n * a + i) ≡ bit a (drop n ds) i
bit-drop a n ds i pos =
    let q : (n * a + i) / a ≡ n + i / a = mul-add-div_right pos n i in
    let r : (n * a + i) % a ≡ i % a = mul-add-mod_self_right n a i in
    let g = get_or-drop n ds (i / a) 0 in
    rw (q, r, g)

shifted : (a n : ℕ) (ds : List ℕ) (p w : ℕ) → 0 < a → field_of a ds (n * a + p) w ≡ field_of a (drop n ds) p w
unfolding field_of
shifted a n ds p zero pos = refl
shifted a n ds p (suc w) pos =
    let e = shifted a n ds p w pos in
    let z : n * a + p + w ≡ n * a + (p + w) = omega arith in
    let b = bit-drop a n ds (p + w) pos in
    rw (e, z, b)

-- A field that begins after n digits is a field of what is left without them.
pub field-drop : (a n : ℕ) (ds : List ℕ) (p q w : ℕ) → 0 < a → n * a + p ≡ q → field_of a ds q w ≡ field_of a (drop n ds) p w
field-drop a n ds p q w pos place =
    ap (λ x. field_of a ds x w) (sym place) ∙ shifted a n ds p w pos
