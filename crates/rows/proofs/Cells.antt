use Rattle.std.proofs.Common.{◌≡◌, ℕ, zero, suc, ◌+◌, ◌-◌, ◌*◌, ◌<◌, ◌≤◌, min, List, [], ◌∷◌, ◌++◌, length, take, drop, replicate, get_or, ap, ◌∙◌, ⊎_elim, add-mul, arith, rules}
use Rattle.rows.proofs.Repack.{field_below}
use Rattle.rows.specs.Bits.{Small, field_of, repacked}
use Rattle.rows.specs.Caps.{capped_at}
use Rattle.rows.specs.Values.{placed, row_in}
use Rattle.std.proofs.lemmas.Nat.{mul-le}
use Rattle.std.proofs.lemmas.List.FromFn.{length-map-range_with_len, get_or-map-range_with_len}
use Rattle.std.proofs.lemmas.List.{drop-take, get_or-drop, get_or-take, get_or_past, length-append, length-drop, length-replicate, length-take, places, same_lists, take-take}
use Rattle.std.proofs.lemmas.Bool.{cases_lt}
use borrow.Rule.Slice.PartMut.{put_mid}

-- Lists of small entries stay such.
pub small_append : (xs ys : List ℕ) → Small xs → Small ys → Small (xs ++ ys)
small_append [] ys a b k = b k
small_append (x ∷ xs) ys a b zero = a 0
small_append (x ∷ xs) ys a b (suc k) = small_append xs ys (λ j. a (suc j)) b k

pub small_take : (n : ℕ) (xs : List ℕ) → Small xs → Small (take n xs)
small_take zero xs a k = omega arith
small_take (suc n) [] a k = omega arith
small_take (suc n) (x ∷ xs) a zero = a 0
small_take (suc n) (x ∷ xs) a (suc k) = small_take n xs (λ j. a (suc j)) k

pub small_drop : (n : ℕ) (xs : List ℕ) → Small xs → Small (drop n xs)
small_drop n xs a k = rw get_or-drop (a (n + k))

pub small_zeros : (n : ℕ) → Small (replicate n 0)
small_zeros zero k = omega arith
small_zeros (suc n) zero = omega arith
small_zeros (suc n) (suc k) = small_zeros n k

pub small_entries : (bytes : List ℕ) (n : ℕ) → Small (repacked 8 6 n bytes)
small_entries bytes n k =
    ⊎_elim
    (λ (h : k < n). rw (get_or-map-range_with_len (λ k. field_of 8 bytes (6 * k) 6) 0 n k k 0 h (omega arith)) (field_below 8 bytes (6 * k) 6))
    (λ (h : n ≤ k). rw (get_or_past (repacked 8 6 n bytes) k 0 (rw length-map-range_with_len h)) (omega arith))
    (cases_lt k n)

-- A square of side s, and the rows in it.
pub square_fits : (s : ℕ) → s ≤ 16 → s * s ≤ 256
square_fits s h = mul-le s s 16 16 h h

pub row_fits : (i s : ℕ) → i < s → i * s + s ≤ s * s
row_fits i s h =
    let n : i + 1 ≤ s = omega arith in
    let m : s ≤ s = omega arith in
    omega (arith, add-mul i 1 s, mul-le (i + 1) s s s n m)

pub cell_at : (s i j : ℕ) (xs : List ℕ) → i < s → j < s → get_or (row_in s (take (s * s) xs) i) j 0 ≡ get_or xs (i * s + j) 0
cell_at s i j xs hi hj =
    let f = row_fits i s hi in
    get_or-take s (drop (i * s) (take (s * s) xs)) j 0 hj ∙ get_or-drop (i * s) (take (s * s) xs) j 0 ∙ get_or-take (s * s) xs (i * s + j) 0 (omega arith)

pub row_whole : (s i : ℕ) (xs : List ℕ) → i < s → row_in s (take (s * s) xs) i ≡ take s (drop (i * s) xs)
row_whole s i xs h =
    let f = row_fits i s h in
    let z : s * s ≡ i * s + (s * s - i * s) = omega arith in
    let d = drop-take (i * s) (s * s - i * s) xs in
    ap (λ n. take s (drop (i * s) (take n xs))) z ∙ ap (take s) d ∙ take-take s (s * s - i * s) (drop (i * s) xs) (omega arith)

-- A part within the front is written over.
pub front_placed : (n a k : ℕ) (xs ys : List ℕ) → a + k ≤ n → n ≤ length xs → length ys ≡ k → take n (put_mid a k xs ys) ≡ placed (take n xs) a ys
front_placed n a k xs ys h l e = same_lists _ _ (search (rules, places)) (λ k d h. grind (arith, places))

pub small_same : (xs ys : List ℕ) → xs ≡ ys → Small ys → Small xs
small_same xs ys e a k = rw e (a k)

-- Zeros, with a front that is written over.
pub length_front : (n most : ℕ) (ys : List ℕ) → length ys ≡ length {A = ℕ} (take n (replicate most 0)) → length {A = ℕ} (ys ++ drop n (replicate most 0)) ≡ most
length_front n most ys e =
    let l : length ys ≡ min n most = e ∙ simp (length-take, length-replicate) in
    simp (length-append, length-drop, length-replicate) (omega arith)

pub small_front : (n most : ℕ) (ys : List ℕ) → Small ys → Small (ys ++ drop n (replicate most 0))
small_front n most ys a = small_append ys _ a (small_drop n (replicate most 0) (small_zeros most))

pub small_capped : (limit : ℕ) (xs : List ℕ) → Small xs → Small (capped_at limit xs)
small_capped limit [] a k = omega arith
small_capped limit (x ∷ xs) a zero = let h : x < 64 = a 0 in omega arith
small_capped limit (x ∷ xs) a (suc k) = small_capped limit xs (λ j. a (suc j)) k
