-- The largest number that passes, found from the top, and counts of rows.
use Rattle.std.proofs.Common.{◌≡◌, ℕ, zero, suc, ◌+◌, ◌-◌, ◌<◌, ◌≤◌, Bool, true, false, cond, leb, ◌⊎◌, refl, ap, ◌∙◌, inl, inr, suc-add, zero-add, add-one, arith}
use lib.Count.{ones}
use Rattle.std.proofs.lemmas.Bool.{cases_Bool, le-leb, lt-leb}
use Rattle.model.specs.Sets.{gathered}
use Rattle.model.proofs.Members.{ones-gathered}
use Rattle.model.specs.Quorums.{stations, quorum}
use Rattle.order.specs.Columns.{Matrix, cell, column, largest}

-- whether enough of the numbers below n pass
abbrev pub enough : ℕ → ℕ → (ℕ → Bool) → Bool
enough quorum n test = leb quorum (ones (gathered n test))

pub count_more : (test : ℕ → Bool) (k : ℕ) → ones (gathered (k + 1) test) ≡ ones (gathered k test) + cond (test k) 1 0
count_more test k = rw add-one (ones-gathered k test)

pub count_rises : (test : ℕ → Bool) (d k : ℕ) → ones (gathered k test) ≤ ones (gathered (d + k) test)
count_rises test zero k = rw zero-add (omega arith)
count_rises test (suc d) k = rw suc-add (omega (arith, count_rises test d k, ones-gathered (d + k) test))

pub enough_found : (quorum n : ℕ) (test : ℕ → Bool) (k : ℕ) → k ≤ n → quorum ≤ ones (gathered k test) → enough quorum n test ≡ true
enough_found quorum n test k l h =
    let e : n - k + k ≡ n = omega arith in
    le-leb quorum (ones (gathered n test)) (omega (arith, count_rises test (n - k) k, ap (λ m. ones (gathered m test)) e))

pub enough_lacking : (quorum n : ℕ) (test : ℕ → Bool) → ones (gathered n test) < quorum → enough quorum n test ≡ false
enough_lacking quorum n test h = lt-leb quorum (ones (gathered n test)) h

module _ (test : ℕ → Bool) where
  -- what does not pass at the top is left out
  pub largest_lower : (n : ℕ) → 1 ≤ n → test n ≡ false → largest n test ≡ largest (n - 1) test
  largest_lower zero l h = absurd (omega arith)
  largest_lower (suc n) l h = let e : suc n - 1 ≡ n = omega arith in rw (h, e) refl

  pub largest_here : (n : ℕ) → 1 ≤ n → test n ≡ true → largest n test ≡ n
  largest_here zero l h = absurd (omega arith)
  largest_here (suc n) l h = rw h refl

  pub largest_le : (n : ℕ) → largest n test ≤ n
  largest_le zero = omega arith
  largest_le (suc n) = elim (cases_Bool (test (suc n))) [ inl h ↦ rw h (omega arith) | inr h ↦ rw h (omega (arith, largest_le n)) ]

  -- the largest passes, unless it is 0
  pub largest_passes : (n : ℕ) → 1 ≤ largest n test → test (largest n test) ≡ true
  largest_passes zero l = absurd (omega arith)
  largest_passes (suc n) l = go (cases_Bool (test (suc n))) (largest_passes n)
    where
      go : (test (suc n) ≡ true) ⊎ (test (suc n) ≡ false) → (1 ≤ largest n test → test (largest n test) ≡ true) → test (cond (test (suc n)) (suc n) (largest n test)) ≡ true
      go (inl h) next = ap (λ b. test (cond b (suc n) (largest n test))) h ∙ h
      go (inr h) next = let e : largest (suc n) test ≡ largest n test = rw h refl in ap test e ∙ next (omega (arith, e))

-- the column's value over numbers that were computed
pub column_by : (f limit : ℕ) (matrix : Matrix) (o n q : ℕ) → n ≡ stations f → q ≡ quorum f
    → column f limit matrix o ≡ largest limit (λ s. enough q n (λ k. leb s (cell n matrix k o)))
column_by f limit matrix o n q e d = rw (e, d) refl
