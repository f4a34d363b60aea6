-- Parts of a flat list of places, and answers.
use Rattle.std.proofs.Common.{◌≡◌, ℕ, zero, suc, ◌+◌, ◌-◌, ◌*◌, ◌<◌, ◌≤◌, min, Bool, true, false, ◌⊎◌, List, map, length, take, drop, is_some, Some, None, Decides, MatchOption, unwrap_or, Option, sym, refl, ap, ◌∙◌, subst, inl, inr, arith}
use Rattle.std.proofs.lemmas.List.{length-drop, take_all, drop_all, take-map, drop-map}
use Rattle.std.proofs.lemmas.Bool.{cases_Bool, cases_lt, cases_eq, false≢true}
use Rattle.std.proofs.lemmas.Bool.Decides.{not_from_Decides}
use Rattle.model.specs.Quorums.{Answers, Certificate, meant, stations}
use Rattle.model.specs.Decided.{Tells, certified_by}
use Rattle.model.proofs.Deciding.{certified_by_lem}
use Rattle.order.specs.Runs.{part, CertifiedAt, Longest, passing, longest_by}

-- taking no more than there is
take_least : {A : Type 0} (n : ℕ) (xs : List A) → take (min n (length xs)) xs ≡ take n xs
take_least n xs =
    elim (cases_lt n (length xs)) [
      | inl l ↦ (let e : min n (length xs) ≡ n = omega arith in ap (λ m. take m xs) e)
      | inr l ↦ take_all (min n (length xs)) xs (omega arith) ∙ sym (take_all n xs l)
    ]

-- dropping no more than there is
drop_least : {A : Type 0} (n : ℕ) (xs : List A) → drop (min n (length xs)) xs ≡ drop n xs
drop_least n xs =
    elim (cases_lt n (length xs)) [
      | inl l ↦ (let e : min n (length xs) ≡ n = omega arith in ap (λ m. drop m xs) e)
      | inr l ↦ drop_all (min n (length xs)) xs (omega arith) ∙ sym (drop_all n xs l)
    ]

pub part_cut : {A : Type 0} (xs : List A) (n before start end : ℕ) → start ≡ min (before * n) (length xs) → end ≡ min (start + n) (length xs)
    → take (end - start) (drop start xs) ≡ part n (before + 1) xs
part_cut xs n before start end s e =
    let d : before + 1 - 1 ≡ before = omega arith in
    let rest : drop start xs ≡ drop ((before + 1 - 1) * n) xs = ap (λ m. drop m xs) s ∙ drop_least (before * n) xs ∙ ap (λ m. drop (m * n) xs) (sym d) in
    let long : end - start ≡ min n (length (drop start xs)) = omega (arith, length-drop start xs) in
    ap (λ m. take m (drop start xs)) long ∙ take_least n (drop start xs) ∙ ap (take n) rest

pub part_map : {A B : Type 0} (h : A → B) (n s : ℕ) (xs : List A) → part n s (map h xs) ≡ map h (part n s xs)
part_map h n s xs = ap (take n) (drop-map h ((s - 1) * n) xs) ∙ take-map h n (drop ((s - 1) * n) xs)

pub some_meant : {W V : Type 0} (means : W → V) (r : Option W) → is_some (meant means r) ≡ is_some r
some_meant means (Some u) = refl
some_meant means None = refl

pub answers_decide : {V : Type 0} (P : V → Type 0) (r : Option V) → Answers P r → Decides (is_some r) ((v : V) × P v)
answers_decide P (Some v) h = (λ _. (v, h), λ _. refl)
answers_decide P None h = (λ e. absurd (false≢true e), λ x. absurd (h x.0 x.1))

-- ---- longest runs

module _ (P : ℕ → Type 0) where
  run_one : (limit k m : ℕ) → (k ≤ limit) × ((s : ℕ) → 1 ≤ s → s ≤ k → P s) × (k < limit → P (k + 1) → ⊥)
      → (m ≤ limit) × ((s : ℕ) → 1 ≤ s → s ≤ m → P s) × (m < limit → P (m + 1) → ⊥) → k ≡ m
  run_one limit k m (lk, pk, nk) (lm, pm, nm) =
      elim (cases_lt k m) [
        | inl l ↦ absurd (nk (omega arith) (pm (k + 1) (omega arith) (omega arith)))
        | inr l ↦ (elim (cases_lt m k) [ inl d ↦ absurd (nm (omega arith) (pk (m + 1) (omega arith) (omega arith))) | inr d ↦ omega arith ])
      ]

  module _ (test : ℕ → Bool) (tells : (s : ℕ) → Decides (test s) (P s)) where
    run_from : (s d : ℕ) → (passing s d test ≤ d) × ((t : ℕ) → s < t → t ≤ s + passing s d test → P t) × (passing s d test < d → P (s + passing s d test + 1) → ⊥)
    run_from s zero = (omega arith, λ t low high. absurd (omega arith), λ l. absurd (omega arith))
    run_from s (suc d) = at (cases_Bool (test (suc s))) (run_from (suc s) d)
      where
        at : (test (suc s) ≡ true) ⊎ (test (suc s) ≡ false)
            → (passing (suc s) d test ≤ d) × ((t : ℕ) → suc s < t → t ≤ suc s + passing (suc s) d test → P t) × (passing (suc s) d test < d → P (suc s + passing (suc s) d test + 1) → ⊥)
            → (passing s (suc d) test ≤ suc d) × ((t : ℕ) → s < t → t ≤ s + passing s (suc d) test → P t) × (passing s (suc d) test < suc d → P (s + passing s (suc d) test + 1) → ⊥)
        at (inl h) (l, p, q) =
            let k = passing (suc s) d test in
            let e : s + suc k + 1 ≡ suc s + k + 1 = omega arith in
            rw h (
              omega arith,
              λ t low high. elim (cases_eq t (suc s)) [ inl e ↦ subst P (sym e) ((tells (suc s)).0 h) | inr ne ↦ p t (omega arith) (omega arith) ],
              λ lt x. q (omega arith) (subst P e x),
            )
        at (inr h) next =
            let e : s + 0 + 1 ≡ suc s = omega arith in
            rw h (omega arith, λ t low high. absurd (omega arith), λ lt x. not_from_Decides (test (suc s)) (tells (suc s)) h (subst P e x))

-- there is one longest run
pub longest_one : {V : Type 0} (f limit : ℕ) (places : List (Option V)) (head k m : ℕ) → Longest f limit places head k → Longest f limit places head m → k ≡ m
longest_one f limit places head k m = run_one (CertifiedAt f places head) limit k m

pub longest_by_lem : {V : Type 0} (same : V → V → Bool) → Tells same → (f limit : ℕ) (places : List (Option V)) (head : ℕ)
    → Longest f limit places head (longest_by same f limit places head)
longest_by_lem same tells f limit places head =
    let test : ℕ → Bool = λ s. is_some (certified_by same f (part (stations f) s places) head) in
    let r = run_from (CertifiedAt f places head) test
    (λ s. answers_decide (Certificate f (part (stations f) s places) head) (certified_by same f (part (stations f) s places) head) (certified_by_lem same tells f (part (stations f) s places) head)) 0 limit
    in
    let k = passing 0 limit test in
    let e : 0 + k + 1 ≡ k + 1 = omega arith in
    (r.0, λ s low high. r.1 s (omega arith) (omega arith), λ l x. r.2 l (subst (CertifiedAt f places head) (sym e) x))

-- three values are those that their parts are
pub three_same : {A B C : Type 0} {q : A × B × C} {a : A} {b : B} {c : C} → q.0 ≡ a → q.1 ≡ b → q.2 ≡ c → q ≡ (a, b, c)
three_same {q = q} {a = a} {b = b} e f g = ap (λ x. (x, q.1, q.2)) e ∙ ap (λ y. (a, y, q.2)) f ∙ ap (λ z. (a, b, z)) g

from_one : (P : ℕ → Type 0) (n : ℕ) → ((k : ℕ) → 0 ≤ k → k < n → P (k + 1)) → (s : ℕ) → 1 ≤ s → s ≤ n → P s
from_one P n h s low high = let e : s - 1 + 1 ≡ s = omega arith in subst P e (h (s - 1) (omega arith) (omega arith))

-- the longest run ends before the first number that fails, if there is one below the limit
pub longest_from_first : {V : Type 0} (f limit : ℕ) (places : List (Option V)) (head : ℕ) (r : Option ℕ)
    → MatchOption r ((k : ℕ) → 0 ≤ k → k < limit → CertifiedAt f places head (k + 1))
    (λ i. (0 ≤ i) × (i < limit) × (CertifiedAt f places head (i + 1) → ⊥) × ((k : ℕ) → 0 ≤ k → k < i → CertifiedAt f places head (k + 1)))
    → Longest f limit places head (unwrap_or r limit)
longest_from_first f limit places head None h = (omega arith, from_one (CertifiedAt f places head) limit h, λ l. absurd (omega arith))
longest_from_first f limit places head (Some i) h = (omega (arith, h.1), from_one (CertifiedAt f places head) i h.3, λ l. h.2)
