-- The computed certificate is the certificate; and meanings that agree give the same certificates.
use Rattle.std.proofs.Common.{◌≡◌, ℕ, zero, suc, ◌*◌, ◌<◌, Bool, true, false, cond, leb, ◌⊎◌, List, [], ◌∷◌, length, get_or, Some, None, Decides, Option, sym, refl, ap, ◌∙◌, subst, inl, inr, arith}
use lib.Count.{ones}
use Rattle.std.proofs.lemmas.List.{get_or-map, length-map}
use Rattle.std.proofs.lemmas.Bool.{cases_Bool, leb-true, leb-false, false≢true}
use Rattle.model.specs.Sets.{parted}
use Rattle.model.specs.Quorums.{Holds, Backers, Certificate, Certified, Ordered, Answers, held, meant, quorum}
use Rattle.model.specs.Decided.{Tells, holds_by, backers_by, backed_by, certified_by, first_by, ordered_by}
use Rattle.model.proofs.Members.{gathered_in, gathered_from}
use Rattle.model.proofs.Meeting.{holds_below, backers_least, backers_others, certificate_none, least_backers, ordered_somewhere}

module _ {V : Type 0} (same : V → V → Bool) (tells : Tells same) where
  holds_by_lem : (v : V) (p : Option V) → Decides (holds_by same v p) (p ≡ Some v)
  holds_by_lem v (Some u) = (λ e. ap Some ((tells u v).0 e), λ e. (tells u v).1 cc)
  holds_by_lem v None = (λ e. absurd (false≢true e), λ e. let z : ◌≡◌ {A = ℕ} 0 1 = cc in absurd (omega arith))

  pub backers_by_lem : (places : List (Option V)) (v : V) → Backers places v (backers_by same places v)
  backers_by_lem places v = (
    λ j m. (gathered_in 16 (λ k. holds_by same v (get_or places k None)) j m).0,
    λ j l. (
      λ m. (holds_by_lem v (get_or places j None)).0 (gathered_in 16 (λ k. holds_by same v (get_or places k None)) j m).1,
      λ h. gathered_from 16 (λ k. holds_by same v (get_or places k None)) j l ((holds_by_lem v (get_or places j None)).1 h),
    ),
  )

  pub certified_by_lem : (f : ℕ) (places : List (Option V)) (head : ℕ) → Answers (Certificate f places head) (certified_by same f places head)
  certified_by_lem f places head = at (get_or places head None) refl
    where
      told : (v : V) → get_or places head None ≡ Some v → (leb (2 * f) (ones (parted (backers_by same places v) head)) ≡ true) ⊎ (leb (2 * f) (ones (parted (backers_by same places v) head)) ≡ false)
          → Answers (Certificate f places head) (cond (leb (2 * f) (ones (parted (backers_by same places v) head))) (Some v) None)
      told v e (inl h) = rw h (e, backers_others places v (backers_by same places v) head (2 * f) (backers_by_lem places v) (leb-true (2 * f) (ones (parted (backers_by same places v) head)) h))
      told v e (inr h) = rw h (certificate_none f places head v (backers_by same places v) e (backers_by_lem places v) (leb-false (2 * f) (ones (parted (backers_by same places v) head)) h))

      at : (p : Option V) → get_or places head None ≡ p → Answers (Certificate f places head) (backed_by same f places head p)
      at (Some v) e = told v e (cases_Bool (leb (2 * f) (ones (parted (backers_by same places v) head))))
      at None e = λ w c. let h = sym e ∙ c.0 in let z : ◌≡◌ {A = ℕ} 0 1 = cc in omega arith

  -- what is ordered and stands in a list of places, with one place more in front whose word is not ordered
  one_past : (f : ℕ) (places : List (Option V)) (p : Option V) (ps : List (Option V)) → ((v : V) → p ≡ Some v → Ordered f places v → ⊥) → (r : Option V)
      → Answers (λ v. Ordered f places v × ((k : ℕ) × Holds ps v k)) r → Answers (λ v. Ordered f places v × ((k : ℕ) × Holds (p ∷ ps) v k)) r
  one_past f places p ps never (Some v) (o, (k, h)) = (o, (suc k, h))
  one_past f places p ps never None none = λ v h. at v h.0 h.1.0 h.1.1
    where
      at : (v : V) → Ordered f places v → (k : ℕ) → Holds (p ∷ ps) v k → ⊥
      at v o zero e = never v e o
      at v o (suc k) e = none v (o, (k, e))

  first_by_lem : (f : ℕ) (places rest : List (Option V)) → Answers (λ v. Ordered f places v × ((k : ℕ) × Holds rest v k)) (first_by same f places rest)
  first_by_lem f places [] = λ v h. let e = h.1.1 in let z : ◌≡◌ {A = ℕ} 0 1 = cc in omega arith
  first_by_lem f places (None ∷ rest) =
      one_past f places None rest (λ v e. let z : ◌≡◌ {A = ℕ} 0 1 = cc in absurd (omega arith)) (first_by same f places rest) (first_by_lem f places rest)
  first_by_lem f places (Some u ∷ rest) = at (cases_Bool (leb (quorum f) (ones (backers_by same places u)))) (first_by_lem f places rest)
    where
      at : (leb (quorum f) (ones (backers_by same places u)) ≡ true) ⊎ (leb (quorum f) (ones (backers_by same places u)) ≡ false)
          → Answers (λ v. Ordered f places v × ((k : ℕ) × Holds rest v k)) (first_by same f places rest)
          → Answers (λ v. Ordered f places v × ((k : ℕ) × Holds (Some u ∷ rest) v k)) (cond (leb (quorum f) (ones (backers_by same places u))) (Some u) (first_by same f places rest))
      at (inl h) next =
          rw h (backers_least places u (backers_by same places u) (quorum f) (backers_by_lem places u) (leb-true (quorum f) (ones (backers_by same places u)) h), (0, refl))
      at (inr h) next =
          rw h (one_past f places (Some u) rest (λ v e o.
          let d : u ≡ v = cc in
          let few = leb-false (quorum f) (ones (backers_by same places u)) h in
          omega (arith, few, least_backers places u (backers_by same places u) (quorum f) (backers_by_lem places u) (subst (Ordered f places) (sym d) o)))
          (first_by same f places rest) next)

  pub ordered_by_lem : (f : ℕ) (places : List (Option V)) → Answers (Ordered f places) (ordered_by same f places)
  ordered_by_lem f places = at (ordered_by same f places) (first_by_lem f places places)
    where
      at : (r : Option V) → Answers (λ v. Ordered f places v × ((k : ℕ) × Holds places v k)) r → Answers (Ordered f places) r
      at (Some v) h = h.0
      at None h = λ v o. let r = ordered_somewhere f places v o in let w = r.2 in h w.0 (w.2, (r.0, w.1))

-- two certificates under one head are for one word
pub certificate_one : {V : Type 0} (f : ℕ) (places : List (Option V)) (head : ℕ) (v w : V) → Certificate f places head v → Certificate f places head w → v ≡ w
certificate_one f places head v w (h, _) (k, _) = cc

-- an answer about at most one value is one answer
pub answers_one : {V : Type 0} (P : V → Type 0) → ((v w : V) → P v → P w → v ≡ w) → (r t : Option V) → Answers P r → Answers P t → r ≡ t
answers_one P one (Some v) (Some w) h k = ap Some (one v w h k)
answers_one P one (Some v) None h k = absurd (k v h)
answers_one P one None (Some w) h k = absurd (h w k)
answers_one P one None None h k = refl

-- ---- two meanings of the same words

module _ {W V U : Type 0} (g : W → V) (h : W → U) (one : (u v : W) → g u ≡ g v → h u ≡ h v) where
  meant_over : (p : Option W) (u : W) → meant g p ≡ Some (g u) → meant h p ≡ Some (h u)
  meant_over (Some w) u e = let d : g w ≡ g u = cc in ap Some (one w u d)
  meant_over None u e = let z : ◌≡◌ {A = ℕ} 0 1 = cc in absurd (omega arith)

  pub holds_over : (places : List (Option W)) (u : W) (j : ℕ) → Holds (held g places) (g u) j → Holds (held h places) (h u) j
  holds_over places u j e =
      let l : j < length places = simp length-map at (holds_below (held g places) (g u) j e) in
      get_or-map (meant h) places j None None l ∙ meant_over (get_or places j None) u (sym (get_or-map (meant g) places j None None l) ∙ e)

  pub certificate_over : (f : ℕ) (places : List (Option W)) (head : ℕ) (u : W) → Certificate f (held g places) head (g u) → Certificate f (held h places) head (h u)
  certificate_over f places head u (c, (set, w, m, a)) =
      (holds_over places u head c, (set, w, m, λ j n. let b = a j n in (b.0, holds_over places u j b.1)))

  pub ordered_over : (f : ℕ) (places : List (Option W)) (u : W) → Ordered f (held g places) (g u) → Ordered f (held h places) (h u)
  ordered_over f places u (set, w, m, a) = (set, w, m, λ j n. holds_over places u j (a j n))

  -- what a place holds by meaning is the meaning of a word
  from_place : (p : Option W) (v : V) → meant g p ≡ Some v → (u : W) × (g u ≡ v)
  from_place (Some u) v e = (u, cc)
  from_place None v e = let z : ◌≡◌ {A = ℕ} 0 1 = cc in absurd (omega arith)

  pub certified_over : (f : ℕ) (places : List (Option W)) (head : ℕ) → Certified f (held g places) head → Certified f (held h places) head
  certified_over f places head (v, c) =
      let l : head < length places = simp length-map at (holds_below (held g places) v head c.0) in
      let r = from_place (get_or places head None) v (sym (get_or-map (meant g) places head None None l) ∙ c.0) in
      (h r.0, certificate_over f places head r.0 (subst (Certificate f (held g places) head) (sym r.1) c))
