-- Certificates and quorums over places, and that they last.
use Rattle.std.proofs.Common.{◌≡◌, ℕ, zero, suc, ◌*◌, ◌<◌, ◌≢◌, length, get_or, Some, None, Option, sym, refl, ap, ◌∙◌, subst, arith}
use Rattle.model.specs.Quorums.{AtLeast, Holds, Ordered, quorum}
use Rattle.model.proofs.Meeting.{holds_below, certificate_whole, shared_outside}
use Rattle.protocol.specs.States.{Run, N, Fit, Correct, Topic, Value, head, spot, Places, listed, seen, Full}

length-listed : {A : Type 0} (n : ℕ) (g : ℕ → A) → length (listed n g) ≡ n
length-listed zero g = refl
length-listed (suc n) g = ap suc (length-listed n (λ k. g (suc k)))

listed_at : {A : Type 0} (n : ℕ) (g : ℕ → A) (j : ℕ) (d : A) → j < n → get_or (listed n g) j d ≡ g j
listed_at zero g j d l = absurd (omega arith)
listed_at (suc n) g zero d l = refl
listed_at (suc n) g (suc j) d l = listed_at n (λ k. g (suc k)) j d (omega arith)

-- what g holds h holds too
abbrev pub Ext : {A B : Type 0} → (A → Option B) → (A → Option B) → Type 0
Ext {A} {B} g h = (x : A) (v : B) → g x ≡ Some v → h x ≡ Some v

pub at_least : (m : ℕ) (A B : ℕ → Type 0) → ((j : ℕ) → A j → B j) → AtLeast m A → AtLeast m B
at_least m A B f (a, w, c, h) = (a, w, c, λ j n. f j (h j n))

module _ (r : Run) (P : Places) where
  pub holds_below_n : (i : ℕ) (t : Topic) (v : Value) (j : ℕ) → Holds (seen r P i t) v j → j < N r
  holds_below_n i t v j h = subst (λ m. j < m) (length-listed (N r) (λ k. P (spot i t k))) (holds_below (seen r P i t) v j h)

  pub holds_spot : (i : ℕ) (t : Topic) (v : Value) (j : ℕ) → Holds (seen r P i t) v j → P (spot i t j) ≡ Some v
  holds_spot i t v j h = sym (listed_at (N r) (λ k. P (spot i t k)) j None (holds_below_n i t v j h)) ∙ h

  pub spot_holds : (i : ℕ) (t : Topic) (v : Value) (j : ℕ) → j < N r → P (spot i t j) ≡ Some v → Holds (seen r P i t) v j
  spot_holds i t v j l h = listed_at (N r) (λ k. P (spot i t k)) j None l ∙ h

  -- with the opener's, 2f + 1 places hold the word
  pub full_ordered : Fit r → (i : ℕ) (t : Topic) (v : Value) → Full r P i t v → Ordered r.f (seen r P i t) v
  full_ordered ok i t v h =
      certificate_whole r.f (seen r P i t) (head r t) v (omega (arith, ok.faults.1, holds_below_n i t v (head r t) h.0)) h

  -- two quorums share a correct station
  pub meeting : Fit r → (i j : ℕ) (t : Topic) (v w : Value) → Ordered r.f (seen r P i t) v → Ordered r.f (seen r P j t) w
      → (k : ℕ) × Correct r k × (P (spot i t k) ≡ Some v) × (P (spot j t k) ≡ Some w)
  meeting ok i j t v w a b =
      let s = shared_outside r.f (Holds (seen r P i t) v) (Holds (seen r P j t) w) r.faulty (holds_below_n i t v) (holds_below_n j t w) a b ok.few in
      (s.0, (holds_below_n i t v s.0 s.2, s.1), holds_spot i t v s.0 s.2, holds_spot j t w s.0 s.3)

module _ (r : Run) {P P' : Places} (e : Ext P P') where
  holds_mono : (i : ℕ) (t : Topic) (v : Value) (j : ℕ) → Holds (seen r P i t) v j → Holds (seen r P' i t) v j
  holds_mono i t v j h = spot_holds r P' i t v j (holds_below_n r P i t v j h) (e (spot i t j) v (holds_spot r P i t v j h))

  pub ordered_mono : (i : ℕ) (t : Topic) (v : Value) → Ordered r.f (seen r P i t) v → Ordered r.f (seen r P' i t) v
  ordered_mono i t v = at_least (quorum r.f) (Holds (seen r P i t) v) (Holds (seen r P' i t) v) (holds_mono i t v)

  pub full_mono : (i : ℕ) (t : Topic) (v : Value) → Full r P i t v → Full r P' i t v
  full_mono i t v h = (
    holds_mono i t v (head r t) h.0,
    at_least (2 * r.f) (λ j. (j ≢ head r t) × Holds (seen r P i t) v j) (λ j. (j ≢ head r t) × Holds (seen r P' i t) v j)
        (λ j x. (x.0, holds_mono i t v j x.1)) h.1,
  )
