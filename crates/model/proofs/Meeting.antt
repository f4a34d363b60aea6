-- Quorums meet; a certificate by the set of those who back it; the ordered word is one.
use Rattle.std.proofs.Common.{◌≡◌, ℕ, ◌+◌, ◌*◌, ◌<◌, ◌≤◌, false, ◌≢◌, List, length, Some, None, Option, sym, refl, ◌∙◌, subst, inl, inr, arith}
use lib.Bits.{bit_and, and_le_l}
use lib.Count.{ones}
use Rattle.std.proofs.lemmas.List.{get_or_past}
use Rattle.std.proofs.lemmas.Bool.{cases_lt, cases_eq, cases_Bool}
use Rattle.model.specs.Sets.{named, joined, parted}
use Rattle.model.specs.Quorums.{stations, quorum, AtLeast, Holds, Backers, Tally, Certificate, Ordered, OrderedAt, Meet, Shared, Most}
use Rattle.model.proofs.Members.{below_from_within, within_from_below, ones_none, ones_subset, ones_meet, ones-outside, named_meet, apart, ones-apart, apart_names, parted_keeps, parted_names, parted_least, joined_many, joined_keeps, joined_lt}

pub meet : Meet
meet f a b wa wb qa qb =
    omega (arith, ones_meet (stations f) a b (below_from_within (stations f) a wa) (below_from_within (stations f) b wb))

pub shared : Shared
shared f a b faulty wa wb qa qb few =
    let low = below_from_within (stations f) a wa in
    let r = ones-outside (stations f) (bit_and a b) faulty (omega (arith, low, and_le_l a b)) (omega (arith, meet f a b wa wb qa qb)) in
    let m = named_meet a b r.0 r.2 in
    (r.0, r.1, m.0, m.1, r.3)

pub most : Most
most f a faulty qa few =
    (apart a faulty, omega (arith, ones-apart a a faulty (omega arith)), λ j m. apart_names a faulty j m)

-- somebody is among at least one
pub somebody : (m : ℕ) (A : ℕ → Type 0) → AtLeast (m + 1) A → (j : ℕ) × (j < 16) × A j
somebody m A a =
    let r = ones-outside 16 a.0 0 (below_from_within 16 a.0 a.1) (omega (arith, a.2, ones_none)) in (r.0, r.1, a.3 r.0 r.2)

-- of at least 2f + 1 stations at least f + 1 are outside a set of at most f
pub most_outside : (f : ℕ) (A : ℕ → Type 0) (faulty : ℕ) → AtLeast (quorum f) A → ones faulty ≤ f → AtLeast (f + 1) (λ j. (named faulty j ≡ false) × A j)
most_outside f A faulty (a, wa, qa, ha) few =
    let r = most f a faulty qa few in
    (r.0, λ j n. wa j (r.2 j n).0, r.1, λ j n. let m = r.2 j n in (m.1, ha j m.0))

-- two quorums of stations below 3f + 1 share one outside a set of at most f
pub shared_outside : (f : ℕ) (A B : ℕ → Type 0) (faulty : ℕ) → ((j : ℕ) → A j → j < stations f) → ((j : ℕ) → B j → j < stations f)
    → AtLeast (quorum f) A → AtLeast (quorum f) B → ones faulty ≤ f → (j : ℕ) × (named faulty j ≡ false) × A j × B j
shared_outside f A B faulty la lb (a, wa, qa, ha) (b, wb, qb, hb) few =
    let r = shared f a b faulty (λ j n. la j (ha j n)) (λ j n. lb j (hb j n)) qa qb few in
    (r.0, r.4, ha r.0 r.2, hb r.0 r.3)

module _ {V : Type 0} where
  pub some≢none : (v : V) → ◌≡◌ {A = Option V} None (Some v) → ⊥
  some≢none v e = let z : ◌≡◌ {A = ℕ} 0 1 = cc in omega arith

  pub holds_below : (places : List (Option V)) (v : V) (j : ℕ) → Holds places v j → j < length places
  holds_below places v j h =
      elim (cases_lt j (length places)) [ inl l ↦ l | inr l ↦ absurd (some≢none v (sym (get_or_past places j None l) ∙ h)) ]

  -- at least m places hold v exactly when the set of all that do has m
  pub backers_least : (places : List (Option V)) (v : V) (set m : ℕ) → Backers places v set → m ≤ ones set → AtLeast m (Holds places v)
  backers_least places v set m b h = (set, b.0, h, λ j n. (b.1 j (b.0 j n)).0 n)

  pub least_backers : (places : List (Option V)) (v : V) (set m : ℕ) → Backers places v set → AtLeast m (Holds places v) → m ≤ ones set
  least_backers places v set m b a =
      omega (arith, a.2, ones_subset 16 a.0 set (below_from_within 16 a.0 a.1) (λ j n. (b.1 j (a.1 j n)).1 (a.3 j n)))

  -- and so with one place left out
  pub backers_others : (places : List (Option V)) (v : V) (set head m : ℕ) → Backers places v set → m ≤ ones (parted set head)
      → AtLeast m (λ j. (j ≢ head) × Holds places v j)
  backers_others places v set head m b h = (
    parted set head,
    λ j n. b.0 j (parted_names set head j n).1,
    h,
    λ j n. let p = parted_names set head j n in (p.0, (b.1 j (b.0 j p.1)).0 p.1),
  )

  pub others_backers : (places : List (Option V)) (v : V) (set head m : ℕ) → Backers places v set → AtLeast m (λ j. (j ≢ head) × Holds places v j)
      → m ≤ ones (parted set head)
  others_backers places v set head m b a =
      omega (
        arith,
        a.2,
        ones_subset 16 a.0 (parted set head) (below_from_within 16 a.0 a.1)
            (λ j n. let h = a.3 j n in parted_keeps set head j h.0 ∙ (b.1 j (a.1 j n)).1 h.1),
      )

  -- two sets of those who hold v have as many
  pub tally_one : (places : List (Option V)) (v : V) (m n : ℕ) → Tally places v m → Tally places v n → m ≡ n
  tally_one places v m n (s, b, e) (t, d, g) =
      omega (arith, e, g, least_backers places v s (ones t) b (backers_least places v t (ones t) d (omega arith)), least_backers places v t (ones s) d (backers_least places v s (ones s) b (omega arith)))

  -- a place holds one word; so do two quorums of them
  one_word : (places : List (Option V)) (v w : V) (j : ℕ) → Holds places v j → Holds places w j → v ≡ w
  one_word places v w j h k = cc

  pub ordered_one : (f : ℕ) (places : List (Option V)) (v w : V) → length places ≤ stations f → Ordered f places v → Ordered f places w → v ≡ w
  ordered_one f places v w l (a, wa, qa, ha) (b, wb, qb, hb) =
      let r = shared f a b 0 (λ j n. omega (arith, holds_below places v j (ha j n))) (λ j n. omega (arith, holds_below places w j (hb j n))) qa qb (omega (arith, ones_none)) in
      one_word places v w r.0 (ha r.0 r.2) (hb r.0 r.3)

  -- a certificate is the head's place and 2f + 1 places in all
  pub certificate_whole : (f : ℕ) (places : List (Option V)) (head : ℕ) (v : V) → head < 16 → Certificate f places head v → Ordered f places v
  certificate_whole f places head v low (h, (a, wa, qa, ha)) =
      let out : named a head ≡ false = elim (cases_Bool (named a head)) [ inl m ↦ absurd ((ha head m).0 refl) | inr m ↦ m ] in (
        joined a head,
        within_from_below 16 (joined a head) (joined_lt a head (below_from_within 16 a wa)),
        omega (arith, joined_many a head low out),
        λ j n. elim (cases_eq j head) [ inl e ↦ subst (Holds places v) (sym e) h | inr ne ↦ (ha j (sym (joined_keeps a head j ne) ∙ n)).1 ],
      )

  pub whole_certificate : (f : ℕ) (places : List (Option V)) (head : ℕ) (v : V) → Holds places v head → Ordered f places v → Certificate f places head v
  whole_certificate f places head v h (a, wa, qa, ha) = (
    h,
    (
      parted a head,
      λ j n. wa j (parted_names a head j n).1,
      omega (arith, parted_least a head),
      λ j n. let p = parted_names a head j n in (p.0, ha j p.1),
    ),
  )

  -- what the head's place holds has a certificate exactly if enough others back it, and nothing else has one
  pub certificate_none : (f : ℕ) (places : List (Option V)) (head : ℕ) (v : V) (set : ℕ) → Holds places v head → Backers places v set → ones (parted set head) < 2 * f
      → (w : V) → Certificate f places head w → ⊥
  certificate_none f places head v set h b few w (k, a) =
      let e = one_word places w v head k h in
      let n = others_backers places v set head (2 * f) b (subst (λ x. AtLeast (2 * f) (λ j. (j ≢ head) × Holds places x j)) e a) in
      omega arith

  pub tally_most : (f : ℕ) (places : List (Option V)) (v : V) (m : ℕ) → Tally places v m → quorum f ≤ m → Ordered f places v
  tally_most f places v m (set, b, e) h = backers_least places v set (quorum f) b (omega (arith, e))

  pub most_tally : (f : ℕ) (places : List (Option V)) (v : V) (m : ℕ) → Tally places v m → Ordered f places v → quorum f ≤ m
  most_tally f places v m (set, b, e) h = omega (arith, e, least_backers places v set (quorum f) b h)

  pub ordered_somewhere : (f : ℕ) (places : List (Option V)) (v : V) → Ordered f places v → (at : ℕ) × (at < length places) × OrderedAt f places at
  ordered_somewhere f places v o =
      let r = somebody (2 * f) (Holds places v) o in (r.0, holds_below places v r.0 r.2, (v, r.2, o))
