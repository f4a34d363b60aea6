-- The set of those who hold a word, gathered place by place.
use Rattle.std.proofs.Common.{◌≡◌, ℕ, ◌+◌, ◌<◌, ◌≤◌, true, false, List, length, get_or, None, Decides, Option, sym, ap, ◌∙◌, subst, inl, inr, arith}
use Rattle.std.proofs.lemmas.Bool.{cases_lt, cases_eq, both_ways}
use Rattle.std.proofs.lemmas.List.{get_or-map}
use Rattle.model.specs.Sets.{named, Within, joined}
use Rattle.model.specs.Quorums.{Holds, Backers, held, meant}
use Rattle.model.proofs.Members.{within_from_below, below_from_within, joined_in, joined_keeps, joined_lt, named_none}
use Rattle.model.proofs.Meeting.{holds_below}

-- the set is right for the places below i, and names nobody from i on
abbrev pub Backing : {V : Type 0} → List (Option V) → V → ℕ → ℕ → Type 0
Backing places v i set =
    Within 16 set × ((k : ℕ) → k < i → k < 16 → Decides (named set k) (Holds places v k)) × ((k : ℕ) → i ≤ k → named set k ≡ false)

module _ {V : Type 0} (places : List (Option V)) (v : V) where
  pub backing_none : Backing places v 0 0
  backing_none = (λ j m. absurd (both_ways (named 0 j) (named_none j) m), λ k l. absurd (omega arith), λ k _. named_none k)

  pub backing_takes : (i set : ℕ) → Backing places v i set → Holds places v i → Backing places v (i + 1) (joined set i)
  backing_takes i set (w, b, n) h = (
    within_from_below 16 (joined set i) (joined_lt set i (below_from_within 16 set w)),
    λ k l low.
        elim (cases_eq k i) [
          | inl e ↦ (λ _. subst (Holds places v) (sym e) h, λ _. subst (λ x. named (joined set i) x ≡ true) (sym e) (joined_in set i (omega arith)))
          | inr ne ↦ (let d = b k (omega arith) low in let s = joined_keeps set i k ne in (λ m. d.0 (sym s ∙ m), λ x. s ∙ d.1 x))
        ],
    λ k l. joined_keeps set i k (λ e. omega arith) ∙ n k (omega arith),
  )

  pub backing_keeps : (i set : ℕ) → Backing places v i set → (Holds places v i → ⊥) → Backing places v (i + 1) set
  backing_keeps i set (w, b, n) h = (
    w,
    λ k l low.
        elim (cases_eq k i) [
          | inl e ↦ (λ m. absurd (both_ways (named set k) (n k (omega arith)) m), λ x. absurd (h (subst (Holds places v) e x)))
          | inr ne ↦ b k (omega arith) low
        ],
    λ k l. n k (omega arith),
  )

  pub backing_all : (i set : ℕ) → length places ≤ i → Backing places v i set → Backers places v set
  backing_all i set l (w, b, n) = (
    w,
    λ k low.
        elim (cases_lt k i) [
          | inl lt ↦ b k lt low
          | inr past ↦ (λ m. absurd (both_ways (named set k) (n k past) m), λ x. absurd (omega (arith, holds_below places v k x)))
        ],
  )

-- what a place that was read holds, by meaning
pub held_at : {W V : Type 0} (means : W → V) (places : List (Option W)) (j : ℕ) (p : Option W) → j < length places → p ≡ get_or places j p
    → get_or (held means places) j None ≡ meant means p
held_at means places j p l e = get_or-map (meant means) places j p None l ∙ ap (meant means) (sym e)
