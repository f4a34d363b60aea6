-- Runs of certified sequences, over the places of one origin: those of sequence 1, then those of sequence 2, and so on.
use Rattle.std.specs.Prelude.{ℕ, zero, suc, ◌+◌, ◌-◌, ◌*◌, ◌<◌, ◌≤◌, Bool, cond, List, take, drop, is_some, Option}
use Rattle.model.specs.Decided.{certified_by}
use Rattle.model.specs.Quorums.{Certified, stations}

-- the places of sequence s, where n speakers have one each
abbrev pub part : {A : Type 0} → ℕ → ℕ → List A → List A
part n s places = take n (drop ((s - 1) * n) places)

-- sequence s has a certificate
abbrev pub CertifiedAt : {V : Type 0} → ℕ → List (Option V) → ℕ → ℕ → Type 0
CertifiedAt f places head s = Certified f (part (stations f) s places) head

-- k is the longest unbroken run of certified sequences from 1, of those up to the watch length
abbrev pub Longest : {V : Type 0} → ℕ → ℕ → List (Option V) → ℕ → ℕ → Type 0
Longest f limit places head k =
    (k ≤ limit) × ((s : ℕ) → 1 ≤ s → s ≤ k → CertifiedAt f places head s) × (k < limit → CertifiedAt f places head (k + 1) → ⊥)

-- ---- the same as a computation, for values that a test tells apart

-- how many numbers after s, at most d, pass one after the other
abbrev pub passing : ℕ → ℕ → (ℕ → Bool) → ℕ
passing s zero test = 0
passing s (suc d) test = cond (test (suc s)) (suc (passing (suc s) d test)) 0

abbrev pub longest_by : {V : Type 0} → (V → V → Bool) → ℕ → ℕ → List (Option V) → ℕ → ℕ
longest_by same f limit places head = passing 0 limit (λ s. is_some (certified_by same f (part (stations f) s places) head))
