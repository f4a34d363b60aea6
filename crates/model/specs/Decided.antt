-- Certificates and the ordered word as computations, for values that a test tells apart.
use Rattle.std.specs.Prelude.{◌≡◌, ℕ, ◌*◌, Bool, false, cond, List, [], ◌∷◌, Some, None, Decides, Option, count_ones, nat_le, slice_index_or}
use Rattle.model.specs.Sets.{gathered, parted}
use Rattle.model.specs.Quorums.{quorum}

-- the test says yes exactly when two values are equal
abbrev pub Tells : {V : Type 0} → (V → V → Bool) → Type 0
Tells {V} same = (u v : V) → Decides (same u v) (u ≡ v)

abbrev pub holds_by : {V : Type 0} → (V → V → Bool) → V → Option V → Bool
holds_by same v (Some u) = same u v
holds_by same v None = false

-- the set of the places, sixteen at most, that hold v
abbrev pub backers_by : {V : Type 0} → (V → V → Bool) → List (Option V) → V → ℕ
backers_by same places v = gathered 16 (λ j. holds_by same v (slice_index_or places j None))

-- what the head's place holds, if at least 2f other places hold the same
abbrev pub backed_by : {V : Type 0} → (V → V → Bool) → ℕ → List (Option V) → ℕ → Option V → Option V
backed_by same f places head (Some v) = cond (nat_le (2 * f) (count_ones (parted (backers_by same places v) head))) (Some v) None
backed_by same f places head None = None

abbrev pub certified_by : {V : Type 0} → (V → V → Bool) → ℕ → List (Option V) → ℕ → Option V
certified_by same f places head = backed_by same f places head (slice_index_or places head None)

-- the first word that at least 2f + 1 places hold
abbrev pub first_by : {V : Type 0} → (V → V → Bool) → ℕ → List (Option V) → List (Option V) → Option V
first_by same f places [] = None
first_by same f places (Some v ∷ rest) = cond (nat_le (quorum f) (count_ones (backers_by same places v))) (Some v) (first_by same f places rest)
first_by same f places (None ∷ rest) = first_by same f places rest

abbrev pub ordered_by : {V : Type 0} → (V → V → Bool) → ℕ → List (Option V) → Option V
ordered_by same f places = first_by same f places places
