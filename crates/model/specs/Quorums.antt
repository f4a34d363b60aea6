-- Who holds a word, and how many are enough. A slice of places is a list: place j is speaker j's, and is empty or holds a word.
use Rattle.std.specs.Prelude.{◌≡◌, ℕ, ◌+◌, ◌*◌, ◌<◌, ◌≤◌, false, ◌≢◌, List, map, Some, None, Decides, Option, bit_and, count_ones, slice_index_or}
use Rattle.model.specs.Sets.{named, Names, Within}

-- Where f stations may be faulty there are 3f + 1, of which 2f + 1 are a quorum.
abbrev pub stations : ℕ → ℕ
stations f = 3 * f + 1

abbrev pub quorum : ℕ → ℕ
quorum f = 2 * f + 1

-- at least m of the sixteen stations that there may be have A
abbrev pub AtLeast : ℕ → (ℕ → Type 0) → Type 0
AtLeast m A = (set : ℕ) × Within 16 set × (m ≤ count_ones set) × ((j : ℕ) → Names set j → A j)

-- ---- places

-- what a place holds, by meaning
abbrev pub meant : {W V : Type 0} → (W → V) → Option W → Option V
meant means (Some u) = Some (means u)
meant means None = None

abbrev pub held : {W V : Type 0} → (W → V) → List (Option W) → List (Option V)
held means places = map (meant means) places

abbrev pub Holds : {V : Type 0} → List (Option V) → V → ℕ → Type 0
Holds places v j = slice_index_or places j None ≡ Some v

-- the set is that of the places, sixteen at most, that hold v
abbrev pub Backers : {V : Type 0} → List (Option V) → V → ℕ → Type 0
Backers places v set = Within 16 set × ((j : ℕ) → j < 16 → Decides (named set j) (Holds places v j))

-- the tally: as many as the set of these places has
abbrev pub Tally : {V : Type 0} → List (Option V) → V → ℕ → Type 0
Tally places v m = (set : ℕ) × Backers places v set × (m ≡ count_ones set)

-- A certificate for v: the head's place holds v, and at least 2f other places hold the same. Of an operation the head is its origin;
-- a station is prepared where the first votes are a certificate whose head is the leader.
abbrev pub Certificate : {V : Type 0} → ℕ → List (Option V) → ℕ → V → Type 0
Certificate f places head v = Holds places v head × AtLeast (2 * f) (λ j. (j ≢ head) × Holds places v j)

abbrev pub Certified : {V : Type 0} → ℕ → List (Option V) → ℕ → Type 0
Certified {V} f places head = (v : V) × Certificate f places head v

-- v is ordered: at least 2f + 1 places hold it
abbrev pub Ordered : {V : Type 0} → ℕ → List (Option V) → V → Type 0
Ordered f places v = AtLeast (quorum f) (Holds places v)

abbrev pub OrderedAt : {V : Type 0} → ℕ → List (Option V) → ℕ → Type 0
OrderedAt {V} f places at = (v : V) × Holds places v at × Ordered f places v

-- An answer is a value of which P holds, or that P holds of none.
abbrev pub Answers : {V : Type 0} → (V → Type 0) → Option V → Type 0
Answers P (Some v) = P v
Answers {V} P None = (v : V) → P v → ⊥

-- ---- quorums

-- two quorums share f + 1 stations
abbrev pub Meet : Type 0
Meet = (f a b : ℕ) → Within (stations f) a → Within (stations f) b → quorum f ≤ count_ones a → quorum f ≤ count_ones b → f + 1 ≤ count_ones (bit_and a b)

-- so some station is in both, and outside any set of at most f
abbrev pub Shared : Type 0
Shared = (f a b faulty : ℕ) → Within (stations f) a → Within (stations f) b → quorum f ≤ count_ones a → quorum f ≤ count_ones b → count_ones faulty ≤ f
    → (j : ℕ) × (j < stations f) × Names a j × Names b j × (named faulty j ≡ false)

-- and of one quorum, f + 1 are outside any set of at most f
abbrev pub Most : Type 0
Most = (f a faulty : ℕ) → quorum f ≤ count_ones a → count_ones faulty ≤ f
    → (rest : ℕ) × (f + 1 ≤ count_ones rest) × ((j : ℕ) → Names rest j → Names a j × (named faulty j ≡ false))
