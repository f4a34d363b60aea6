-- What the stations of a run hold, and what is said of it. Stations count from 0; an operation stands as its packed form.
use Rattle.std.specs.Prelude.{◌≡◌, ℕ, zero, suc, ◌*◌, ◌<◌, ◌≤◌, false, ◌⊎◌, List, [], ◌∷◌, length, Some, Option, count_ones}
use Rattle.std.specs.List.{slice_get}
use Rattle.model.specs.Sets.{named, Within}
use Rattle.model.specs.Quorums.{stations, Certificate, Ordered}
use Rattle.order.specs.Columns.{Matrix, cell}
use Rattle.order.specs.Laws.{In}
use Rattle.order.specs.Orders.{key}
use Rattle.order.specs.Rows.{Row, entry}
use Rattle.order.specs.declared.key.Key.{Key}

-- ---- the run

pub record Run : Type 0 where
  pub f : ℕ
  pub limit : ℕ
  pub leader : ℕ
  pub faulty : ℕ

-- how many stations there are
abbrev pub N : Run → ℕ
N r = stations r.f

-- the numbers of a run are fit: at most f stations are faulty, of those that there are
pub record Fit (r : Run) : Type 0 where
  pub faults : (1 ≤ r.f) × (r.f ≤ 5)
  pub watch : (1 ≤ r.limit) × (r.limit ≤ 63)
  pub leads : r.leader < N r
  pub known : Within (N r) r.faulty
  pub few : count_ones r.faulty ≤ r.f

abbrev pub Correct : Run → ℕ → Type 0
Correct r i = (i < N r) × (named r.faulty i ≡ false)

-- ---- what is said

-- what a word is about: an origin's sequence, the first votes on a proposal's number, the commits on it
pub data Topic : Type 0 where
  word : ℕ → ℕ → Topic
  vote : ℕ → Topic
  commit : ℕ → Topic

pub data Value : Type 0 where
  op : ℕ → Value
  mat : Matrix → Value

-- A request is its origin's word on its sequence, an ack anybody else's. A proposal is the leader's first vote on its number,
-- a prepare anybody else's. Each message begins with its speaker.
pub data Message : Type 0 where
  say : ℕ → Topic → Value → Message
  summary : ℕ → Row → Message

-- who opens a topic: the origin, the leader
abbrev pub head : Run → Topic → ℕ
head r (word o s) = o
head r (vote n) = r.leader
head r (commit n) = r.leader

-- from 1 to the watch length
abbrev pub Numbered : Run → ℕ → Type 0
Numbered r s = (1 ≤ s) × (s ≤ r.limit)

-- a row or a matrix has so many entries, and none exceeds the watch length
abbrev pub Entries : Run → ℕ → List ℕ → Type 0
Entries r n a = (length a ≡ n) × ((k : ℕ) → k < n → entry a k ≤ r.limit)

abbrev pub ProperWord : Run → Topic → Value → Type 0
ProperWord r (word o s) (op u) = (o < N r) × Numbered r s
ProperWord r (word o s) (mat X) = ⊥
ProperWord r (vote n) (op u) = ⊥
ProperWord r (vote n) (mat X) = Numbered r n × Entries r (N r * N r) X
ProperWord r (commit n) (op u) = ⊥
ProperWord r (commit n) (mat X) = Numbered r n × Entries r (N r * N r) X

-- a message of a station, within the run's bounds
abbrev pub Proper : Run → Message → Type 0
Proper r (say j t v) = (j < N r) × ProperWord r t v
Proper r (summary j a) = (j < N r) × Entries r (N r) a

abbrev pub speaker : Message → ℕ
speaker (say j t v) = j
speaker (summary j a) = j

-- ---- places

-- station, topic, speaker
pub data Spot : Type 0 where
  spot : ℕ → Topic → ℕ → Spot

abbrev pub Places : Type 0
Places = Spot → Option Value

-- the list of what g gives for the numbers below n
abbrev pub listed : {A : Type 0} → ℕ → (ℕ → A) → List A
listed zero g = []
listed (suc n) g = g 0 ∷ listed n (λ k. g (suc k))

-- the places of a topic at a station, speaker by speaker
abbrev pub seen : Run → Places → ℕ → Topic → List (Option Value)
seen r P i t = listed (N r) (λ j. P (spot i t j))

-- Station i holds a certificate for v: the opener's place holds v, and at least 2f others hold the same.
abbrev pub Full : Run → Places → ℕ → Topic → Value → Type 0
Full r P i t v = Certificate r.f (seen r P i t) (head r t) v

-- for the operation u of origin o under sequence s
abbrev pub CertificateAt : Run → Places → ℕ → ℕ → ℕ → ℕ → Type 0
CertificateAt r P i o s u = Full r P i (word o s) (op u)

abbrev pub CertifiedAt : Run → Places → ℕ → ℕ → ℕ → Type 0
CertifiedAt r P i o s = (u : ℕ) × CertificateAt r P i o s u

-- station i is prepared for the proposal X under number n
abbrev pub Prepared : Run → Places → ℕ → ℕ → Matrix → Type 0
Prepared r P i n X = Full r P i (vote n) (mat X)

-- at station i number n is ordered, with X: at least 2f + 1 commits say so
abbrev pub OrderedAt : Run → Places → ℕ → ℕ → Matrix → Type 0
OrderedAt r P i n X = Ordered r.f (seen r P i (commit n)) (mat X)

-- the numbers from 1 on are ordered there without a gap, with these matrices
abbrev pub Unbroken : Run → Places → ℕ → List Matrix → Type 0
Unbroken r P i Xs = (n : ℕ) (X : Matrix) → slice_get Xs n ≡ Some X → OrderedAt r P i (suc n) X

-- and no further number is
abbrev pub Whole : Run → Places → ℕ → List Matrix → Type 0
Whole r P i Xs = Unbroken r P i Xs × ((X : Matrix) → OrderedAt r P i (suc (length Xs)) X → ⊥)

-- ---- rows

-- k is the longest unbroken run of certified sequences of origin o, from 1
pub record Longest (r : Run) (P : Places) (i o k : ℕ) : Type 0 where
  pub within : k ≤ r.limit
  pub run : (s : ℕ) → 1 ≤ s → s ≤ k → CertifiedAt r P i o s
  pub end : k < r.limit → CertifiedAt r P i o (suc k) → ⊥

-- the row that station i sends in a summary
abbrev pub Summary : Run → Places → ℕ → Row → Type 0
Summary r P i a = (length a ≡ N r) × ((o : ℕ) → o < N r → Longest r P i o (entry a o))

-- row k of the matrix is a
abbrev pub HasRow : Run → Matrix → ℕ → Row → Type 0
HasRow r X k a = (o : ℕ) → o < N r → cell (N r) X k o ≡ entry a o

abbrev pub ZeroRow : Run → Row → Type 0
ZeroRow r a = (o : ℕ) → o < N r → entry a o ≡ 0

-- every row of a correct station in the matrix is zero, or that of a summary of this station on the wire
abbrev pub Sound : Run → List Message → Matrix → Type 0
Sound r w X = (k : ℕ) → Correct r k → (a : Row) × HasRow r X k a × (ZeroRow r a ⊎ In (summary k a) w)

-- ---- executed lists

pub record Entry : Type 0 where
  pub origin : ℕ
  pub sequence : ℕ
  pub operation : ℕ

abbrev pub key_of : Entry → Key
key_of e = key e.origin e.sequence

-- ---- machines

pub record Mach : Type 1 where
  pub Q : Type 0
  pub step : Q → ℕ → Q

-- the state after the operations of a list
abbrev pub stepped : (M : Mach) → M.Q → List Entry → M.Q
stepped M q [] = q
stepped M q (e ∷ es) = stepped M (M.step q e.operation) es

-- ---- the state of a run

-- Each list has its oldest first. The numbers used are the lengths: origin o has submitted under 1 to length (submitted o),
-- and a correct leader has proposed under 1 to length proposed.
pub record State (M : Mach) : Type 0 where
  pub run : Run
  pub wire : List Message
  pub place : Places
  pub submitted : ℕ → List ℕ
  pub proposed : List Matrix
  pub kept : ℕ → ℕ → Row
  pub executed : ℕ → List Entry
  pub machine : ℕ → M.Q
  pub accused : ℕ → ℕ

-- origin o submitted u under sequence s
abbrev pub Submitted : (ℕ → List ℕ) → ℕ → ℕ → ℕ → Type 0
Submitted S o zero u = ⊥
Submitted S o (suc k) u = slice_get (S o) k ≡ Some u
