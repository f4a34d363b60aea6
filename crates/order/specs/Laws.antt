-- Laws of rows and of the order, in the subject's own words.
use Rattle.std.specs.Prelude.{◌≡◌, ℕ, zero, suc, ◌<◌, ◌≤◌, cond, ◌⊎◌, List, [], ◌∷◌, ◌++◌, length, take, Some, Decides, ◌==◌, count_ones}
use Rattle.std.specs.List.{slice_get}
use Rattle.model.specs.Quorums.{stations, quorum}
use Rattle.order.specs.Columns.{Matrix, rows_with}
use Rattle.order.specs.Orders.{order, reach}
use Rattle.order.specs.Rows.{Row, none_smaller, some_larger, standing, UpToDate, Larger, Consistent}
use Rattle.order.specs.declared.key.Key.{Key}
use Rattle.order.specs.declared.standing.Standing.{Standing}
use Rattle.order.specs.declared.standing.Standing.TheVariants.{Newer, Known, Inconsistent}

-- ---- rows

-- each of the two questions says yes exactly when its words hold
abbrev pub Questions : Type 0
Questions = (n : ℕ) (a b : Row) → Decides (none_smaller n a b) (UpToDate n a b) × Decides (some_larger n a b) (Larger n a b)

-- how a new row stands to a kept one, in words
abbrev pub Stands : ℕ → Row → Row → Standing → Type 0
Stands n new kept Newer = UpToDate n new kept × Larger n new kept
Stands n new kept Known = UpToDate n kept new
Stands n new kept Inconsistent = Consistent n new kept → ⊥

-- exactly one standing holds of two rows: the one that is answered
abbrev pub Standings : Type 0
Standings = (n : ℕ) (new kept : Row) → Stands n new kept (standing n new kept) × ((s : Standing) → Stands n new kept s → s ≡ standing n new kept)

abbrev pub Itself : Type 0
Itself = (n : ℕ) (a : Row) → UpToDate n a a × (standing n a a ≡ Known)

abbrev pub Transitive : Type 0
Transitive = (n : ℕ) (a b c : Row) → UpToDate n a b → UpToDate n b c → UpToDate n a c

abbrev pub Equal : Type 0
Equal = (n : ℕ) (a b : Row) → length a ≡ n → length b ≡ n → UpToDate n a b → UpToDate n b a → a ≡ b

-- the laws of rows
pub record RowLaws : Type 0 where
  pub questions : Questions
  pub standings : Standings
  pub itself : Itself
  pub transitive : Transitive
  pub equal : Equal

-- ---- the order

abbrev pub In : {A : Type 0} → A → List A → Type 0
In x [] = ⊥
In x (y ∷ ys) = (x ≡ y) ⊎ In x ys

-- no operation stands twice in an order
abbrev pub Once : Type 0
Once = (f limit : ℕ) (Xs : List Matrix) (p q : ℕ) (x : Key) → slice_get (order f limit Xs) p ≡ Some x → slice_get (order f limit Xs) q ≡ Some x → p ≡ q

-- an order over more matrices begins with the order over fewer
abbrev pub Begins : Type 0
Begins = (f limit : ℕ) (Xs Ys : List Matrix) → (rest : List Key) × (order f limit (Xs ++ Ys) ≡ order f limit Xs ++ rest)

-- the sequences of one origin in a list, as they come
abbrev pub sequences : ℕ → List Key → List ℕ
sequences o [] = []
sequences o (x ∷ xs) = cond (x.origin == o) (x.sequence ∷ sequences o xs) (sequences o xs)

-- the d numbers after a
abbrev pub upward : ℕ → ℕ → List ℕ
upward a zero = []
upward a (suc d) = suc a ∷ upward (suc a) d

-- an origin's sequences come rising from 1 without a gap, up to its reach
abbrev pub Gapless : Type 0
Gapless = (f limit : ℕ) (Xs : List Matrix) (o : ℕ) → o < stations f → sequences o (order f limit Xs) ≡ upward 0 (reach f limit Xs o)

-- every operation in an order is one of the stations' and of the watch, and at least 2f + 1 rows of some matrix have its sequence or more
abbrev pub Backed : Type 0
Backed = (f limit : ℕ) (Xs : List Matrix) (x : Key) → In x (order f limit Xs)
    → (x.origin < stations f) × (1 ≤ x.sequence) × (x.sequence ≤ limit)
    × ((X : Matrix) × In X Xs × (quorum f ≤ count_ones (rows_with f X x.origin x.sequence)))

-- ---- the order as a relation

-- The proposal that comes after n others adds x: its sequence is above the origin's reach before the proposal, and not above that after it.
abbrev pub Adds : ℕ → ℕ → List Matrix → ℕ → Key → Type 0
Adds f limit Xs n x =
    (n < length Xs) × (x.origin < stations f)
    × (reach f limit (take n Xs) x.origin < x.sequence) × (x.sequence ≤ reach f limit (take (suc n) Xs) x.origin)

-- x comes before y: by proposal, then by origin, then by sequence
abbrev pub Before : ℕ → ℕ → List Matrix → Key → Key → Type 0
Before f limit Xs x y =
    (m : ℕ) × (n : ℕ) × Adds f limit Xs m x × Adds f limit Xs n y
    × ((m < n) ⊎ ((m ≡ n) × ((x.origin < y.origin) ⊎ ((x.origin ≡ y.origin) × (x.sequence < y.sequence)))))

-- each comes before all that stand after it
abbrev pub Rising : {A : Type 0} → (A → A → Type 0) → List A → Type 0
Rising R [] = Unit {0}
Rising {A} R (x ∷ xs) = ((y : A) → In y xs → R x y) × Rising R xs

-- the list has what the proposals add, and nothing else, in this order
pub record IsOrder (f limit : ℕ) (Xs : List Matrix) (keys : List Key) : Type 0 where
  pub only : (x : Key) → In x keys → (n : ℕ) × Adds f limit Xs n x
  pub all : (x : Key) (n : ℕ) → Adds f limit Xs n x → In x keys
  pub rises : Rising (Before f limit Xs) keys

-- the order is such a list, and no other list is
abbrev pub Unique : Type 0
Unique = (f limit : ℕ) (Xs : List Matrix) → IsOrder f limit Xs (order f limit Xs) × ((keys : List Key) → IsOrder f limit Xs keys → keys ≡ order f limit Xs)

-- the laws of the order
pub record OrderLaws : Type 0 where
  pub once : Once
  pub begins : Begins
  pub gapless : Gapless
  pub backed : Backed
  pub unique : Unique
