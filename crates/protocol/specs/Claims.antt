-- What is claimed of every reached state.
use Rattle.std.specs.Prelude.{◌≡◌, ℕ, ◌+◌, true, false, ◌≢◌, List, [], ◌∷◌, ◌++◌, map, length, Some}
use Rattle.std.specs.List.{slice_get}
use Rattle.model.specs.Sets.{named}
use Rattle.model.specs.Quorums.{AtLeast}
use Rattle.order.specs.Columns.{Matrix}
use Rattle.order.specs.Laws.{In}
use Rattle.order.specs.Orders.{order}
use Rattle.order.specs.Rows.{Row, Consistent}
use Rattle.protocol.specs.States.{N, Correct, Topic, vote, Value, mat, Message, say, summary, Proper, Spot, CertificateAt, OrderedAt, Unbroken, Whole, Entry, key_of, Mach, stepped, State, Submitted}
use Rattle.protocol.specs.Steps.{Later, Reached}

-- xs is a beginning of ys
abbrev pub Beginning : {A : Type 0} → List A → List A → Type 0
Beginning {A} xs ys = (rest : List A) × (ys ≡ xs ++ rest)

module _ {M : Mach} where
  pub record Claims (start : M.Q) (σ : State M) : Type 0 where
    -- at no position held by both do two correct stations' executed lists differ, in origin, sequence or operation
    pub agree : (i j p : ℕ) (d e : Entry) → Correct σ.run i → Correct σ.run j → slice_get (σ.executed i) p ≡ Some d → slice_get (σ.executed j) p ≡ Some e → d ≡ e
    -- two correct stations with equally long lists hold equal states
    pub equal : (i j : ℕ) → Correct σ.run i → Correct σ.run j → length (σ.executed i) ≡ length (σ.executed j) → σ.machine i ≡ σ.machine j
    -- a correct station's list is a beginning of the order that its ordered proposals give
    pub begins : (i : ℕ) → Correct σ.run i
        → (Xs : List Matrix) × Unbroken σ.run σ.place i Xs × Beginning (map key_of (σ.executed i)) (order σ.run.f σ.run.limit Xs)
    -- and so of the order that all of them give, as far as they are ordered without a gap
    pub whole : (i : ℕ) (Xs : List Matrix) → Correct σ.run i → Whole σ.run σ.place i Xs
        → Beginning (map key_of (σ.executed i)) (order σ.run.f σ.run.limit Xs)
    -- its machine's state is the starting state stepped through its list
    pub state : (i : ℕ) → Correct σ.run i → σ.machine i ≡ stepped M start (σ.executed i)
    -- every entry of a correct station's list is held under certificate by at least f + 1 correct stations
    pub held : (i p : ℕ) (e : Entry) → Correct σ.run i → slice_get (σ.executed i) p ≡ Some e
        → AtLeast (σ.run.f + 1) (λ k. Correct σ.run k × CertificateAt σ.run σ.place k e.origin e.sequence e.operation)
    -- one with a correct origin was submitted there, under that number, with that operation
    pub submitted : (i p : ℕ) (e : Entry) → Correct σ.run i → slice_get (σ.executed i) p ≡ Some e → Correct σ.run e.origin
        → Submitted σ.submitted e.origin e.sequence e.operation
    -- no correct station is listed as two-faced by a correct station
    pub spared : (i j : ℕ) → Correct σ.run i → Correct σ.run j → named (σ.accused i) j ≡ false

-- every reached state satisfies all of the claims
abbrev pub Safe : Mach → Type 0
Safe M = (start : M.Q) (σ : State M) → Reached start σ → Claims start σ

-- ---- what the claims rest on

-- two certificates at correct stations, for one origin and sequence, carry one operation
abbrev pub OneOperation : Mach → Type 0
OneOperation M = (start : M.Q) (σ : State M) → Reached start σ → (i j o s u v : ℕ) → Correct σ.run i → Correct σ.run j
    → CertificateAt σ.run σ.place i o s u → CertificateAt σ.run σ.place j o s v → u ≡ v

-- two correct stations that order one number order one matrix
abbrev pub OneMatrix : Mach → Type 0
OneMatrix M = (start : M.Q) (σ : State M) → Reached start σ → (i j n : ℕ) (X Y : Matrix) → Correct σ.run i → Correct σ.run j
    → OrderedAt σ.run σ.place i n X → OrderedAt σ.run σ.place j n Y → X ≡ Y

-- a correct station never says two different words on one topic
abbrev pub OneVoice : Mach → Type 0
OneVoice M = (start : M.Q) (σ : State M) → Reached start σ → (j : ℕ) (t : Topic) (v w : Value) → Correct σ.run j
    → In (say j t v) σ.wire → In (say j t w) σ.wire → v ≡ w

-- a place never changes once it is filled
abbrev pub Lasting : Mach → Type 0
Lasting M = (σ τ : State M) → Later σ τ → (x : Spot) (v : Value) → σ.place x ≡ Some v → τ.place x ≡ Some v

-- of two summaries of a correct station one is at least as up-to-date as the other
abbrev pub Comparable : Mach → Type 0
Comparable M = (start : M.Q) (σ : State M) → Reached start σ → (j : ℕ) (a b : Row) → Correct σ.run j
    → In (summary j a) σ.wire → In (summary j b) σ.wire → Consistent (N σ.run) a b

-- all that is on the wire is within the run's bounds
abbrev pub Bounded : Mach → Type 0
Bounded M = (start : M.Q) (σ : State M) → Reached start σ → (m : Message) → In m σ.wire → Proper σ.run m

-- ---- that the rules can be met

-- With f = 1, nobody faulty and one submission, of u, some reached state has an executed list of one entry, u, at every correct station.
abbrev pub Executes : Mach → Type 0
Executes M = (start : M.Q) (u : ℕ)
    → (σ : State M) × Reached start σ × (σ.run.f ≡ 1) × (σ.run.faulty ≡ 0)
    × ((o : ℕ) × (σ.submitted o ≡ u ∷ []) × ((p : ℕ) → p ≢ o → σ.submitted p ≡ [])
    × ((i : ℕ) → Correct σ.run i → σ.executed i ≡ record { origin = o; sequence = 1; operation = u } ∷ []))

-- In some reached state a faulty leader has spoken two different proposals under one number.
abbrev pub TwoFaced : Mach → Type 0
TwoFaced M = (start : M.Q) → (σ : State M) × Reached start σ × (named σ.run.faulty σ.run.leader ≡ true)
    × ((n : ℕ) × (X : Matrix) × (Y : Matrix) × In (say σ.run.leader (vote n) (mat X)) σ.wire × In (say σ.run.leader (vote n) (mat Y)) σ.wire × (X ≢ Y))

-- In some reached state a faulty leader is listed as two-faced by a correct station.
abbrev pub Accuses : Mach → Type 0
Accuses M = (start : M.Q) → (σ : State M) × Reached start σ × (named σ.run.faulty σ.run.leader ≡ true)
    × ((i : ℕ) × Correct σ.run i × (named (σ.accused i) σ.run.leader ≡ true))
