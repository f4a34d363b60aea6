-- What may happen in a run. A call that is declined changes nothing.
use Rattle.std.specs.Prelude.{◌≡◌, ℕ, suc, ◌*◌, ◌<◌, ◌≢◌, ◌⊎◌, List, [], ◌∷◌, ◌++◌, length, replicate, Some, None}
use Rattle.std.specs.List.{slice_get}
use Rattle.model.specs.Sets.{Names, joined}
use Rattle.order.specs.Columns.{Matrix}
use Rattle.order.specs.Laws.{In, Stands}
use Rattle.order.specs.Orders.{order}
use Rattle.order.specs.Rows.{Row}
use Rattle.order.specs.declared.key.Key.{Key}
use Rattle.order.specs.declared.standing.Standing.TheVariants.{Newer, Known, Inconsistent}
use Rattle.protocol.specs.States.{Run, N, Fit, Correct, Topic, word, vote, commit, Value, op, mat, Message, say, summary, head, Proper, speaker, Spot, spot, Places}
use Rattle.protocol.specs.States.{CertificateAt, Prepared, Unbroken, Summary, HasRow, Sound, Entry, Mach, State}

-- f' is f but for b at a
abbrev pub Changed : {A B : Type 0} → (A → B) → (A → B) → A → B → Type 0
Changed {A} f f' a b = (f' a ≡ b) × ((x : A) → (x ≡ a) ⊎ (f' x ≡ f x))

abbrev pub Changed₂ : {B : Type 0} → (ℕ → ℕ → B) → (ℕ → ℕ → B) → ℕ → ℕ → B → Type 0
Changed₂ f f' i j b = (f' i j ≡ b) × ((x y : ℕ) → ((x ≡ i) × (y ≡ j)) ⊎ (f' x y ≡ f x y))

-- What a faulty station may say: anything proper under its own name; a proposal only with sound rows of correct stations.
pub record Speakable (r : Run) (w : List Message) (m : Message) : Type 0 where
  pub faulty : Names r.faulty (speaker m)
  pub proper : Proper r m
  pub sound : (n : ℕ) (X : Matrix) → m ≡ say r.leader (vote n) (mat X) → Sound r w X

module _ {M : Mach} where
  -- ---- the state with one part changed

  abbrev pub send : Message → State M → State M
  send m σ = record { run = σ.run; wire = σ.wire ++ (m ∷ []); place = σ.place; submitted = σ.submitted; proposed = σ.proposed; kept = σ.kept; executed = σ.executed; machine = σ.machine; accused = σ.accused }

  abbrev pub places : Places → State M → State M
  places P σ = record { run = σ.run; wire = σ.wire; place = P; submitted = σ.submitted; proposed = σ.proposed; kept = σ.kept; executed = σ.executed; machine = σ.machine; accused = σ.accused }

  abbrev pub submits : (ℕ → List ℕ) → State M → State M
  submits S σ = record { run = σ.run; wire = σ.wire; place = σ.place; submitted = S; proposed = σ.proposed; kept = σ.kept; executed = σ.executed; machine = σ.machine; accused = σ.accused }

  abbrev pub proposes : List Matrix → State M → State M
  proposes Xs σ = record { run = σ.run; wire = σ.wire; place = σ.place; submitted = σ.submitted; proposed = Xs; kept = σ.kept; executed = σ.executed; machine = σ.machine; accused = σ.accused }

  abbrev pub keeps : (ℕ → ℕ → Row) → State M → State M
  keeps K σ = record { run = σ.run; wire = σ.wire; place = σ.place; submitted = σ.submitted; proposed = σ.proposed; kept = K; executed = σ.executed; machine = σ.machine; accused = σ.accused }

  abbrev pub accuses : (ℕ → ℕ) → State M → State M
  accuses A σ = record { run = σ.run; wire = σ.wire; place = σ.place; submitted = σ.submitted; proposed = σ.proposed; kept = σ.kept; executed = σ.executed; machine = σ.machine; accused = A }

  abbrev pub executes : (ℕ → List Entry) → (ℕ → M.Q) → State M → State M
  executes l q σ = record { run = σ.run; wire = σ.wire; place = σ.place; submitted = σ.submitted; proposed = σ.proposed; kept = σ.kept; executed = l; machine = q; accused = σ.accused }

  -- ---- deliveries

  -- the empty place of j's word on t at station i takes v
  pub record Taken (σ : State M) (i : ℕ) (t : Topic) (j : ℕ) (v : Value) (P : Places) : Type 0 where
    pub at : Correct σ.run i
    pub heard : In (say j t v) σ.wire
    pub empty : σ.place (spot i t j) ≡ None
    pub filled : Changed σ.place P (spot i t j) (Some v)

  -- A station that took the opener's word, and is not the opener, sends the same as its own: an ack or a prepare.
  pub data Echoes (ρ : State M) (i : ℕ) (t : Topic) (j : ℕ) (v : Value) : State M → Type 0 where
    echo : j ≡ head ρ.run t → i ≢ j → Echoes ρ i t j v (send (say i t v) ρ)
    still : (j ≡ head ρ.run t → i ≡ j) → Echoes ρ i t j v ρ

  -- A station that was not prepared before, and is now, sends a commit.
  pub data Commits (σ ρ : State M) (i n : ℕ) : State M → Type 0 where
    commits : (X : Matrix) → ((Y : Matrix) → Prepared σ.run σ.place i n Y → ⊥) → Prepared ρ.run ρ.place i n X
        → Commits σ ρ i n (send (say i (commit n) (mat X)) ρ)
    quiet : ((X : Matrix) → Prepared ρ.run ρ.place i n X → (Y : Matrix) × Prepared σ.run σ.place i n Y) → Commits σ ρ i n ρ

  -- ---- the steps

  pub data Step (σ : State M) : State M → Type 0 where
    -- A correct origin submits u: it sends a request under its next number, which is at most the watch length.
    submit : (o u : ℕ) (S : ℕ → List ℕ) → Correct σ.run o → length (σ.submitted o) < σ.run.limit
        → Changed σ.submitted S o (σ.submitted o ++ (u ∷ []))
        → Step σ (send (say o (word o (suc (length (σ.submitted o)))) (op u)) (submits S σ))
    -- A correct station sends, for each origin, the longest unbroken run of certified sequences.
    summarise : (i : ℕ) (a : Row) → Correct σ.run i → Summary σ.run σ.place i a → Step σ (send (summary i a) σ)
    -- A correct leader sends the rows that it keeps, under its next number, which is at most the watch length.
    propose : (X : Matrix) → Correct σ.run σ.run.leader → length σ.proposed < σ.run.limit
        → length X ≡ N σ.run * N σ.run → ((k : ℕ) → k < N σ.run → HasRow σ.run X k (σ.kept σ.run.leader k))
        → Step σ (send (say σ.run.leader (vote (suc (length σ.proposed))) (mat X)) (proposes (σ.proposed ++ (X ∷ [])) σ))
    -- A faulty station speaks.
    speak : (m : Message) → Speakable σ.run σ.wire m → Step σ (send m σ)
    -- A request or an ack is delivered into an empty place; a station that takes a request acks it, unless it is the origin.
    take_word : {τ : State M} (i o s j : ℕ) (v : Value) (P : Places) → Taken σ i (word o s) j v P
        → Echoes (places P σ) i (word o s) j v τ → Step σ τ
    -- A proposal or a prepare is delivered into an empty place; a station that takes a proposal sends a prepare, unless it is the
    -- leader, and one that becomes prepared sends a commit after it.
    take_vote : {ρ τ : State M} (i n j : ℕ) (v : Value) (P : Places) → Taken σ i (vote n) j v P
        → Echoes (places P σ) i (vote n) j v ρ → Commits σ ρ i n τ → Step σ τ
    -- A commit is delivered into an empty place.
    take_commit : (i n j : ℕ) (v : Value) (P : Places) → Taken σ i (commit n) j v P → Step σ (places P σ)
    -- A word is delivered that its place holds already.
    again : (i : ℕ) (t : Topic) (j : ℕ) (v : Value) → Correct σ.run i → In (say j t v) σ.wire → σ.place (spot i t j) ≡ Some v → Step σ σ
    -- A word is delivered whose place holds another one: its speaker is accused.
    another : (i : ℕ) (t : Topic) (j : ℕ) (v w : Value) (A : ℕ → ℕ) → Correct σ.run i → In (say j t v) σ.wire
        → σ.place (spot i t j) ≡ Some w → w ≢ v → Changed σ.accused A i (joined (σ.accused i) j) → Step σ (accuses A σ)
    -- A summary is delivered that is more up-to-date than the kept row: it is kept.
    newer : (i j : ℕ) (a : Row) (K : ℕ → ℕ → Row) → Correct σ.run i → In (summary j a) σ.wire
        → Stands (N σ.run) a (σ.kept i j) Newer → Changed₂ σ.kept K i j a → Step σ (keeps K σ)
    -- A summary is delivered that is the same as the kept row, or older.
    older : (i j : ℕ) (a : Row) → Correct σ.run i → In (summary j a) σ.wire → Stands (N σ.run) a (σ.kept i j) Known → Step σ σ
    -- A summary is delivered that is inconsistent with the kept row: its speaker is accused.
    inconsistent : (i j : ℕ) (a : Row) (A : ℕ → ℕ) → Correct σ.run i → In (summary j a) σ.wire
        → Stands (N σ.run) a (σ.kept i j) Inconsistent → Changed σ.accused A i (joined (σ.accused i) j) → Step σ (accuses A σ)
    -- A correct station executes the next operation in the order of its ordered proposals, for which it has a certificate.
    execute : (i : ℕ) (x : Key) (u : ℕ) (Xs : List Matrix) (l : ℕ → List Entry) (q : ℕ → M.Q) → Correct σ.run i
        → Unbroken σ.run σ.place i Xs → slice_get (order σ.run.f σ.run.limit Xs) (length (σ.executed i)) ≡ Some x
        → CertificateAt σ.run σ.place i x.origin x.sequence u
        → Changed σ.executed l i (σ.executed i ++ (record { origin = x.origin; sequence = x.sequence; operation = u } ∷ []))
        → Changed σ.machine q i (M.step (σ.machine i) u)
        → Step σ (executes l q σ)

  -- ---- reached

  pub record Opened (start : M.Q) (σ : State M) : Type 0 where
    pub fit : Fit σ.run
    pub wire : σ.wire ≡ []
    pub place : (x : Spot) → σ.place x ≡ None
    pub submitted : (o : ℕ) → σ.submitted o ≡ []
    pub proposed : σ.proposed ≡ []
    pub kept : (i j : ℕ) → σ.kept i j ≡ replicate (N σ.run) 0
    pub executed : (i : ℕ) → σ.executed i ≡ []
    pub machine : (i : ℕ) → σ.machine i ≡ start
    pub accused : (i : ℕ) → σ.accused i ≡ 0

  -- τ comes after any number of steps from σ
  pub data Later (σ : State M) : State M → Type 0 where
    same : Later σ σ
    step : {τ υ : State M} → Later σ τ → Step τ υ → Later σ υ

  abbrev pub Reached : M.Q → State M → Type 0
  Reached start σ = (first : State M) × Opened start first × Later first σ
