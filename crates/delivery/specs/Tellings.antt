-- What a delivery tells, as the rules say it and as the code has it.
use Rattle.std.specs.Prelude.{◌≡◌, ℕ, ◌+◌, ◌<◌, ◌≤◌, Bool, true, false, List, [], ◌∷◌, ◌++◌, map, length, Some, None, Option, slice_set}
use Rattle.delivery.specs.Deliveries as rules
use Rattle.delivery.specs.Deliveries.{Effect, commits, echoes, effect, first_vote, prepared_at}
use Rattle.delivery.specs.declared.change.Change.{Change}
use Rattle.delivery.specs.declared.change.Change.TheVariants as change
use Rattle.delivery.specs.declared.change.Delivery.{Delivery}
use Rattle.delivery.specs.declared.outcome.Outcome.{Outcome}
use Rattle.delivery.specs.declared.outcome.Outcome.TheVariants.{Taken}
use Rattle.frames.specs.Said as said
use Rattle.frames.specs.Writing.{frame}
use Rattle.model.specs.Quorums.{stations}
use Rattle.rows.specs.Values.{matrix_of, row_of}
use Rattle.tables.specs.Contents.{frame_of}
use Rattle.tables.specs.Plans.{Lengths, Plan}
use Rattle.tables.specs.declared.tables.Slot.{Slot}

-- The outcome, the change, and the frames that are sent, in their order.
pub record Told : Type 0 where
  pub outcome : Outcome
  pub change : rules.Change
  pub frames : List (List ℕ)

abbrev pub told : Effect → Told
told e = record { outcome = e.outcome; change = e.change; frames = map frame e.says }

-- A change of the code by meaning: an operation as its packed form.
abbrev pub change_by : {Op : Type 0} → (Op → ℕ) → Change Op → rules.Change
change_by bits change.Nothing = rules.nothing
change_by bits (change.Place at word) = rules.place at (bits word)
change_by bits (change.First at matrix) = rules.first at (matrix_of matrix)
change_by bits (change.Second at matrix) = rules.second at (matrix_of matrix)
change_by bits (change.Keep at row) = rules.keep at (row_of row)
change_by bits (change.Accuse speaker) = rules.accuse speaker

abbrev pub frame_in : Option Slot → List (List ℕ)
frame_in None = []
frame_in (Some s) = frame_of s ∷ []

abbrev pub frames_in : {Op : Type 0} → Delivery Op → List (List ℕ)
frames_in d = frame_in d.first ++ frame_in d.second

abbrev pub told_by : {Op : Type 0} → (Op → ℕ) → Delivery Op → Told
told_by bits d = record { outcome = d.outcome; change = change_by bits d.change; frames = frames_in d }

-- Not prepared before, and prepared after.
abbrev pub newly : {V : Type 0} → Option V → Option V → Bool
newly None (Some v) = true
newly None None = false
newly (Some w) after = false

-- A first vote that is taken at station i: its place takes it, a proposal is echoed by a prepare, and a station that becomes prepared sends a commit.
abbrev pub takes : Plan → List (Option (List ℕ)) → ℕ → ℕ → ℕ → List ℕ → Effect
takes p votes i n j m =
    let at = first_vote p i n + j in
    effect Taken j (rules.first at m)
    (echoes i p.leader j (said.prepare i p.faults n m)
    ++ commits i p.faults n (prepared_at p votes i n) (prepared_at p (slice_set votes at (Some m)) i n))

-- ---- what a writer needs

-- The place of a change at station i lies within its table.
abbrev pub Lies : {Op : Type 0} → Lengths → ℕ → Change Op → Type 0
Lies t i change.Nothing = Unit {0}
Lies t i (change.Place at word) = at < t.words
Lies t i (change.First at matrix) = at < t.votes
Lies t i (change.Second at matrix) = at < t.commits
Lies t i (change.Keep at row) = at < t.kept
Lies t i (change.Accuse speaker) = i < t.accused

-- A change that lies within its table, and a second frame only where there is a first.
pub record Placed {Op : Type 0} (t : Lengths) (i : ℕ) (d : Delivery Op) : Type 0 where
  pub lies : Lies t i d.change
  pub ordered : d.first ≡ None → d.second ≡ None

-- A delivery at a station of the run that changes places of the tables, and whose frames find places of the wire from `end` on.
pub record Fits {Op : Type 0} (p : Plan) (end : ℕ) (t : Lengths) (i : ℕ) (d : Delivery Op) : Type 0 where
  pub station : i < stations p.faults
  pub placed : Placed t i d
  pub room : end + length (frames_in d) ≤ p.wire
  pub wired : p.wire ≤ t.wire
