-- What is heard at a station, as the code has it, and what is made of it.
use Rattle.std.specs.Prelude.{◌≡◌, ℕ, ◌<◌, ◌≤◌, List, [], ◌∷◌, Some, None, Option}
use Rattle.delivery.specs.Deliveries.{Effect, Heard, hears, word}
use Rattle.delivery.specs.Tellings.{Placed, told, told_by}
use Rattle.delivery.specs.declared.change.Change.TheVariants.{Nothing, Accuse}
use Rattle.delivery.specs.declared.change.Delivery.{Delivery}
use Rattle.delivery.specs.declared.heard.Spoken.{Spoken}
use Rattle.delivery.specs.declared.heard.Vote.{Vote}
use Rattle.delivery.specs.declared.outcome.Outcome.{Outcome}
use Rattle.delivery.specs.declared.outcome.Outcome.TheVariants.{Taken, Known, TwoFaced}
use Rattle.frames.specs.Said.{Said}
use Rattle.frames.specs.Views.{said_by}
use Rattle.frames.specs.declared.kind.Message.{Message}
use Rattle.model.specs.Quorums.{stations}
use Rattle.model.specs.declared.fault.Fault.{Fault}
use Rattle.rows.specs.Caps.{capped_at}
use Rattle.rows.specs.Values.{matrix_of}
use Rattle.tables.specs.Contents.{contents}
use Rattle.tables.specs.Plans.{Lengths, Plan, lengths_of, plan_of}
use Rattle.tables.specs.declared.numbers.Numbers.{Numbers}
use Rattle.tables.specs.declared.tables.Tables.{Tables}

-- A word of the run: its speaker and its origin are stations, its sequence is one of the watch, and its operation is not refused.
pub record Worded (refused : ℕ → Option Fault) (p : Plan) (w : Spoken) : Type 0 where
  pub speaker : w.speaker < stations p.faults
  pub origin : w.origin < stations p.faults
  pub some : 1 ≤ w.sequence
  pub short : w.sequence ≤ p.limit
  pub accepted : refused w.packed ≡ None

-- A vote of the run: its speaker is a station, its number is one of the watch, and its matrix has the run's side and is read as it is.
pub record Voted (p : Plan) (v : Vote) : Type 0 where
  pub speaker : v.speaker < stations p.faults
  pub some : 1 ≤ v.number
  pub short : v.number ≤ p.limit
  pub side : v.matrix.side ≡ stations p.faults
  pub low : capped_at p.limit (matrix_of v.matrix) ≡ matrix_of v.matrix

-- The word on its topic.
abbrev pub word_of : Spoken → Heard
word_of w = word w.origin w.sequence w.speaker w.packed

-- What a station has to say in a message, if there is one.
abbrev pub says : ℕ → ℕ → Option Message → List Said
says s f None = []
says s f (Some m) = said_by s f m ∷ []

-- A delivery at station i that has this effect, and that a writer can carry out.
pub record Makes {Op : Type 0} (bits : Op → ℕ) (t : Lengths) (i : ℕ) (e : Effect) (d : Delivery Op) : Type 0 where
  pub tells : told_by bits d ≡ told e
  pub placed : Placed t i d

-- A delivery at station i that does what hearing this asks for.
abbrev pub Hears : {Mach Op Q : Type 0} → (Op → ℕ) → (Mach → Q) → Numbers → Tables Mach Op → ℕ → Heard → Delivery Op → Type 0
Hears bits means n t i h d = Makes bits (lengths_of t) i (hears (plan_of n) (contents bits means t) i h) d

-- By the outcome: where the word is taken, what is made of it then; a known one changes and sends nothing, another accuses the speaker.
abbrev pub Settles : {Op : Type 0} → (Delivery Op → Type 0) → Outcome → ℕ → Delivery Op → Type 0
Settles Made Taken speaker d = Made d
Settles Made Known speaker d = d ≡ record { outcome = Known; change = Nothing; first = None; second = None }
Settles Made TwoFaced speaker d = d ≡ record { outcome = TwoFaced; change = Accuse speaker; first = None; second = None }
