-- What showing a frame of the wire answers.
use Rattle.std.specs.Prelude.{ℕ, Option, Result}
use Rattle.model.specs.Quorums.{stations}
use Rattle.model.specs.declared.fault.Fault.{Fault}
use Rattle.model.specs.declared.fault.Reason.TheVariants.{ShortTable}
use Rattle.tables.specs.Plans.{short}
use Rattle.tables.specs.Refusing.{refuse}
use Rattle.tables.specs.Runs.{Run, lengths_in}
use Rattle.wire.specs.Wires.{shown_at}

-- How many bytes of the frame at a place are written into a buffer of so many.
abbrev pub shown : {Q : Type 0} → (ℕ → Option Fault) → Run Q → ℕ → ℕ → Result ℕ Fault
shown refused r place space =
    refuse (short (stations r.plan.faults) r.plan.limit r.plan.wire (lengths_in r.held)) ShortTable
    (shown_at refused r.plan r.end r.held.wire place space)
