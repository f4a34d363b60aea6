-- What a line of a sheet does to a run.
use Rattle.canal.specs.GateOrders.{packed, refusal}
use Rattle.model.specs.declared.fault.Fault.{Fault}
use Rattle.runs.specs.Perform.{Does, Done, perform, sent_as, submits}
use Rattle.runs.specs.declared.sent.Sent.{Sent}
use Rattle.sheet_frames.specs.Sheets.{Meant, ordered, refused, bad}
use Rattle.std.specs.Prelude.{◌≡◌, Some, None, Err, Option, Result}
use Rattle.tables.specs.Runs.{Run}

-- An order is submitted at its station; numbers that make no order are refused; any other line does nothing.
abbrev pub on_line : {Q : Type 0} → Meant → Run Q → Option (Result (Done Q) Fault)
on_line (ordered station o) r = Some (perform refusal (submits station (packed o)) r)
on_line (refused e) r = Some (Err e)
on_line bad r = None

-- A line did what was to be done: it was answered with r, and found and left these runs.
abbrev pub Enters : {Q : Type 0} → Option (Result (Done Q) Fault) → Option (Result Sent Fault) → Run Q → Run Q → Type 0
Enters None None before after = after ≡ before
Enters None (Some r) before after = ⊥
Enters (Some done) None before after = ⊥
Enters (Some done) (Some r) before after = Does sent_as done r before after
