-- Answers with refusals.
use Rattle.model.specs.Faults.{fault}
use Rattle.model.specs.declared.fault.Fault.{Fault}
use Rattle.model.specs.declared.fault.Reason.{Reason}
use Rattle.std.specs.Prelude.{Bool, true, false, Ok, Err, Result}

-- This refusal, at place 0, if the test holds, else what is left to say.
abbrev pub refuse : {X : Type 0} → Bool → Reason → Result X Fault → Result X Fault
refuse true reason rest = Err (fault reason 0)
refuse false reason rest = rest

-- What is refused first is refused; else what comes next.
abbrev pub then : {X Y : Type 0} → Result X Fault → (X → Result Y Fault) → Result Y Fault
then (Ok x) next = next x
then (Err e) next = Err e

-- The answer with what was accepted seen in another way.
abbrev pub seen_as : {X Y : Type 0} → (X → Y) → Result X Fault → Result Y Fault
seen_as view (Ok x) = Ok (view x)
seen_as view (Err e) = Err e
