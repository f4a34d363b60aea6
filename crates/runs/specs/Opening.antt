-- What opening a fitted run answers and leaves.
use Rattle.std.specs.Prelude.{◌≡◌, true, false, Ok, Err, Result}
use Rattle.model.specs.Faults.{fault}
use Rattle.model.specs.Quorums.{stations}
use Rattle.model.specs.declared.fault.Reason.TheVariants.{ShortTable}
use Rattle.runs.specs.declared.life.Declined.{Declined}
use Rattle.runs.specs.declared.life.Open.{Open}
use Rattle.tables.specs.Contents.{Contents, opened_on}
use Rattle.tables.specs.Plans.{Lengths, Plan, plan_of, short}

-- A run that is opened keeps its numbers, and nothing is on its wire. One that is declined, for a table that is too short, is handed
-- back, and nothing has changed.
abbrev pub Opens : {Q : Type 0} → Plan → Q → Lengths → Contents Q → Result Open Declined → Contents Q → Type 0
Opens p start t before (Ok o) after =
    (short (stations p.faults) p.limit p.wire t ≡ false) × (plan_of o.numbers ≡ p) × (o.end ≡ 0) × (o.last ≡ 0) × (after ≡ opened_on p start before)
Opens p start t before (Err d) after =
    (short (stations p.faults) p.limit p.wire t ≡ true) × (plan_of d.fitted.numbers ≡ p) × (d.fault ≡ fault ShortTable 0) × (after ≡ before)
