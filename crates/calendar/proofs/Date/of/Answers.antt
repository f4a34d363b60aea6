use Rattle.calendar.proofs.Dates.{lies, read_entry}
use Rattle.calendar.proofs.Date.of.Goals as goal
use Rattle.calendar.specs.Calendar.{Entry}
use Rattle.std.proofs.Common.{sym, subst}

pub returns : goal.returns
returns c =
    let entry = subst (λ place. Entry place c.entry.result) c.place.ensures.0 c.entry.ensures in
    let is = read_entry c.args.leap c.args.day c.entry.result c.if-day-lt1.false entry in
    record { is = sym is; lies = lies c.args.leap c.args.day c.entry.result c.if-day-lt1.false is }
