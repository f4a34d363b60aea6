use Rattle.calendar.proofs.Days.{days, table_entry}
use Rattle.calendar.proofs.entry.Goals as goal
use Rattle.std.proofs.Common.{refl}

pub returns : goal.returns
returns c = table_entry days c.args.place (record { month = 0; day = 0 }) refl c.requires
