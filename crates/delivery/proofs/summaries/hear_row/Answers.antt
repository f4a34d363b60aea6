use Rattle.delivery.proofs.Settling.{settled_quiet}
use Rattle.delivery.proofs.summaries.hear_row.Goals as goal
use Rattle.delivery.specs.declared.change.Change.TheVariants.{Keep}
use Rattle.std.proofs.Common.{arith, rules}
use Rattle.tables.specs.Plans.{lengths_of}

pub returns : goal.returns
returns g c =
    rw (← c.row_place-place.ensures.is, ← c.rank_at-outcome.ensures)
    (settled_quiet g.M.Op.Operation.bits (lengths_of c.args.at.now.tables.now) c.args.at.now.index _ c.rank_at-outcome.result c.args.speaker
    (Keep c.row_place-place.result c.args.row) c.settled.result c.settled.ensures (omega arith) (omega arith) (λ k. search rules))
