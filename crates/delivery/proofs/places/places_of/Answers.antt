use Rattle.std.proofs.Common.{arith}
use Rattle.delivery.proofs.Indices.{number_fits}
use Rattle.delivery.proofs.places.places_of.Goals as goal
use Rattle.model.specs.Quorums.{stations}

pub returns-clause-fits : goal.returns-clause-fits
returns-clause-fits c rows h =
    number_fits (stations c.args.watch.faults) c.stations-n.result c.stations-n.ensures (omega arith) (omega arith)
    c.args.row rows c.args.watch.limit c.args.number h c.requires.number.0 c.requires.number.1
