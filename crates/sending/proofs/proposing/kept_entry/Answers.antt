use Rattle.std.proofs.Common.{get_or, sym, ap, ◌∙◌, arith}
use Rattle.model.specs.Quorums.{stations}
use Rattle.rows.specs.Values.{row_of}
use Rattle.sending.proofs.Keeping.{entry_read, row_below}
use Rattle.sending.proofs.proposing.kept_entry.Goals as goal
use Rattle.tables.specs.Plans.{plan_of}

pub bounds-t-at : goal.bounds-t-at
bounds-t-at g c =
    let below = row_below (stations c.args.at.now.numbers.watch.faults) c.stations-n.result c.args.at.now.index c.args.j c.stations-n.ensures c.args.at.now.ready.known c.requires in
    let long = c.args.at.now.ready.rest.kept in
    omega arith

pub returns : goal.returns
returns g c =
    let n = stations c.args.at.now.numbers.watch.faults in
    let below = row_below n c.stations-n.result c.args.at.now.index c.args.j c.stations-n.ensures c.args.at.now.ready.known c.requires in
    let long = c.args.at.now.ready.rest.kept in
    record {
      is =
          entry_read (plan_of c.args.at.now.numbers) c.args.at.now.tables.now.kept.now c.args.at.now.index c.args.j c.args.o c.stations-n.result c.index-t-at.result c.get.result c.min.result
          c.stations-n.ensures (omega arith) c.index-t-at.is (c.get.ensures ∙ ap (λ r. get_or (row_of r) c.args.o 0) (sym c.index-t-at.is)) c.min.ensures;
      few = let m = c.min.ensures in omega arith;
    }
