use Rattle.pounds.proofs.Water.{conserves, writes}
use Rattle.pounds.proofs.ledger.PoundLedger.take.Goals as goal
use Rattle.pounds.specs.Ledgers.{means, total}
use Rattle.canal.specs.Transfers.{said}
use Rattle.std.proofs.Common.{sym, ap, ◌∙◌}

pub returns-in-Ok : goal.returns-in-Ok
returns-in-Ok c =
    let booked = c.in-Ok.ensures in
    let l = c.args.self.now in
    let m = said c.args.order.now in
    let after = writes l.fitted l.pounds m c.in-Ok.booking.source c.in-Ok.booking.target booked.0 booked.1 booked.2 in
    record { answer = sym booked.0; after = after; conserved = ap total after ∙ conserves (means l) m }
