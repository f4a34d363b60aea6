use Rattle.pounds.proofs.Water.{books}
use Rattle.pounds.proofs.ledger.PoundLedger.judge.Goals as goal
use Rattle.pounds.specs.Ledgers.{level_of, means}
use Rattle.canal.specs.Transfers.{said}
use Rattle.std.proofs.Common.{rules, arith}

pub returns : goal.returns
returns c =
    books (means c.args.self.now) (said c.args.order.now) (level_of c.in_ok-source.source) (level_of c.in_ok-target.target)
    (search rules) (search rules) (omega arith) (omega arith) (omega arith)
