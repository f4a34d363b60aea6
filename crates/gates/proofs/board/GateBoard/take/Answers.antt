use Rattle.canal.specs.GateOrders.{said}
use Rattle.gates.proofs.Moving.{moves}
use Rattle.gates.proofs.board.GateBoard.take.Goals as goal
use Rattle.std.proofs.Common.{sym}

pub returns-in-Moved : goal.returns-in-Moved
returns-in-Moved c =
    record {
      answer = c.in-Moved.ensures;
      after =
          moves c.args.self.now.leap c.args.self.now.fitted c.args.self.now.gates (said c.args.order.now) c.into.result
          c.into.ensures (sym c.in-Moved.ensures);
    }
