use Rattle.clients.proofs.beginning.begin.Goals as goal
use Rattle.runs.proofs.Extending.{begin}
use Rattle.tables.proofs.Lengths.{same_lengths}
use Rattle.tables.specs.Contents.{contents}
use Rattle.tables.specs.Plans.{lengths_of, plan_of}

pub returns : goal.returns
returns g c =
    let bits = g.M.Op.Operation.bits in
    let means = g.M.Machine.means in
    let t = c.args.t.now in
    let n = c.args.setup in
    begin n.faults n.length n.leader n.faulty (lengths_of t) (lengths_of t) (plan_of c.in_ok-fitted.fitted.numbers) (contents bits means t) (contents bits means c.«open».new.t)
    c.in_ok-run.run' c.in_ok-fitted.ensures (same_lengths bits means t) c.in_ok-run.ensures
