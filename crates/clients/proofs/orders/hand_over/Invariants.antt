use Rattle.clients.proofs.orders.hand_over.Given as goal
use Rattle.runs.specs.Pasts.{Continues}
use Rattle.runs.specs.Perform.{run_of}

abbrev pub invariant-loop-place : goal.invariant-loop-place
invariant-loop-place g l =
    let bits = g.M.Op.Operation.bits in
    let means = g.M.Machine.means in
    Continues g.M.Op.Operation.refused (run_of bits means l.initial.run l.initial.t) (run_of bits means l.run l.t)
