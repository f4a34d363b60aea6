use Rattle.clients.proofs.orders.hand_over.Goals as goal
use Rattle.runs.proofs.Extending.{extend}
use Rattle.runs.specs.Perform.{delivers, run_of, took}

pub loop-place-init : goal.loop-place-init
loop-place-init g c = λ start past. past

pub loop-place-preserved : goal.loop-place-preserved
loop-place-preserved g c = λ start past.
    let bits = g.M.Op.Operation.bits in
    let means = g.M.Machine.means in
    extend (delivers c.args.station c.loop-place.place) took c.deliver.result (run_of bits means c.loop-place.run c.loop-place.t)
    (run_of bits means c.deliver.new.self c.deliver.new.t) c.deliver.ensures (c.loop-place.invariant start past)

pub returns : goal.returns
returns g c = c.loop-place.invariant
