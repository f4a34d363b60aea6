use Rattle.clients.proofs.orders.hand_to_all.Goals as goal

pub loop-station-init : goal.loop-station-init
loop-station-init g c = λ start past. past

pub loop-station-preserved : goal.loop-station-preserved
loop-station-preserved g c = λ start past. c.hand_over.ensures start (c.loop-station.invariant start past)

pub returns : goal.returns
returns g c = c.loop-station.invariant
