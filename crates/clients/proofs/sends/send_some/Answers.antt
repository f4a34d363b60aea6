use Rattle.clients.proofs.sends.send_some.Goals as goal
use Rattle.runs.proofs.Extending.{extend, finish}
use Rattle.runs.specs.Perform.{placed, run_of, sent_as, speaks, submits, summarises}
use Rattle.tables.specs.Plans.{plan_of}

pub returns : goal.returns
returns g c =
    let bits = g.M.Op.Operation.bits in
    let means = g.M.Machine.means in
    let run = c.in_ok-run.run' in
    let t0 = c.begin.new.t in
    let r0 = run_of bits means run t0 in
    let r1 = run_of bits means c.submit.new.self c.submit.new.t in
    let r2 = run_of bits means c.submit-2.new.self c.submit-2.new.t in
    let r3 = run_of bits means c.summarise.new.self c.summarise.new.t in
    let r4 = run_of bits means c.speak.new.self c.speak.new.t in
    let u = bits c.args.u.now in
    finish r4 (plan_of c.close.result.numbers) c.close.result.end c.close.result.last c.close.ensures.numbers c.close.ensures.end c.close.ensures.last
    (extend (speaks 3 c.args.bytes.now) placed c.speak.result r3 r4 c.speak.ensures
    (extend (summarises 2) placed c.summarise.result r2 r3 c.summarise.ensures
    (extend (submits 1 u) sent_as c.submit-2.result r1 r2 c.submit-2.ensures
    (extend (submits 0 u) sent_as c.submit.result r0 r1 c.submit.ensures
    c.in_ok-run.ensures))))
