use Rattle.clients.proofs.orders.order_one.Goals as goal
use Rattle.runs.proofs.Extending.{extend, finish}
use Rattle.runs.specs.Perform.{placed, proposes, run_of, sent_as, submits, summarises}
use Rattle.tables.specs.Plans.{plan_of}

pub returns : goal.returns
returns g c =
    let bits = g.M.Op.Operation.bits in
    let means = g.M.Machine.means in
    let run = c.in_ok-run.run' in
    let t0 = c.begin.new.t in
    let r0 = run_of bits means run t0 in
    let r1 = run_of bits means c.submit.new.self c.submit.new.t in
    let r3 = run_of bits means c.hand_to_all-2.new.run c.hand_to_all-2.new.t in
    let r4 = run_of bits means c.summarise.new.self c.summarise.new.t in
    let r5 = run_of bits means c.summarise-2.new.self c.summarise-2.new.t in
    let r6 = run_of bits means c.summarise-3.new.self c.summarise-3.new.t in
    let r7 = run_of bits means c.hand_to_all-3.new.run c.hand_to_all-3.new.t in
    let r8 = run_of bits means c.propose.new.self c.propose.new.t in
    let r9 = run_of bits means c.hand_to_all-5.new.run c.hand_to_all-5.new.t in
    let start = means c.args.start.now in
    finish r9 (plan_of c.close.result.numbers) c.close.result.end c.close.result.last c.close.ensures.numbers c.close.ensures.end c.close.ensures.last
    (c.hand_to_all-5.ensures start
    (c.hand_to_all-4.ensures start
    (extend (proposes c.args.setup.leader) sent_as c.propose.result r7 r8 c.propose.ensures
    (c.hand_to_all-3.ensures start
    (extend (summarises 2) placed c.summarise-3.result r5 r6 c.summarise-3.ensures
    (extend (summarises 1) placed c.summarise-2.result r4 r5 c.summarise-2.ensures
    (extend (summarises 0) placed c.summarise.result r3 r4 c.summarise.ensures
    (c.hand_to_all-2.ensures start
    (c.hand_to_all.ensures start
    (extend (submits 1 (bits c.args.u.now)) sent_as c.submit.result r0 r1 c.submit.ensures
    c.in_ok-run.ensures))))))))))
