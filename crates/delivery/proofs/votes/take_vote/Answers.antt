use Rattle.delivery.proofs.Frames.{vote_makes}
use Rattle.delivery.proofs.Indices.{number_fits}
use Rattle.delivery.proofs.Settling.{commit_fits}
use Rattle.delivery.proofs.votes.take_vote.Goals as goal
use Rattle.model.specs.Quorums.{held, stations}
use Rattle.rows.specs.Values.{matrix_of}
use Rattle.std.proofs.lemmas.List.{length-map}
use Rattle.tables.specs.Plans.{lengths_of, plan_of}
use Rattle.std.proofs.Common.{refl, arith}

pub sent-next-requires : goal.sent-next-requires
sent-next-requires g c =
    commit_fits c.args.at.now.index c.args.at.now.numbers.watch.faults c.args.vote.now.number c.args.vote.now.matrix c.newly_prepared.result c.then_some.result
    (omega arith) (omega arith) (omega arith) c.requires.some (omega arith) c.requires.side c.then_some.ensures

pub returns : goal.returns
returns g c =
    let n = stations c.args.at.now.numbers.watch.faults in
    let within = number_fits n n refl (omega arith) (omega arith) c.args.at.now.index n c.args.at.now.numbers.watch.limit c.args.vote.now.number (omega arith) c.requires.some c.requires.short in
    let e = c.taken.ensures in
    vote_makes g.M.Op.Operation.bits (plan_of c.args.at.now.numbers) (lengths_of c.args.at.now.tables.now) (held matrix_of c.args.at.now.tables.now.votes.now)
    c.args.vote.now.matrix c.args.at.now.index c.args.vote.now.number c.args.vote.now.speaker c.vote_place-place.result c.taken.result
    c.sent-one.result c.sent-next.result c.then_some-echo.result c.then_some.result c.echoes.result c.newly_prepared.result e.outcome e.change e.frames e.ordered
    c.vote_place-place.ensures.is (omega arith) c.sent-one.ensures c.then_some-echo.ensures c.echoes.ensures c.sent-next.ensures c.then_some.ensures c.newly_prepared.ensures
    (simp length-map (omega (arith, within))) c.requires.speaker c.requires.low
