use Rattle.delivery.proofs.Prepares.{newly_is, newly_never}
use Rattle.delivery.proofs.preparing.newly_prepared.Goals as goal
use Rattle.tables.specs.Plans.{plan_of}
use Rattle.std.proofs.Common.{sym, ◌∙◌, arith}

pub returns-then-prepared : goal.returns-then-prepared
returns-then-prepared g c =
    newly_never (plan_of c.args.at.now.numbers) c.args.at.now.tables.now.votes.now c.places_read-places.result c.args.vote.now.matrix
    c.args.at.now.index c.args.vote.now.number c.args.vote.now.speaker c.stations-n.result c.first_vote-from.result
    c.stations-n.ensures c.first_vote-from.ensures.is (omega arith) c.places_read-places.ensures (sym c.prepared.ensures ∙ c.if-prepared.true)

pub returns : goal.returns
returns g c =
    newly_is (plan_of c.args.at.now.numbers) c.args.at.now.tables.now.votes.now c.places_read-places.result c.args.vote.now.matrix
    c.args.at.now.index c.args.vote.now.number c.args.vote.now.speaker c.stations-n.result c.first_vote-from.result
    c.stations-n.ensures c.first_vote-from.ensures.is (omega arith) c.places_read-places.ensures c.prepared-2.result c.requires.speaker c.requires.low
    (sym c.prepared.ensures ∙ c.if-prepared.false) c.prepared-2.ensures
