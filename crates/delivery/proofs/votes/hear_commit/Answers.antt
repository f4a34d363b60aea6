use Rattle.delivery.proofs.Settling.{settled_quiet}
use Rattle.delivery.proofs.votes.hear_commit.Goals as goal
use Rattle.delivery.specs.declared.change.Change.TheVariants.{Second}
use Rattle.std.proofs.Common.{arith, rules}
use Rattle.tables.specs.Plans.{lengths_of}

pub returns : goal.returns
returns g c =
    rw (← c.vote_place-place.ensures.is, ← c.meet_matrix-outcome.ensures)
    (settled_quiet g.M.Op.Operation.bits (lengths_of c.args.at.now.tables.now) c.args.at.now.index _ c.meet_matrix-outcome.result c.args.vote.now.speaker
    (Second c.vote_place-place.result c.args.vote.now.matrix) c.settled.result c.settled.ensures (omega arith) (omega arith) (λ k. search rules))
