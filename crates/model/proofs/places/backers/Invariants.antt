use Rattle.model.specs.Quorums.{held}
use Rattle.model.proofs.Backing.{Backing}
use Rattle.model.proofs.places.backers.Given as goal

abbrev pub invariant-loop-j : goal.invariant-loop-j
invariant-loop-j g l = Backing (held g.W.Word.means l.places) (g.W.Word.means l.word) l.j l.set
