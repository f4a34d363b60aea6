use Rattle.std.proofs.Common.{sym, ap, ◌∙◌, arith}
use lib.Count.{ones}
use Rattle.std.proofs.lemmas.Bool.{leb-true, leb-false}
use Rattle.model.specs.Quorums.{held}
use Rattle.model.proofs.Meeting.{backers_others, certificate_none}
use Rattle.model.proofs.places.certified.Goals as goal

pub returns-then-are_enough : goal.returns-then-are_enough
returns-then-are_enough g c =
    let places = held g.W.Word.means c.args.places.now in
    let v = g.W.Word.means c.in_ok-word.word.now in (
      sym c.in_ok-word.ensures,
      backers_others places v c.backers.result c.args.head _ c.backers.ensures
          (omega (arith, leb-true _ _ (sym c.are_enough.ensures ∙ c.if-are_enough.true), c.count-others.ensures, ap ones c.without.ensures)),
    )

pub returns-else-are_enough : goal.returns-else-are_enough
returns-else-are_enough g c =
    let places = held g.W.Word.means c.args.places.now in
    let v = g.W.Word.means c.in_ok-word.word.now in
    certificate_none c.args.f places c.args.head v c.backers.result (sym c.in_ok-word.ensures) c.backers.ensures
    (omega (arith, leb-false _ _ (sym c.are_enough.ensures ∙ c.if-are_enough.false), c.count-others.ensures, ap ones c.without.ensures))
