use Rattle.std.proofs.Common.{sym, ◌∙◌}
use Rattle.std.proofs.lemmas.Bool.{leb-true, le-leb}
use Rattle.model.specs.Quorums.{held}
use Rattle.model.proofs.Meeting.{tally_most, most_tally}
use Rattle.model.proofs.places.has_quorum.Goals as goal

pub returns : goal.returns
returns g c =
    let places = held g.W.Word.means c.args.places.now in
    let v = g.W.Word.means c.args.word.now in (
      λ e. tally_most c.args.f places v c.tally.result c.tally.ensures (leb-true _ _ (sym c.is_quorum.ensures ∙ e)),
      λ o. c.is_quorum.ensures ∙ le-leb _ _ (most_tally c.args.f places v c.tally.result c.tally.ensures o),
    )
