use Rattle.std.proofs.Common.{◌≡◌, ◌+◌, is_some, Decides, sym, ap, ◌∙◌, subst}
use Rattle.std.proofs.lemmas.Bool.Decides.{Decides-at}
use Rattle.model.specs.Quorums.{Certificate, Certified, held, meant, stations}
use Rattle.order.specs.Runs.{part}
use Rattle.order.proofs.Parts.{part_map, some_meant, answers_decide}
use Rattle.order.proofs.runs.next_certified.Goals as goal

pub returns : goal.returns
returns g c =
    let f = c.args.watch.faults in
    let places = c.args.places.now in
    let cut : held g.W.Word.means c.part.result.now ≡ part (stations f) (c.args.before + 1) (held g.W.Word.means places) =
    ap (held g.W.Word.means) (c.part.ensures ∙ ap (λ n. part n (c.args.before + 1) places) c.stations.ensures)
    ∙ sym (part_map (meant g.W.Word.means) (stations f) (c.args.before + 1) places)
    in
    subst (λ ps. Decides c.is_some.result (Certified f ps c.args.head)) cut
    (Decides-at c.is_some.result (is_some (meant (λ u. g.W.Word.means u.now) c.certified.result))
    (c.is_some.ensures ∙ sym (some_meant (λ u. g.W.Word.means u.now) c.certified.result))
    (answers_decide (Certificate f (held g.W.Word.means c.part.result.now) c.args.head) (meant (λ u. g.W.Word.means u.now) c.certified.result) c.certified.ensures))
