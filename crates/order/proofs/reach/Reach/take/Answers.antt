use Rattle.std.proofs.Common.{◌≡◌, max, option_and_then, rules, sym, ap, ◌∙◌}
use Rattle.std.specs.List.{slice_get}
use Rattle.model.specs.Quorums.{stations}
use Rattle.order.specs.Columns.{column}
use Rattle.order.specs.Orders.{added, after, total}
use Rattle.order.specs.Reaches.{kept}
use Rattle.order.proofs.Spans.{after_sub, after_push, reach_push}
use Rattle.order.proofs.reach.Reach.take.Goals as goal

pub returns : goal.returns
returns c =
    let f = c.args.watch.faults in
    let limit = c.args.watch.limit in
    let b = kept c.args.self.now in
    let X = c.args.matrix.now in
    let k = c.args.k in
    let answer : c.and_then-answer.result ≡ after (total (stations f) b) (added f limit b X) k =
    let h : c.and_then-answer.result ≡ option_and_then (λ m. slice_get (added f limit b X) m) c.checked_sub.result = search rules in
    h ∙ after_sub c.ordered-ordered.result _ _ k (added f limit b X) c.ordered-ordered.ensures c.checked_sub.ensures
    in
    record {
      answer = answer;
      raises = c.raise.ensures;
      follows = λ Xs h. (
        λ o l. c.raise.ensures.0 o l ∙ ap (λ m. max m (column f limit X o)) (h o l) ∙ sym (reach_push f limit Xs X o),
        answer ∙ after_push f limit Xs X b k h,
      );
    }
