use Rattle.std.proofs.Common.{sym, ◌∙◌, inl, inr, ⊎_elim}
use Rattle.std.proofs.lemmas.Bool.{both_ways}
use Rattle.model.specs.Quorums.{stations}
use Rattle.order.specs.Rows.{read}
use Rattle.order.proofs.Comparing.{none_smaller_lem, row_laws}
use Rattle.order.proofs.rows.consistent.Goals as goal

pub returns-then-none_smaller : goal.returns-then-none_smaller
returns-then-none_smaller c =
    let n = stations c.args.watch.faults in
    let a = read c.args.watch.limit c.args.a.now in
    let b = read c.args.watch.limit c.args.b.now in
    record {
      answer = (λ e. inl ((none_smaller_lem n a b).0 (sym c.none_smaller.ensures ∙ e)), λ _. c.if-none_smaller.true);
      laws = row_laws;
    }

pub returns-else-none_smaller : goal.returns-else-none_smaller
returns-else-none_smaller c =
    let n = stations c.args.watch.faults in
    let a = read c.args.watch.limit c.args.a.now in
    let b = read c.args.watch.limit c.args.b.now in
    record {
      answer = (
        λ e. inr ((none_smaller_lem n b a).0 (sym c.none_smaller-else-none_smaller.ensures ∙ e)),
        ⊎_elim
            (λ u. absurd (both_ways c.none_smaller.result c.if-none_smaller.false (c.none_smaller.ensures ∙ (none_smaller_lem n a b).1 u)))
            (λ u. c.none_smaller-else-none_smaller.ensures ∙ (none_smaller_lem n b a).1 u),
      );
      laws = row_laws;
    }
