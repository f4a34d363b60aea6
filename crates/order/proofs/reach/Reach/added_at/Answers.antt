use Rattle.std.proofs.Common.{◌≡◌, ◌+◌, ◌-◌, length, Some, sym, ap, ◌∙◌, subst, arith}
use Rattle.std.proofs.lemmas.Option.{slice_get_past}
use Rattle.model.specs.Quorums.{stations}
use Rattle.order.specs.Columns.{column}
use Rattle.order.specs.Orders.{added, each, key, span}
use Rattle.order.specs.Reaches.{kept}
use Rattle.order.proofs.Spans.{added_here, added_passed}
use Rattle.order.proofs.reach.Reach.added_at.Goals as goal

pub returns-then-left-from : goal.returns-then-left-from
returns-then-left-from c =
    let b = kept c.args.self.now in
    sym (added_here c.args.watch.faults c.args.watch.limit b c.args.matrix.now c.loop-origin.origin c.loop-origin.left c.args.position
    (omega arith) c.loop-origin.invariant (omega arith)
    ∙ ap (λ m. Some (key c.loop-origin.origin (m + 1 + c.loop-origin.left))) (sym c.of-old.ensures))

pub loop-origin-preserved : goal.loop-origin-preserved
loop-origin-preserved c =
    let b = kept c.args.self.now in
    let o = c.loop-origin.origin in
    let X = c.args.matrix.now in
    let count : column c.args.watch.faults c.args.watch.limit X o - b o ≡ c.from-left.result = omega arith in
    subst (λ m. c.loop-origin.left - m + length (each (o + 1) (λ p. span p (b p) (column c.args.watch.faults c.args.watch.limit X p - b p))) ≡ c.args.position) count
    (added_passed c.args.watch.faults c.args.watch.limit b X o c.loop-origin.left c.args.position c.loop-origin.invariant (omega arith))

pub returns : goal.returns
returns c =
    let b = kept c.args.self.now in
    let X = c.args.matrix.now in
    let e : c.loop-origin.origin ≡ stations c.args.watch.faults = omega arith in
    sym (slice_get_past (added c.args.watch.faults c.args.watch.limit b X) c.args.position
    (omega (arith, c.loop-origin.invariant, ap (λ n. length (each n (λ p. span p (b p) (column c.args.watch.faults c.args.watch.limit X p - b p)))) e)))
