use Rattle.std.proofs.Common.{◌+◌, [], length, take, is_some, sym, ap, ◌∙◌, subst, arith}
use Rattle.std.proofs.lemmas.List.{take_more, take_all}
use Rattle.std.proofs.lemmas.Option.{slice_get_past}
use Rattle.order.specs.Orders.{order}
use Rattle.order.specs.Reaches.{Reached}
use Rattle.order.proofs.Sequence.{order_laws}
use Rattle.order.proofs.Spans.{found_step, nth_lt, nth_none, order-front-take}
use Rattle.order.proofs.turns.kth.Goals as goal

pub returns-in-Some : goal.returns-in-Some
returns-in-Some c =
    let f = c.args.watch.faults in
    let limit = c.args.watch.limit in
    let Xs = c.args.matrices.now in
    let i = c.loop-matrix.matrix-index in
    let e = found_step f limit Xs i c.args.k c.take.result c.loop-matrix-test.true c.loop-matrix.invariant.1 (c.take.ensures.follows (take i Xs) c.loop-matrix.invariant.0).1 in
    record { laws = order_laws; answer = sym c.in-Some.is ∙ e ∙ sym (order-front-take f limit (i + 1) Xs c.args.k (nth_lt (order f limit (take (i + 1) Xs)) c.args.k (ap is_some (sym e ∙ c.in-Some.is)))) }

pub loop-matrix-preserved : goal.loop-matrix-preserved
loop-matrix-preserved c =
    let f = c.args.watch.faults in
    let limit = c.args.watch.limit in
    let Xs = c.args.matrices.now in
    let i = c.loop-matrix.matrix-index in
    let t = c.take.ensures.follows (take i Xs) c.loop-matrix.invariant.0 in
    let e = found_step f limit Xs i c.args.k c.take.result c.loop-matrix-test.true c.loop-matrix.invariant.1 t.1 in (
      subst (λ Ys. Reached f limit Ys c.take.new.self) (sym (take_more Xs i [] c.loop-matrix-test.true)) t.0,
      nth_none (order f limit (take (i + 1) Xs)) c.args.k (ap is_some (sym e ∙ c.in_default.is)),
    )

pub returns : goal.returns
returns c =
    let f = c.args.watch.faults in
    let limit = c.args.watch.limit in
    let Xs = c.args.matrices.now in
    let e = take_all c.loop-matrix.matrix-index Xs c.loop-matrix-test.false in
    record { laws = order_laws; answer = sym (slice_get_past (order f limit Xs) c.args.k (omega (arith, c.loop-matrix.invariant.1, ap (λ Ys. length (order f limit Ys)) e))) }
