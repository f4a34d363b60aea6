use Rattle.std.proofs.Common.{◌≡◌, ℕ, ◌+◌, Bool, true, false, cond, leb, sym, ap, ◌∙◌, arith}
use lib.Count.{ones}
use Rattle.model.specs.Sets.{gathered}
use Rattle.model.proofs.Members.{ones_none}
use Rattle.order.specs.Columns.{cell, largest}
use Rattle.order.proofs.Searching.{enough, count_more, enough_found, enough_lacking, largest_lower, largest_here, column_by}
use Rattle.order.proofs.columns.column.Goals as goal
use Rattle.order.proofs.columns.column.Goals.{then-reaches, else-reaches}

pub loop-k-init : goal.loop-k-init
loop-k-init c = (sym ones_none, omega arith)

-- one row more
more : (test : ℕ → Bool) (k rows : ℕ) (t : Bool) → rows ≡ ones (gathered k test) → test k ≡ t → rows + cond t 1 0 ≡ ones (gathered (k + 1) test)
more test k rows t e h = omega (arith, e, count_more test k, ap (λ b. cond {A = ℕ} b 1 0) h)

pub loop-k-preserved : goal.loop-k-preserved
loop-k-preserved c =
    let test : ℕ → Bool = λ k. leb c.loop-s.s (cell c.stations-n.result c.args.matrix.now k c.args.origin) in
    let count : c.if-reaches.rows ≡ ones (gathered (c.loop-k.k + 1) test) =
    elim c.if-reaches.branch [
      | then-reaches w ↦ w.rows-is ∙ more test c.loop-k.k c.loop-k.rows true c.loop-k.invariant.0 (sym c.reaches.ensures ∙ w.if-reaches.true)
      | else-reaches w ↦ omega (arith, w.rows-is, more test c.loop-k.k c.loop-k.rows false c.loop-k.invariant.0 (sym c.reaches.ensures ∙ w.if-reaches.false))
    ]
    in
    (count, c.if-rows-quorum.false)

pub loop-s-preserved : goal.loop-s-preserved
loop-s-preserved c =
    let n = c.stations-n.result in
    let q = c.quorum-quorum.result in
    let X = c.args.matrix.now in
    let o = c.args.origin in
    let e : c.loop-k.k ≡ n = omega arith in
    c.loop-s.invariant ∙ largest_lower (λ s. enough q n (λ k. leb s (cell n X k o))) c.loop-s.s c.loop-s-test.true
    (enough_lacking q n (λ k. leb c.loop-s.s (cell n X k o)) (omega (arith, c.loop-k.invariant.0, c.loop-k.invariant.1, ap (λ m. ones (gathered m (λ k. leb c.loop-s.s (cell n X k o)))) e)))

pub returns-then-rows-quorum : goal.returns-then-rows-quorum
returns-then-rows-quorum c =
    let n = c.stations-n.result in
    let q = c.quorum-quorum.result in
    let X = c.args.matrix.now in
    let o = c.args.origin in
    let test : ℕ → Bool = λ k. leb c.loop-s.s (cell n X k o) in
    let count : c.if-reaches.rows ≡ ones (gathered (c.loop-k.k + 1) test) =
    elim c.if-reaches.branch [
      | then-reaches w ↦ w.rows-is ∙ more test c.loop-k.k c.loop-k.rows true c.loop-k.invariant.0 (sym c.reaches.ensures ∙ w.if-reaches.true)
      | else-reaches w ↦ omega (arith, w.rows-is, more test c.loop-k.k c.loop-k.rows false c.loop-k.invariant.0 (sym c.reaches.ensures ∙ w.if-reaches.false))
    ]
    in
    sym (column_by c.args.watch.faults c.args.watch.limit X o n q c.stations-n.ensures c.quorum-quorum.ensures
    ∙ c.loop-s.invariant ∙ largest_here (λ s. enough q n (λ k. leb s (cell n X k o))) c.loop-s.s c.loop-s-test.true
    (enough_found q n test (c.loop-k.k + 1) (omega arith) (omega (arith, count, c.if-rows-quorum.true))))

pub returns-after-loop-s : goal.returns-after-loop-s
returns-after-loop-s c =
    let n = c.stations-n.result in
    let q = c.quorum-quorum.result in
    let X = c.args.matrix.now in
    let o = c.args.origin in
    let e : c.loop-s.s ≡ 0 = omega arith in
    sym (column_by c.args.watch.faults c.args.watch.limit X o n q c.stations-n.ensures c.quorum-quorum.ensures
    ∙ c.loop-s.invariant ∙ ap (λ m. largest m (λ s. enough q n (λ k. leb s (cell n X k o)))) e)
