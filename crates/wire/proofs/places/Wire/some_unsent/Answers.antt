use Rattle.std.proofs.Common.{ℕ, Bool, map, ◌∙◌, rules, arith}
use Rattle.std.proofs.lemmas.Iterator.{YieldsList-from_range}
use Rattle.std.proofs.lemmas.Iterator.Search.{any_from_yields_List}
use Rattle.model.specs.Quorums.{stations}
use Rattle.order.proofs.Ranges.{any_range}
use Rattle.rows.specs.Values.{matrix_of}
use Rattle.tables.specs.Contents.{frame_of}
use Rattle.tables.specs.Plans.{plan_of}
use Rattle.wire.proofs.places.Wire.some_unsent.Goals as goal
use Rattle.wire.specs.Wires.{unsent}
use borrow.Author.Tests.{tests}

pub returns : goal.returns
returns c =
    let w = c.args.self in
    let n = stations w.numbers.watch.faults in
    let test : ℕ → Bool = unsent (plan_of w.numbers) w.end (map frame_of w.slots.now) (matrix_of c.args.matrix.now) in
    any_from_yields_List test _ _ _ c.any.ensures.ran (YieldsList-from_range 0 n n (cc) (omega arith)) (λ x b q k. search (rules, tests)) ∙ any_range test n
