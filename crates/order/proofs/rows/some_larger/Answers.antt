use Rattle.std.proofs.Common.{ℕ, Bool, ltb, ◌∙◌, rules, arith}
use Rattle.std.proofs.lemmas.Iterator.{YieldsList-from_range}
use Rattle.std.proofs.lemmas.Iterator.Search.{any_from_yields_List}
use borrow.Author.Tests.{tests}
use Rattle.model.specs.Quorums.{stations}
use Rattle.order.specs.Rows.{entry, read}
use Rattle.order.proofs.Ranges.{any_range}
use Rattle.order.proofs.rows.some_larger.Goals as goal

pub returns : goal.returns
returns c =
    let n = stations c.args.watch.faults in
    let test : ℕ → Bool = λ o. ltb (entry (read c.args.watch.limit c.args.b.now) o) (entry (read c.args.watch.limit c.args.a.now) o) in
    any_from_yields_List test _ _ _ c.any.ensures.ran (YieldsList-from_range 0 n n (cc) (omega arith)) (λ x b q k. search (rules, tests)) ∙ any_range test n
