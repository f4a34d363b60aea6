use Rattle.std.proofs.Common.{ℕ, Bool, leb, ◌∙◌, rules, arith}
use Rattle.std.proofs.lemmas.Iterator.{YieldsList-from_range}
use Rattle.std.proofs.lemmas.Iterator.Search.{all_from_yields_List}
use borrow.Author.Tests.{tests}
use Rattle.model.specs.Quorums.{stations}
use Rattle.order.specs.Rows.{entry, read}
use Rattle.order.proofs.Ranges.{every_range}
use Rattle.order.proofs.rows.none_smaller.Goals as goal

pub returns : goal.returns
returns c =
    let n = stations c.args.watch.faults in
    let test : ℕ → Bool = λ o. leb (entry (read c.args.watch.limit c.args.b.now) o) (entry (read c.args.watch.limit c.args.a.now) o) in
    all_from_yields_List test _ _ _ c.all.ensures.ran (YieldsList-from_range 0 n n (cc) (omega arith)) (λ x b q k. search (rules, tests)) ∙ every_range test n
