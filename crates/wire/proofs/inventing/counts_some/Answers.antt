use Rattle.std.proofs.Common.{ltb, ◌∙◌, rules}
use Rattle.rows.specs.Values.{row_of}
use Rattle.std.proofs.lemmas.Iterator.{YieldsList-from_slice}
use Rattle.std.proofs.lemmas.Iterator.Search.{any_from_yields_List}
use Rattle.wire.proofs.Above.{any_above}
use Rattle.wire.proofs.inventing.counts_some.Goals as goal
use borrow.Author.Tests.{tests}

pub returns : goal.returns
returns c =
    let row = row_of c.args.row.now in
    any_from_yields_List (λ x. ltb 0 x) _ _ _ c.any.ensures.ran (YieldsList-from_slice row (search rules)) (λ x b q k. search (rules, tests)) ∙ any_above 0 row
