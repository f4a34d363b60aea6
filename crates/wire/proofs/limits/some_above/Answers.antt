use Rattle.std.proofs.Common.{ℕ, Bool, ◌*◌, ltb, ◌∙◌, rules, arith}
use Rattle.std.proofs.lemmas.Iterator.{YieldsList-from_range}
use Rattle.std.proofs.lemmas.Iterator.Search.{any_from_yields_List}
use Rattle.std.specs.List.{range_with_len}
use Rattle.rows.specs.Bits.{field}
use Rattle.wire.proofs.Above.{any_above_map}
use Rattle.wire.proofs.limits.some_above.Goals as goal
use borrow.Author.Tests.{tests}

pub returns : goal.returns
returns c =
    let n = c.args.n in
    let test : ℕ → Bool = λ k. ltb c.args.limit (field c.args.part.now (6 * k) 6) in
    any_from_yields_List test _ _ _ c.any.ensures.ran (YieldsList-from_range 0 n n (cc) (omega arith)) (λ x b q k. search (rules, tests))
    ∙ any_above_map c.args.limit (λ k. field c.args.part.now (6 * k) 6) (range_with_len 0 n)
