use Rattle.std.proofs.Common.{ℕ, Bool, [], get_or, map, ◌∙◌, rules, arith}
use Rattle.std.proofs.lemmas.Iterator.{YieldsList-from_range}
use Rattle.std.proofs.lemmas.Iterator.Search.{any_from_yields_List}
use Rattle.order.proofs.Ranges.{any_range}
use Rattle.tables.specs.Contents.{frame_of}
use Rattle.wire.proofs.Spoken.{same_list_lem}
use Rattle.wire.proofs.places.Wire.holds.Goals as goal
use Rattle.wire.specs.Wires.{same_list}
use borrow.Author.Tests.{tests}

pub returns : goal.returns
returns c =
    let w = c.args.self in
    let test : ℕ → Bool = λ k. same_list (get_or (map frame_of w.slots.now) k []) c.args.frame.now in
    any_from_yields_List test _ _ _ c.any.ensures.ran (YieldsList-from_range 0 w.end w.end (cc) (omega arith)) (λ x b q k. search (rules, tests, same_list_lem)) ∙ any_range test w.end
