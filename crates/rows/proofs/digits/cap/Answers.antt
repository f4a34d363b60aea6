use Rattle.std.proofs.Common.{min, get_or, arith}
use Rattle.rows.proofs.digits.cap.Goals as goal
use Rattle.std.proofs.lemmas.List.Edits.{map_over_more}
use Rattle.std.proofs.lemmas.List.{get_or_default}

pub loop-x-preserved : goal.loop-x-preserved
loop-x-preserved c =
    let x = get_or c.loop-x.entries c.loop-x.x-index 0 in
    rw c.min.ensures (map_over_more (λ x. min x c.args.limit) c.args.entries.now c.loop-x.entries c.loop-x.x-index x c.loop-x-test.true c.loop-x.invariant (get_or_default c.loop-x.entries c.loop-x.x-index 0 x (omega arith)))
