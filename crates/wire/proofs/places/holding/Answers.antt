use Rattle.std.proofs.Common.{◌≤◌, length, ap, ◌∙◌, arith}
use Rattle.std.proofs.lemmas.List.{take_all, take-append-le}
use Rattle.wire.proofs.places.holding.Goals as goal

pub returns : goal.returns
returns c =
    let b = c.args.bytes.now in
    let e = c.copy_from_slice.ensures.after in
    let h : length b ≤ length c.copy_from_slice.new.self = omega (arith, ap length e) in
    take-append-le (length b) c.copy_from_slice.new.self _ h ∙ rw e (take_all (length b) b (omega arith))
