use Rattle.std.proofs.Common.{◌/◌, ◌%◌, min, arith}
use Rattle.rows.proofs.Repack.{field_in_two}
use Rattle.rows.proofs.digits.bits.Goals as goal

pub returns : goal.returns
returns c =
    let p = c.args.from in
    let f = field_in_two 8 c.args.bytes.now (p / 8) (p % 8) (min c.args.width 8) p (omega arith) (omega arith) (omega arith) in
    cc
