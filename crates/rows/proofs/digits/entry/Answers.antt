use Rattle.std.proofs.Common.{◌+◌, ◌*◌, ◌/◌, ◌%◌, arith}
use Rattle.rows.proofs.Repack.{field_in_two}
use Rattle.rows.proofs.digits.entry.Goals as goal

pub returns : goal.returns
returns c =
    let k = c.args.k in
    let f = field_in_two 8 c.args.part.now (k / 4 * 3 + k % 4 * 6 / 8) (k % 4 * 6 % 8) 6 (6 * k) (omega arith) (omega arith) (omega arith) in
    cc
