use Rattle.std.proofs.Common.{◌+◌, ◌*◌, ◌/◌, ◌%◌, arith}
use Rattle.rows.proofs.Repack.{field_in_two}
use Rattle.rows.proofs.digits.byte.Goals as goal

pub returns : goal.returns
returns c =
    let j = c.args.j in
    let f = field_in_two 6 c.args.entries.now (j / 3 * 4 + j % 3 * 8 / 6) (j % 3 * 8 % 6) 8 (8 * j) (omega arith) (c.requires.small _) (omega arith) in
    cc
