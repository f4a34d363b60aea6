use Rattle.std.proofs.Common.{◌≡◌, ◌+◌, ◌*◌, ◌%◌, ◌^◌, arith}
use Rattle.std.proofs.lemmas.Nat.{and_mask, or_shifted, shl_whole, one_shl}
use lib.Bits.{bit_or}
use Rattle.rows.proofs.digits.cut.Goals as goal

pub returns : goal.returns
returns c =
    let f = c.args.first in
    let a = c.args.a in
    let w = c.args.w in
    let s : (f * 2 ^ a) % 2 ^ 32 ≡ f * 2 ^ a = shl_whole f a a 32 c.requires.digits.0 (omega arith) in
    let o : bit_or (f * 2 ^ a) c.args.second ≡ f * 2 ^ a + c.args.second = or_shifted f a c.args.second c.requires.digits.1 in
    let t : (1 * 2 ^ w) % 2 ^ 32 ≡ 2 ^ w = one_shl w 32 (omega arith) in
    rw (s, o, t) (and_mask _ w)
