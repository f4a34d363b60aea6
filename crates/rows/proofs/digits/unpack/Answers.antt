use Rattle.std.proofs.Common.{◌*◌, arith}
use Rattle.rows.specs.Bits.{field_of}
use Rattle.std.proofs.lemmas.List.FromFn.{fill_by_all}
use Rattle.rows.proofs.digits.unpack.Goals as goal

pub returns : goal.returns
returns c = fill_by_all (λ k. field_of 8 c.args.part.now (6 * k) 6) c.loop-k.to _ 0 (omega arith) (λ k h. c.loop-k.invariant k (omega arith))
