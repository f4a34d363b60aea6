use Rattle.std.proofs.Common.{◌*◌, arith}
use Rattle.rows.specs.Bits.{field_of}
use Rattle.std.proofs.lemmas.List.FromFn.{fill_by_all}
use Rattle.rows.proofs.digits.pack.Goals as goal

pub returns : goal.returns
returns c = fill_by_all (λ k. field_of 6 c.args.entries.now (8 * k) 8) c.loop-j.to _ 0 (omega arith) (λ k h. c.loop-j.invariant k (omega arith))
