use Rattle.std.proofs.Common.{◌≡◌, ◌*◌}
use Rattle.rows.specs.Bits.{field_of}
use Rattle.rows.proofs.digits.word.Given as goal

abbrev pub invariant-loop-k : goal.invariant-loop-k
invariant-loop-k l = l.all ≡ field_of 8 l.bytes (8 * l.from) (8 * l.k)
