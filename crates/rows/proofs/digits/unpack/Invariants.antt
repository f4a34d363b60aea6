use Rattle.std.proofs.Common.{◌≡◌, ℕ, ◌*◌, ◌<◌, get_or}
use Rattle.rows.specs.Bits.{field_of}
use Rattle.rows.proofs.digits.unpack.Given as goal

abbrev pub invariant-loop-k : goal.invariant-loop-k
invariant-loop-k l = (k : ℕ) → k < l.k → get_or l.to k 0 ≡ field_of 8 l.part (6 * k) 6
