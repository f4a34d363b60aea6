use Rattle.std.proofs.Common.{◌≡◌, ℕ, ◌*◌, ◌<◌, get_or}
use Rattle.rows.specs.Bits.{field_of}
use Rattle.rows.proofs.digits.pack.Given as goal

abbrev pub invariant-loop-j : goal.invariant-loop-j
invariant-loop-j l = (k : ℕ) → k < l.j → get_or l.to k 0 ≡ field_of 6 l.entries (8 * k) 8
