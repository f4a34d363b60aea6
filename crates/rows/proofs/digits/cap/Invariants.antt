use Rattle.rows.specs.Caps.{capped_at}
use Rattle.std.proofs.Common.{◌≡◌, ◌++◌, take, drop}
use Rattle.rows.proofs.digits.cap.Given as goal

abbrev pub invariant-loop-x : goal.invariant-loop-x
invariant-loop-x l = l.entries ≡ capped_at l.limit (take l.x-index l.initial.entries) ++ drop l.x-index l.initial.entries
