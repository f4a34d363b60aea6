use Rattle.std.proofs.Common.{◌≡◌, ◌^◌, ◌<◌, take}
use Rattle.lines.proofs.value.Given as goal
use Rattle.lines.specs.Numbers.{decimal}

abbrev pub invariant-loop-b : goal.invariant-loop-b
invariant-loop-b l = (l.n ≡ decimal (take l.b-index l.digits)) × (l.n < 10 ^ l.b-index)
