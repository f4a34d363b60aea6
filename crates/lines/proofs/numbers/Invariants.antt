use Rattle.std.proofs.Common.{◌≡◌, ◌-◌, eqb, ◌++◌, length, take}
use Rattle.lines.proofs.numbers.Given as goal
use Rattle.lines.specs.Numbers.{fields, numbers_of}
use Rattle.std.specs.Option.{option_map}

abbrev pub invariant-loop-i : goal.invariant-loop-i
invariant-loop-i g l =
    (length l.value-items ≡ g.row.K)
    × (numbers_of g.row.K l.text ≡ option_map (λ others. take l.i l.value-items ++ others) (fields (g.row.K - l.i) (eqb l.i 0) l.rest))
