use Rattle.frames_tool.proofs.hex.unhex.Given as goal
use Rattle.frames_tool.specs.Hex.{bytes_of}
use Rattle.std.proofs.Common.{◌≡◌, ◌++◌, length, vec_items}
use Rattle.std.specs.Option.{option_map}

abbrev pub invariant-loop-rest : goal.invariant-loop-rest
invariant-loop-rest l = bytes_of l.line ≡ option_map (λ others. vec_items l.bytes ++ others) (bytes_of l.rest)

abbrev pub decreases-loop-rest : goal.decreases-loop-rest
decreases-loop-rest l = length l.rest
