use Rattle.std.proofs.lemmas.List.{take-replicate}
use Rattle.std.proofs.lemmas.Bool.Decides.{nat_tests}
use Rattle.gates.specs.Boards.{closed}
use Rattle.std.proofs.Common.{ap, arith}
use Rattle.gates.proofs.board.GateBoard.new.Goals as goal

pub returns : goal.returns
returns c =
    (grind (arith, nat_tests), ap (λ gates. record { leap = c.args.leap; gates = gates }) (take-replicate c.args.gates 40 closed c.if-gates.false))
