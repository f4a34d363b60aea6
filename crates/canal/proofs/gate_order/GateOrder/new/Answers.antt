use Rattle.std.proofs.Common.{arith}
use Rattle.std.proofs.lemmas.Result.{err_from_is_err_and}
use Rattle.std.proofs.lemmas.Bool.Decides.{nat_tests}
use Rattle.canal.proofs.gate_order.GateOrder.new.Goals as goal

pub returns-in_err-number : goal.returns-in_err-number
returns-in_err-number c =
    let p = err_from_is_err_and c.from_residual-in_err-number.result c.from_residual-in_err-number.ensures.1 in
    let gate = c.in_ok-gate.ensures in
    let opening = c.in_ok-opening.ensures in
    let day = c.in_ok-day.ensures in
    let minute = c.in_ok-minute.ensures in
    let number = c.in_err-number.ensures in
    rw (p.1, p.2) (grind (arith, nat_tests))
