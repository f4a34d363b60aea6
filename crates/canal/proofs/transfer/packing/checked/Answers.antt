use Rattle.std.proofs.Common.{arith}
use Rattle.std.proofs.lemmas.Result.{err_from_is_err_and}
use Rattle.std.proofs.lemmas.Bool.Decides.{nat_tests}
use Rattle.canal.proofs.transfer.packing.checked.Goals as goal

pub returns-in_err-number : goal.returns-in_err-number
returns-in_err-number c =
    let p = err_from_is_err_and c.from_residual-in_err-number.result c.from_residual-in_err-number.ensures.1 in
    let source = c.in_ok-source.ensures in
    let target = c.in_ok-target.ensures in
    let volume = c.in_ok-volume.ensures in
    let zeros = c.in_ok-check.ensures in
    let number = c.in_err-number.ensures in
    rw (p.1, p.2) (grind (arith, nat_tests))
