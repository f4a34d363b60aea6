use Rattle.frames.proofs.Judging.{checked_err}
use Rattle.frames.proofs.reading.check.Goals as goal
use Rattle.std.proofs.lemmas.Result.{err_from_is_err_and}

pub returns-in_err-check : goal.returns-in_err-check
returns-in_err-check g c =
    let p = err_from_is_err_and c.from_residual.result c.from_residual.ensures.1 in
    let o = checked_err _ c.in_err-check.field-0.0 c.in_err-check.ensures in
    rw (p.1, p.2, o)
