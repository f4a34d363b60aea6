use Rattle.std.proofs.Common.{◌+◌, Err, sym, ap, ◌∙◌}
use Rattle.frames.proofs.Judging.{checked_ok}
use Rattle.frames.proofs.Sending.{fit_by, written_head, written_short, written_whole}
use Rattle.frames.proofs.writing.decide.Goals as goal
use Rattle.frames.specs.Views.{said_by}
use Rattle.std.proofs.lemmas.Result.{err_from_is_err_and}

pub returns-in_err-check : goal.returns-in_err-check
returns-in_err-check c =
    let h = c.args.header in
    let p = err_from_is_err_and c.from_residual.result c.from_residual.ensures.1 in
    rw (p.1, p.2) (written_head h.sender h.faults h.sequence c.args.space c.kind-kind.result c.args.message.now c.in_err-check.field-0.0 c.kind-kind.ensures c.requires c.in_err-check.ensures)

pub returns-then-space-len : goal.returns-then-space-len
returns-then-space-len c =
    let h = c.args.header in
    let m = c.args.message.now in
    let p = fit_by h.sender h.faults h.sequence c.size-len.result c.kind-kind.result m c.kind-kind.ensures c.requires (checked_ok _ _ c.in_ok-check.ensures) (checked_ok _ _ (c.in_ok-check-2.ensures h.sender)) c.size-len.ensures in
    ap Err c.new.ensures ∙ sym (written_short (said_by h.sender h.faults m) c.args.space (2 + c.size-len.result) p.none p.long c.if-space-len.true)

pub returns : goal.returns
returns c =
    let h = c.args.header in
    let m = c.args.message.now in
    let p = fit_by h.sender h.faults h.sequence c.size-len.result c.kind-kind.result m c.kind-kind.ensures c.requires (checked_ok _ _ c.in_ok-check.ensures) (checked_ok _ _ (c.in_ok-check-2.ensures h.sender)) c.size-len.ensures in
    sym (written_whole (said_by h.sender h.faults m) c.args.space (2 + c.size-len.result) p.none p.long c.if-space-len.false)
