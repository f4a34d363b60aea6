use Rattle.frames.proofs.Headers.{Fields}
use Rattle.frames.proofs.Judging.{checked_ok, judged_err, judged_ok, meaning_of_kind, or_none}
use Rattle.frames.proofs.Whole.{fit_back, frame_back, sound}
use Rattle.frames.proofs.reading.read.Goals as goal
use Rattle.frames.specs.Views.{Borrows, Bytes, said_of}
use Rattle.std.proofs.lemmas.List.{take_rest}
use Rattle.std.proofs.lemmas.Result.{err_from_is_err_and}
use Rattle.std.proofs.Common.{Ok, sym, ap, ◌∙◌, subst, arith, ltb-false}

pub returns-in_err-check-clause-means : goal.returns-in_err-check-clause-means
returns-in_err-check-clause-means g c =
    let refused = g.O.Operation.refused in
    let kind = c.in_ok-kind.kind in
    let p = err_from_is_err_and c.from_residual-in_err-check.result c.from_residual-in_err-check.ensures.1 in
    let fields : Fields _ _ _ _ _ = record { kind = sym c.bits.ensures; sender = sym c.bits-2.ensures; faults = sym c.bits-3.ensures; sequence = sym c.bits-4.ensures } in
    let k = meaning_of_kind refused c.args.bytes.now c.bits.result c.bits-2.result c.bits-3.result c.bits-4.result kind (omega (arith, ltb-false)) fields c.in_ok-kind.ensures in
    rw (p.1, p.2) (sym (k ∙ judged_err refused kind c.bits-2.result c.bits-3.result c.bits-4.result _ c.in_err-check.field-0.0 c.in_err-check.ensures))

pub returns : goal.returns
returns g c =
    let refused = g.O.Operation.refused in
    let bs = c.args.bytes.now in
    let kind = c.in_ok-kind.kind in
    let x = c.frame.result in
    let fields : Fields _ _ _ _ _ = record { kind = sym c.bits.ensures; sender = sym c.bits-2.ensures; faults = sym c.bits-3.ensures; sequence = sym c.bits-4.ensures } in
    let k = meaning_of_kind refused bs c.bits.result c.bits-2.result c.bits-3.result c.bits-4.result kind (omega (arith, ltb-false)) fields c.in_ok-kind.ensures in
    let e = k ∙ judged_ok refused kind c.bits-2.result c.bits-3.result c.bits-4.result _ c.in_ok-check.field-0 c.in_ok-check.ensures ∙ ap Ok (sym c.frame.ensures.said) in
    let head = (or_none _ _ (checked_ok _ _ c.in_ok-check.ensures)).0 in
    let small : Bytes bs = λ k. omega (arith, c.type_inv.bytes k) in
    let same = frame_back refused bs (said_of x) small e in
    let fit = fit_back refused bs (said_of x) e in
    record {
      means = sym e;
      parts = subst (λ body. Borrows body x) (take_rest bs 2) c.frame.ensures.part;
      sound = sound x kind (record { sender = c.bits-2.result; faults = c.bits-3.result; sequence = c.bits-4.result }) c.frame.ensures.head.0 c.frame.ensures.head.1 head fit;
      written = (fit, same);
      alone = λ other ys bytes m. sym (frame_back other ys (said_of x) bytes m) ∙ same;
    }
