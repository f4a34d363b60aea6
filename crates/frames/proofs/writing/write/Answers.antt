use Rattle.std.proofs.Common.{length, take, drop, ap, ◌∙◌, subst, arith}
use Rattle.frames.proofs.Sending.{sent, valued_by}
use Rattle.frames.proofs.Whole.{reads_back}
use Rattle.frames.proofs.writing.write.Goals as goal
use Rattle.frames.specs.Meaning.{meaning}
use Rattle.frames.specs.Views.{Valued, said_by}
use Rattle.frames.specs.Writing.{frame, written}
use Rattle.std.proofs.lemmas.List.{take_at}
use Rattle.std.proofs.lemmas.Grind.{common_steps}

pub returns-clause-leaves : goal.returns-clause-leaves
returns-clause-leaves c = grind (arith, common_steps)

pub returns-clause-reads : goal.returns-clause-reads
returns-clause-reads c =
    let s = c.args.sender in
    let f = c.args.faults in
    let m = c.args.message.now in
    let to = c.args.to.now in
    let len = c.in_ok-len.len in
    let n = c.header-header.ensures.names in
    let answer = c.in_ok-len.ensures ∙ ap (λ s. written (said_by s c.header-header.result.faults m) (length to)) n.0 ∙ ap (λ f. written (said_by s f m) (length to)) n.1 in
    let p = sent (said_by s f m) (length to) len answer in
    let values = valued_by 0 s f m (subst (λ f. Valued (said_by 0 f m)) n.1 c.fill.ensures.values) in
    λ refused a. ap (λ bytes. meaning refused (take len bytes)) (returns-clause-leaves c) ∙ ap (meaning refused) (take_at (frame (said_by s f m)) (drop len to) len p.long)
    ∙ reads_back refused (said_by s f m) p.none values a
