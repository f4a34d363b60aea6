use Rattle.std.proofs.Common.{take, ap, ◌∙◌}
use Rattle.frames.specs.Views.{said_by}
use Rattle.wire.proofs.Framing.{slot_filled}
use Rattle.wire.proofs.slots.slot.Goals as goal

pub returns : goal.returns
returns c =
    ap (λ n. take n c.write.new.to) c.unwrap_or-len.ensures
    ∙ slot_filled (said_by c.args.sender c.args.faults c.args.message.now) c.write.result _ c.write.new.to c.write.ensures.answer c.write.ensures.leaves
