use Rattle.std.proofs.Common.{◌-◌, ◌/◌, ◌^◌, arith}
use Rattle.std.proofs.lemmas.Nat.{and_mask, one_shl}
use Rattle.canal.proofs.layout.Field.of.Goals as goal

pub returns : goal.returns
returns c =
    rw (one_shl c.args.self.width 64 (omega arith))
    (and_mask (c.args.bits / 2 ^ (64 - c.args.self.at - c.args.self.width)) c.args.self.width)
