use Rattle.std.proofs.lemmas.Nat.{or_shifted, shl_whole}
use Rattle.canal.proofs.layout.Field.after.Goals as goal

pub returns : goal.returns
returns c =
    rw (shl_whole c.args.bits c.args.self.at c.args.self.width 64 c.requires.room.0 c.requires.place)
    (or_shifted c.args.bits c.args.self.width c.args.value c.requires.room.1)
