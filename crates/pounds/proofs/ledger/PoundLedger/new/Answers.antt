use Rattle.pounds.proofs.ledger.PoundLedger.new.Goals as goal
use Rattle.pounds.specs.Ledgers.{level_of}
use Rattle.std.proofs.lemmas.List.{take_at}
use Rattle.std.proofs.lemmas.Bool.Decides.{nat_tests}
use Rattle.std.proofs.Common.{map, length, ap, ◌∙◌, arith}

pub returns : goal.returns
returns c = (
  grind (arith, nat_tests),
  ap (map level_of) (take_at c.copy_from_slice.new.self _ (length c.args.pounds.now) (ap length c.copy_from_slice.ensures.after) ∙ c.copy_from_slice.ensures.after),
)
