use Rattle.examples.proofs.worked_examples.Goals as goal
use Rattle.model.proofs.Deciding.{certified_by_lem}
use Rattle.rows.specs.Bits.{field_of}
use Rattle.std.proofs.lemmas.Bool.Decides.{Decides-eqb}
use lib.Count.{ones, ones_in}
use Rattle.std.proofs.Common.{eqb, refl}

pub returns : goal.returns
unfolding ones ones_in field_of
returns c = record { count = refl; hold = refl; computed = λ f places head. certified_by_lem eqb Decides-eqb f places head }
