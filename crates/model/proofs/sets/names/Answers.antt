use Rattle.std.proofs.Common.{◌^◌, ◌<◌, ◌≤◌, eqb, sym, ap, ◌∙◌, arith}
use Rattle.std.proofs.lemmas.Nat.{and_mask}
use Rattle.std.proofs.lemmas.Bool.{le-ltb}
use Rattle.model.proofs.Members.{above_none}
use Rattle.model.proofs.sets.names.Goals as goal

pub returns-then-j-lt16 : goal.returns-then-j-lt16
returns-then-j-lt16 c = ap (λ x. eqb x 1) (and_mask _ 1)

pub returns-else-j-lt16 : goal.returns-else-j-lt16
returns-else-j-lt16 c =
    let fits : c.args.set < 2 ^ 16 = omega arith in
    let past : 16 ≤ c.args.j = omega arith in
    le-ltb c.args.j 16 past ∙ sym (above_none 16 c.args.set c.args.j fits past)
