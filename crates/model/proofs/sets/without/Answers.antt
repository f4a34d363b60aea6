use Rattle.std.proofs.Common.{◌-◌, ◌^◌, ◌<◌, sym, ap, ◌∙◌, arith}
use Rattle.std.proofs.lemmas.Nat.{one_shl}
use Rattle.std.proofs.lemmas.Bool.{cond-true}
use Rattle.model.specs.Sets.{named}
use Rattle.model.proofs.Members.{within_from_below, names_fits}
use Rattle.model.proofs.sets.without.Goals as goal

-- the station is one of sixteen, since the set names it
low : (c : goal.Then-names) → c.args.j < 16
low c = let fits : c.args.set < 2 ^ 16 = omega arith in within_from_below 16 c.args.set fits c.args.j (sym c.if-names.ensures)

pub overflow_cast-result : goal.overflow_cast-result
overflow_cast-result c = omega (arith, low c)

pub overflow_shl-result : goal.overflow_shl-result
overflow_shl-result c = low c

pub overflow_sub-result : goal.overflow_sub-result
overflow_sub-result c = rw (one_shl c.args.j 16 (low c)) (names_fits c.args.set c.args.j (sym c.if-names.ensures))

pub returns-then-names : goal.returns-then-names
returns-then-names c =
    ap (λ x. c.args.set - x) (one_shl c.args.j 16 (low c))
    ∙ sym (cond-true (named c.args.set c.args.j) (c.args.set - 2 ^ c.args.j) c.args.set (sym c.if-names.ensures))
