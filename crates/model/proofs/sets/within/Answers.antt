use Rattle.std.proofs.Common.{◌^◌, ◌<◌, inl, inr, arith}
use native.Mathlib.Nat.{div-eq_of_lt}
use Rattle.std.proofs.lemmas.Nat.{le-div, pow_pos}
use Rattle.std.proofs.lemmas.Bool.{cases_lt, le-leb, eq-eqb, eqb-true}
use Rattle.model.proofs.Members.{within_from_below, below_from_within}
use Rattle.model.proofs.sets.within.Goals as goal

pub returns-then-n-ge16 : goal.returns-then-n-ge16
returns-then-n-ge16 c =
    let fits : c.args.set < 2 ^ 16 = omega arith in
    (λ _ j m. omega (arith, within_from_below 16 c.args.set fits j m), λ _. le-leb 16 c.args.n (omega arith))

pub returns-else-n-ge16 : goal.returns-else-n-ge16
returns-else-n-ge16 c = (
  λ e. within_from_below c.args.n c.args.set (
      elim (cases_lt c.args.set (2 ^ c.args.n)) [
        | inl l ↦ l
        | inr l ↦ absurd (omega (arith, eqb-true _ _ e, le-div 1 c.args.set (2 ^ c.args.n) (pow_pos c.args.n) (omega arith)))
      ]
      ),
  λ w. eq-eqb _ _ (div-eq_of_lt (below_from_within c.args.n c.args.set w)),
)
