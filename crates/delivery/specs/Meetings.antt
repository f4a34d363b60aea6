-- The outcome of a word at a place by meaning, where no test tells the meanings apart.
use Rattle.delivery.specs.declared.outcome.Outcome.{Outcome}
use Rattle.delivery.specs.declared.outcome.Outcome.TheVariants.{Taken, Known, TwoFaced}
use Rattle.std.specs.Prelude.{◌≡◌, Some, None, Option, ◌≢◌}

abbrev pub Meets : {V : Type 0} → Option V → V → Outcome → Type 0
Meets None v r = r ≡ Taken
Meets (Some w) v r = (w ≡ v → r ≡ Known) × ((w ≢ v) → r ≡ TwoFaced)
