use Rattle.std.specs.Prelude.{◌≡◌, ℕ, cond, ◌&&◌, Some, None, Ok, Err, Option, Result, nat_le}
use Rattle.model.specs.declared.fault.Reason.{Reason}
use Rattle.model.specs.declared.fault.Reason.TheVariants.{FaultBound, WatchLength}
use Rattle.model.specs.declared.watch.Watch.{Watch}

-- What is refused of a watch: first a number of faulty stations outside 1 to 5, then a length outside 1 to 63.
abbrev pub excess : ℕ → ℕ → Option Reason
excess f length = cond (nat_le 1 f && nat_le f 5) (cond (nat_le 1 length && nat_le length 63) None (Some WatchLength)) (Some FaultBound)

abbrev pub Watched : ℕ → ℕ → Result Watch Reason → Type 0
Watched f length (Ok w) = (excess f length ≡ None) × (w.faults ≡ f) × (w.limit ≡ length)
Watched f length (Err e) = excess f length ≡ Some e
