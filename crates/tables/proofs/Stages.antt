-- Answers that are made in stages.
use Rattle.model.specs.declared.fault.Fault.{Fault}
use Rattle.std.proofs.Common.{◌≡◌, Ok, Result, ap, ◌∙◌}
use Rattle.tables.specs.Refusing.{then}

-- The first stage accepts, and the next one answers.
pub staged : {X Y : Type 0} (first : Result X Fault) (x : X) (next : X → Result Y Fault) (r : Result Y Fault) → Ok x ≡ first → r ≡ next x → r ≡ then first next
staged first x next r e h = h ∙ ap (λ y. then y next) e
