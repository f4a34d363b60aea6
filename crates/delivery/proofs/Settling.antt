-- What is made of a word by its outcome, and what is said.
use Rattle.std.proofs.Common.{◌≡◌, ℕ, ◌<◌, ◌≤◌, Bool, true, false, cond, arith, List, [], ◌∷◌, None, Option, refl}
use Rattle.delivery.specs.Deliveries as rules
use Rattle.delivery.specs.Deliveries.{effect}
use Rattle.delivery.specs.Hearings.{Makes, Settles, says}
use Rattle.delivery.specs.Tellings.{Lies, change_by}
use Rattle.delivery.specs.declared.change.Change.{Change}
use Rattle.delivery.specs.declared.change.Delivery.{Delivery}
use Rattle.delivery.specs.declared.outcome.Outcome.{Outcome}
use Rattle.delivery.specs.declared.outcome.Outcome.TheVariants.{Taken, Known, TwoFaced}
use Rattle.frames.specs.Said.{Said}
use Rattle.frames.specs.Views.{said_by}
use Rattle.frames.specs.declared.kind.Message.{Message}
use Rattle.frames.specs.Writing.{unfit}
use Rattle.frames.specs.declared.kind.Message.TheVariants as message
use Rattle.model.specs.Quorums.{stations}
use Rattle.rows.specs.declared.owned.Matrix.{Matrix}
use Rattle.std.proofs.lemmas.Grind.{common_steps}
use Rattle.std.specs.Option.{IfSome}
use Rattle.std.specs.Bool.{then_some}
use Rattle.tables.specs.Plans.{Lengths}

-- A word of this outcome has the effect that the rules give it, where it has it when it is taken.
pub settled_makes : {Op : Type 0} (bits : Op → ℕ) (t : Lengths) (i : ℕ) (Made : Delivery Op → Type 0) (o : Outcome) (j : ℕ) (c : rules.Change) (says : List Said) (d : Delivery Op)
    → Settles Made o j d → i < t.accused → (Made d → Makes bits t i (effect Taken j c says) d) → Makes bits t i (effect o j c says) d
settled_makes bits t i Made Taken j c says d s h make = make s
settled_makes bits t i Made Known j c says d s h make = rw s (record { tells = refl; placed = record { lies = tt; ordered = λ e. refl } })
settled_makes bits t i Made TwoFaced j c says d s h make = rw s (record { tells = refl; placed = record { lies = h; ordered = λ e. refl } })

-- The same where a word that is taken only makes a change.
pub settled_quiet : {Op : Type 0} (bits : Op → ℕ) (t : Lengths) (i : ℕ) (Made : Delivery Op → Type 0) (o : Outcome) (j : ℕ) (x : Change Op) (d : Delivery Op)
    → Settles Made o j d → i < t.accused → Lies t i x → (Made d → d ≡ record { outcome = Taken; change = x; first = None; second = None })
    → Makes bits t i (effect o j (change_by bits x) []) d
settled_quiet bits t i Made o j x d s h lies make =
    settled_makes bits t i Made o j (change_by bits x) [] d s h (λ k. rw (make k) (record { tells = refl; placed = record { lies = lies; ordered = λ e. refl } }))

-- A message that is there only where this holds.
pub says_then : (s f : ℕ) (m : Message) (b : Bool) → says s f (then_some b m) ≡ cond b (said_by s f m ∷ []) []
says_then s f m true = refl
says_then s f m false = refl

-- A frame says a vote's commit.
pub commit_fits : (i f s : ℕ) (m : Matrix) (b : Bool) (o : Option Message) → 1 ≤ f → f ≤ 5 → i < stations f → 1 ≤ s → s ≤ 63 → m.side ≡ stations f → o ≡ then_some b (message.Commit s m)
    → IfSome o (λ m. unfit (said_by i f m) ≡ None)
commit_fits i f s m true o some few station low high side e = rw e (grind (arith, common_steps))
commit_fits i f s m false o some few station low high side e = rw e tt
