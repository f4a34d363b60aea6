-- What is accepted as a correct station can be read.
use Rattle.std.proofs.Common.{◌≡◌, ℕ, Bool, true, false, ◌||◌, Ok, refl, ap, sym, subst, ◌∙◌, arith}
use Rattle.model.specs.declared.fault.Reason.TheVariants.{ShortTable, NoStation, WrongStation}
use Rattle.tables.proofs.Lengths.{same_lengths}
use Rattle.tables.specs.Contents.{contents}
use Rattle.tables.specs.Plans.{Plan, lengths_of, plan_of}
use Rattle.tables.specs.Reading.{unread}
use Rattle.tables.specs.Refusing.{refuse}
use Rattle.tables.specs.Runs.{lengths_in}
use Rattle.tables.specs.Stations.{Ready, correct_in}
use Rattle.tables.specs.declared.numbers.Numbers.{Numbers}
use Rattle.tables.specs.declared.tables.Tables.{Tables}

none_holds : (short past wrong : Bool) (i j : ℕ) → refuse short ShortTable (refuse past NoStation (refuse wrong WrongStation (Ok i))) ≡ Ok j → (short || (past || wrong)) ≡ false
none_holds true past wrong i j e = absurd (grind arith)
none_holds false true wrong i j e = absurd (grind arith)
none_holds false false true i j e = absurd (grind arith)
none_holds false false false i j e = refl

pub readable : {Mach Op Q : Type 0} (bits : Op → ℕ) (means : Mach → Q) (t : Tables Mach Op) (p : Plan) (i j : ℕ)
    → Ok j ≡ correct_in p (lengths_in (contents bits means t)) i → unread p (lengths_of t) i ≡ false
readable bits means t p i j e = none_holds _ _ _ i j (sym (e ∙ ap (λ l. correct_in p l i) (same_lengths bits means t)))

-- A station with its tables is what the type says, by the numbers, the tables and the index that it was made of.
pub ready_at : {Mach Op : Type 0} (n m : Numbers) (t u : Tables Mach Op) (i j : ℕ) → (n ≡ m) × ((t ≡ u) × (i ≡ j)) → Ready (plan_of n) (lengths_of t) i → Ready (plan_of m) (lengths_of u) j
ready_at n m t u i j (e, (d, c)) ready = subst (λ x. Ready (plan_of m) (lengths_of u) x) c (subst (λ x. Ready (plan_of m) (lengths_of x) i) d (subst (λ x. Ready (plan_of x) (lengths_of t) i) e ready))
