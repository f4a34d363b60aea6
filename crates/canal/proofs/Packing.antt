-- Packed forms and what they say.
use Rattle.std.proofs.Common.{◌≡◌, ℕ, ◌+◌, ◌*◌, ◌/◌, ◌^◌, ◌<◌, Bool, true, false, cond, eqb, List, map, IfOk, Some, None, Ok, Err, Option, Result, sym, refl, ap, ◌∙◌, arith}
use Rattle.canal.specs.GateOrders as orders
use Rattle.canal.specs.Layout.{Made, Unique, bad, content, foreign, head, last}
use Rattle.canal.specs.Transfers as transfers
use Rattle.canal.specs.declared.layout.Field.{Field}
use Rattle.model.specs.Faults.{fault}
use Rattle.model.specs.Words.{Unpacked}
use Rattle.model.specs.declared.fault.Fault.{Fault}
use Rattle.model.specs.declared.fault.Reason.TheVariants.{OtherTag}
use Rattle.std.proofs.lemmas.Bool.{cond-true, eq-eqb, eqb-true}
use Rattle.std.proofs.lemmas.Bool.Decides.{nat_tests}

tested : (b : Bool) (x : Option Fault) (e : Fault) → cond b x (Some e) ≡ None → (b ≡ true) × (x ≡ None)
tested true x e q = (refl, q)
tested false x e q = absurd (grind arith)

-- Bits that are accepted have the tag, and in each field a number that it may hold.
accepted : (tag : ℕ) (fs : List Field) (n : ℕ) → foreign tag fs n ≡ None → (content head n ≡ tag) × (bad fs (map (λ f. content f n) fs) ≡ None)
accepted tag fs n q =
    let p = tested (eqb (content head n) tag) _ _ q in (eqb-true (content head n) tag p.0, p.1)

-- The order and the transfer that bits say pack to these bits.
pub order_back : (n : ℕ) → n < 2 ^ 64 → orders.refusal n ≡ None → orders.packed (orders.read n) ≡ n
order_back n h q = let t = (accepted 1 orders.fields n q).0 in omega arith

pub transfer_back : (n : ℕ) → n < 2 ^ 64 → transfers.refusal n ≡ None → transfers.packed (transfers.read n) ≡ n
transfer_back n h q =
    let p = accepted 2 transfers.fields n q in
    let t : content head n ≡ 2 = p.0 in
    let none = p.1 in
    let z : content transfers.zero_field n ≡ 0 = grind (arith, nat_tests) in
    let source : n / 2 ^ 57 ≡ 2 * 2 ^ 5 + content transfers.source_field n = omega arith in
    let target : n / 2 ^ 52 ≡ n / 2 ^ 57 * 2 ^ 5 + content transfers.target_field n = omega arith in
    let volume : n / 2 ^ 32 ≡ n / 2 ^ 52 * 2 ^ 20 + content transfers.volume_field n = omega arith in
    let zeros : n / 2 ^ 24 ≡ n / 2 ^ 32 * 2 ^ 8 + content transfers.zero_field n = omega arith in
    let number : n ≡ n / 2 ^ 24 * 2 ^ 24 + content last n = omega arith in
    omega arith

module _ {X V : Type 0} (means : X → V) (packed : V → ℕ) (read : ℕ → V) (tag : ℕ) (fs : List Field)
    (back : (b : ℕ) → b < 2 ^ 64 → foreign tag fs b ≡ None → packed (read b) ≡ b) (n : ℕ) (whole : n < 2 ^ 64) (tagged : content head n ≡ tag) where
  passes : bad fs (map (λ f. content f n) fs) ≡ None → foreign tag fs n ≡ None
  passes none = cond-true _ _ _ (eq-eqb (content head n) tag tagged) ∙ none

  -- What is unpacked from bits of the right tag, where it is made out of the numbers in their fields.
  pub unpacks : (r : Result X Fault) → Made means (bad fs (map (λ f. content f n) fs)) (read n) r → Unpacked (λ x. packed (means x)) (foreign tag fs) n r
  unpacks (Ok x) (none, is) = (passes none, ap packed is ∙ back n whole (passes none))
  unpacks (Err e) wrong = cond-true _ _ _ (eq-eqb (content head n) tag tagged) ∙ wrong

  -- It is what the bits say, and only they say it.
  pub only : (other : ℕ → Option Fault) → other n ≡ Some (fault OtherTag 0) → (r : Result X Fault)
      → Made means (bad fs (map (λ f. content f n) fs)) (read n) r → IfOk r (λ u. Unique (foreign tag fs) other read n (means u))
  only other apart (Err e) wrong = tt
  only other apart (Ok x) (none, is) =
      record {
        reads = (passes none, sym is);
        sole = λ b below says. sym (back b below says.0) ∙ ap packed (says.1 ∙ is) ∙ back n whole (passes none);
        apart = apart;
      }
