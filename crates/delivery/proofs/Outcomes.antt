-- The outcome of a word by meaning is its outcome by a test.
use Rattle.std.proofs.Common.{◌≡◌, ℕ, zero, suc, Bool, true, false, cond, eqb, ◌⊎◌, List, [], ◌∷◌, get_or, Some, None, Option, sym, refl, ap, ◌∙◌, inl, inr, arith, Bor}
use Rattle.delivery.specs.Deliveries.{meets}
use Rattle.delivery.specs.Meetings.{Meets}
use Rattle.delivery.specs.declared.outcome.Outcome.{Outcome}
use Rattle.delivery.specs.declared.outcome.Outcome.TheVariants.{Known, TwoFaced}
use Rattle.model.specs.Decided.{Tells}
use Rattle.model.specs.Quorums.{held, meant}
use Rattle.std.proofs.lemmas.Bool.{and_from, and_parts, cases_Bool, eq-eqb, eqb-true, false≢true}
use Rattle.std.specs.Option.{option_map}
use Rattle.wire.specs.Wires.{same_list}

-- What a place holds by meaning, past the end too.
pub get_d_held : {W V : Type 0} (g : W → V) (places : List (Option W)) (at : ℕ) → get_or (held g places) at None ≡ meant g (get_or places at None)
get_d_held g [] at = refl
get_d_held g (p ∷ places) zero = refl
get_d_held g (p ∷ places) (suc at) = get_d_held g places at

-- A word that is lent means what it means.
behind : {W V : Type 0} (g : W → V) (r : Option (Bor W)) → meant (λ u. g u.now) r ≡ meant g (option_map (λ x. x.now) r)
behind g (Some u) = refl
behind g None = refl

pub lent : {W V : Type 0} (g : W → V) (r : Option (Bor W)) (o : Option W) → option_map (λ x. x.now) r ≡ o → meant (λ u. g u.now) r ≡ meant g o
lent g r o e = behind g r ∙ ap (meant g) e

-- The test of lists tells them apart.
lists_equal : (xs ys : List ℕ) → same_list xs ys ≡ true → xs ≡ ys
lists_equal [] [] e = refl
lists_equal [] (y ∷ ys) e = absurd (false≢true e)
lists_equal (x ∷ xs) [] e = absurd (false≢true e)
lists_equal (x ∷ xs) (y ∷ ys) e =
    let p = and_parts (eqb x y) (same_list xs ys) e in
    let a = eqb-true x y p.0 in
    let b = lists_equal xs ys p.1 in
    cc

list_itself : (xs : List ℕ) → same_list xs xs ≡ true
list_itself [] = refl
list_itself (x ∷ xs) = and_from (eqb x x) (same_list xs xs) (eq-eqb x x refl) (list_itself xs)

pub tells_lists : Tells same_list
tells_lists xs ys = (lists_equal xs ys, λ e. ap (same_list xs) (sym e) ∙ list_itself xs)

-- ---- two meanings of the same words, of which a test tells the second apart

module _ {W V U : Type 0} (g : W → V) (h : W → U) (one : (u v : W) → g u ≡ g v → h u ≡ h v) where
  meant_same : (r : Option (Bor W)) (p : Option W) → meant (λ u. g u.now) r ≡ meant g p → meant (λ u. h u.now) r ≡ meant h p
  meant_same (Some u) (Some w) e = let d : g u.now ≡ g w = cc in ap Some (one u.now w d)
  meant_same (Some u) None e = let z : ◌≡◌ {A = ℕ} 0 1 = cc in absurd (omega arith)
  meant_same None (Some w) e = let z : ◌≡◌ {A = ℕ} 0 1 = cc in absurd (omega arith)
  meant_same None None e = refl

  -- What was read at a place, by the second meaning.
  pub read_by : (r : Option (Bor W)) (places : List (Option W)) (at : ℕ) → meant (λ u. g u.now) r ≡ get_or (held g places) at None
      → meant (λ u. h u.now) r ≡ get_or (held h places) at None
  read_by r places at e = meant_same r (get_or places at None) (e ∙ get_d_held g places at) ∙ sym (get_d_held h places at)

module _ {W V U : Type 0} (g : W → V) (h : W → U) (same : U → U → Bool) (tells : Tells same) (one : (u v : W) → g u ≡ g v → h u ≡ h v)
    (apart : (u v : W) → h u ≡ h v → g u ≡ g v) where
  met_at : (u word : W) (r : Outcome) → (g u ≡ g word → r ≡ Known) × ((g u ≡ g word → ⊥) → r ≡ TwoFaced) → (same (h u) (h word) ≡ true) ⊎ (same (h u) (h word) ≡ false)
      → r ≡ cond (same (h u) (h word)) Known TwoFaced
  met_at u word r m (inl e) = rw e (m.0 (apart u word ((tells (h u) (h word)).0 e)))
  met_at u word r m (inr e) = rw e (m.1 (λ d. false≢true (sym e ∙ (tells (h u) (h word)).1 (one u word d))))

  pub met : (held : Option (Bor W)) (word : W) (r : Outcome) → Meets (meant (λ u. g u.now) held) (g word) r → r ≡ meets same (meant (λ u. h u.now) held) (h word)
  met (Some u) word r m = met_at u.now word r m (cases_Bool (same (h u.now) (h word)))
  met None word r m = m
