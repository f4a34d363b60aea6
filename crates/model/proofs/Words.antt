-- The words that stand at places, one after the other.
use Rattle.std.proofs.Common.{◌≡◌, ℕ, zero, suc, Bool, true, false, cond, List, [], ◌∷◌, length, Some, None, Option, Bor, option_to_list, option_copied, MatchBool, IsTrue, MatchOption, sym, refl, ap, subst, arith}
use Rattle.std.specs.Iterator.Adapters.{option_iter_steps, option_iter_item, option_iter_done}
use Rattle.std.specs.List.{AllWithin, flat_map}
use Rattle.std.proofs.lemmas.Bool.{false≢true}
use Rattle.std.proofs.lemmas.Iterator.{YieldsList}
use Rattle.std.proofs.lemmas.Iterator.Consumers.{YieldsList-from_shown}
use Rattle.model.specs.Quorums.{Answers, Holds, Ordered, held, meant}
use Rattle.model.proofs.Meeting.{ordered_somewhere, some≢none}

none_left : {W : Type 0} (b : Bool) (o : Option W) → MatchBool b (◌≡◌ {A = Option (Bor W)} None None) (option_copied {T = W} None ≡ o) → length (cond b [] (option_to_list o)) ≡ 0
none_left true o h = refl
none_left false None h = refl
none_left false (Some x) h = absurd (some≢none x h)

one_left : {W : Type 0} (b d : Bool) (o p : Option W) (x : Bor W) → IsTrue d → MatchBool b (Some x ≡ None) (option_copied (Some x) ≡ o)
    → cond b [] (option_to_list o) ≡ x.now ∷ cond d [] (option_to_list p)
one_left true d o p x i h = absurd (some≢none x (sym h))
one_left false true o p x i h = ap option_to_list (sym h)
one_left false false o p x i h = absurd (false≢true i)

-- what a place gives is the word that it holds, if any
pub word_of_place : {W : Type 0} (o : Option W) (s : _) → option_iter_item s ≡ o → option_iter_done s ≡ false
    → YieldsList (option_iter_steps {A = W}) (λ y. y.now) s (option_to_list o)
word_of_place {W} o s e d =
    subst (YieldsList (option_iter_steps {A = W}) (λ y. y.now) s) (simp (d, e) refl)
    (YieldsList-from_shown (option_iter_steps {A = W}) (λ y. y.now) (λ u. cond (option_iter_done u) [] (option_to_list (option_iter_item u))) (λ u t h. none_left (option_iter_done u) (option_iter_item u) h.1) (λ u x t h. one_left (option_iter_done u) (option_iter_done t) (option_iter_item u) (option_iter_item t) x h.0 h.1) s)

the_value : {V : Type 0} {u v : V} → Some u ≡ Some v → u ≡ v
the_value e = cc

module _ {W V : Type 0} (means : W → V) (P : V → Type 0) where
  -- what is so of no word at the places is so of no meaning that they hold
  none_held : (places : List (Option W)) → AllWithin (λ u. P (means u) → ⊥) (flat_map option_to_list places) 0 (length (flat_map option_to_list places)) → (k : ℕ) (v : V)
      → Holds (held means places) v k → P v → ⊥
  none_held [] a k v h p = some≢none v h
  none_held (None ∷ places) a zero v h p = some≢none v h
  none_held (Some u ∷ places) a zero v h p = a 0 u (omega arith) (omega arith) (subst P (sym (the_value h)) p)
  none_held (None ∷ places) a (suc k) v h p = none_held places a k v h p
  none_held (Some u ∷ places) a (suc k) v h p = none_held places (λ j d l m. a (suc j) d (omega arith) (omega arith)) k v h p

  -- an answer by the first word that passes
  pub answers_from_first : {N : Type 0} {Q : Bor W → Type 0} (r : Option (Bor W)) → MatchOption r N Q → ((x : Bor W) → Q x → P (means x.now)) → (N → (v : V) → P v → ⊥)
      → Answers P (meant (λ u. means u.now) r)
  answers_from_first None h some none = none h
  answers_from_first (Some x) h some none = some x h

-- nothing is ordered where no word at the places is
pub none_ordered : {W V : Type 0} (means : W → V) (f : ℕ) (places : List (Option W))
    → AllWithin (λ u. Ordered f (held means places) (means u) → ⊥) (flat_map option_to_list places) 0 (length (flat_map option_to_list places))
    → (v : V) → Ordered f (held means places) v → ⊥
none_ordered means f places a v o =
    let r = ordered_somewhere f (held means places) v o in
    none_held means (Ordered f (held means places)) places a r.0 r.2.0 r.2.1 r.2.2
