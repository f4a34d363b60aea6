use Rattle.std.proofs.Common.{option_to_list, refl, sym, subst, ap₂}
use Rattle.std.proofs.lemmas.List.{length-map}
use Rattle.std.proofs.lemmas.Bool.{false≢true}
use Rattle.std.proofs.lemmas.Iterator.{first_from_find, YieldsList-from_slice}
use Rattle.std.proofs.lemmas.Iterator.Adapters.{YieldsList-from_flatten}
use Rattle.model.specs.Quorums.{Ordered, held}
use Rattle.model.proofs.Meeting.{ordered_one}
use Rattle.model.proofs.Words.{word_of_place, none_ordered, answers_from_first}
use Rattle.model.proofs.places.ordered.Goals as goal

pub returns-clause-finds : goal.returns-clause-finds
returns-clause-finds g c =
    let means = g.W.Word.means in
    let places = held means c.args.places.now in
    let P = Ordered c.args.f places in
    answers_from_first means P c.find.result
    (first_from_find _ _ _ (λ u. P (means u)) (λ u. P (means u) → ⊥) c.find.ensures.ran
    (YieldsList-from_flatten _ _ (λ y. y.now) (option_to_list {X = g.row.W.Denot}) (λ x j b. word_of_place x.now j b.0 b.1) (YieldsList-from_slice c.args.places.now (cc)) (cc) (cc) (cc))
    (λ x q k. subst (λ y. P (means y.now)) k.shows (k.called.met.1.0 refl))
    (λ x q k. (ap₂ (λ a b. (a, b)) k.called.met.0.0 k.called.met.0.1, λ o. false≢true (k.called.met.1.1 (subst (λ y. P (means y.now)) (sym k.shows) o)))))
    (λ x h. h.0) (none_ordered means c.args.f c.args.places.now)

pub returns-clause-single : goal.returns-clause-single
returns-clause-single g c v w l = ordered_one c.args.f (held g.W.Word.means c.args.places.now) v w (simp length-map l)
