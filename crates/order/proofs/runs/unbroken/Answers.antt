use Rattle.std.proofs.Common.{ℕ, ◌+◌, refl, subst, sym}
use Rattle.std.proofs.lemmas.Bool.{false≢true}
use Rattle.std.proofs.lemmas.Iterator.{first_from_Range}
use Rattle.model.specs.Quorums.{held}
use Rattle.order.specs.Runs.{CertifiedAt, Longest}
use Rattle.order.proofs.Parts.{longest_from_first, three_same}
use Rattle.order.proofs.runs.unbroken.Goals as goal

pub returns : goal.returns
returns g c =
    let f = c.args.watch.faults in
    let places = held g.W.Word.means c.args.places.now in
    let P : ℕ → Type 0 = CertifiedAt f places c.args.head in
    subst (Longest f c.args.watch.limit places c.args.head) (sym c.unwrap_or.ensures)
    (longest_from_first f c.args.watch.limit places c.args.head c.find.result
    (first_from_Range _ _ _ c.find.result (λ k. P (k + 1) → ⊥) (λ k. P (k + 1)) c.find.ensures.ran
    (λ x q k p. false≢true (k.called.met.1.1 (subst (λ y. P (y + 1)) (sym k.shows) p)))
    (λ x q k. (three_same k.called.met.0.0 k.called.met.0.1 k.called.met.0.2, subst (λ y. P (y + 1)) k.shows (k.called.met.1.0 refl)))))
