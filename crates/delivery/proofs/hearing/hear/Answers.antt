use Rattle.delivery.proofs.Said.{HoldsVote, voted}
use Rattle.delivery.proofs.hearing.hear.Goals as goal
use Rattle.tables.specs.Plans.{plan_of}
use Rattle.std.proofs.Common.{refl, sym, subst, inl, inr, ap, ◌∙◌}

pub hear_vote-requires : goal.hear_vote-requires
hear_vote-requires g c =
    let a = c.in-Proposal in
    let v = c.vote_in-in-Proposal in
    let x = c.args.frame.now in
    let e = c.header-header.ensures in
    let holds : HoldsVote x a.matrix = elim a.is [ inl (h, is) ↦ subst (λ y. HoldsVote y a.matrix) (sym is) refl | inr (h, is) ↦ subst (λ y. HoldsVote y a.matrix) (sym is) refl ] in
    voted (plan_of c.args.at.now.numbers) x a.matrix v.result c.requires.sound c.requires.ours holds
    (v.ensures.number ∙ ap (λ h. h.sequence) e) (v.ensures.speaker ∙ ap (λ h. h.sender) e) v.ensures.side v.ensures.means

pub hear_commit-requires : goal.hear_commit-requires
hear_commit-requires g c =
    let a = c.in-Commit in
    let v = c.vote_in in
    let x = c.args.frame.now in
    let e = c.header-header.ensures in
    voted (plan_of c.args.at.now.numbers) x a.matrix v.result c.requires.sound c.requires.ours (subst (λ y. HoldsVote y a.matrix) (sym a.is) refl)
    (v.ensures.number ∙ ap (λ h. h.sequence) e) (v.ensures.speaker ∙ ap (λ h. h.sender) e) v.ensures.side v.ensures.means
