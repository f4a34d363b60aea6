use Rattle.std.proofs.Common.{◌+◌, ◌<◌, length, sym, ◌∙◌, subst, arith}
use Rattle.std.proofs.lemmas.List.{length-map}
use Rattle.std.proofs.lemmas.Bool.Decides.{not_from_Decides}
use Rattle.model.specs.Quorums.{held}
use Rattle.model.proofs.Backing.{Backing, backing_none, backing_takes, backing_keeps, backing_all, held_at}
use Rattle.model.proofs.places.backers.Goals as goal
use Rattle.model.proofs.places.backers.Goals.{then-holds, else-holds}

pub loop-j-init : goal.loop-j-init
loop-j-init g c = backing_none (held g.W.Word.means c.args.places.now) (g.W.Word.means c.args.word.now)

pub loop-j-preserved : goal.loop-j-preserved
loop-j-preserved g c =
    let places = held g.W.Word.means c.args.places.now in
    let v = g.W.Word.means c.args.word.now in
    let low : c.loop-j.j < length c.args.places.now = omega arith in
    let read = held_at g.W.Word.means c.args.places.now c.loop-j.j c.index-places-j.result low c.index-places-j.is in
    elim c.if-holds.branch [
      | then-holds w ↦
          subst (Backing places v (c.loop-j.j + 1)) (sym (w.set-is ∙ w.with-set.ensures))
          (backing_takes places v c.loop-j.j c.loop-j.set c.loop-j.invariant (read ∙ c.holds.ensures.0 w.if-holds.true))
      | else-holds w ↦
          subst (Backing places v (c.loop-j.j + 1)) (sym w.set-is)
          (backing_keeps places v c.loop-j.j c.loop-j.set c.loop-j.invariant (λ h. not_from_Decides c.holds.result c.holds.ensures w.if-holds.false (sym read ∙ h)))
    ]

pub returns : goal.returns
returns g c =
    backing_all (held g.W.Word.means c.args.places.now) (g.W.Word.means c.args.word.now) c.loop-j.j c.loop-j.set
    (simp length-map c.loop-j-test.false) c.loop-j.invariant
