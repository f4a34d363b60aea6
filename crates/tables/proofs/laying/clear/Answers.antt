use Rattle.std.proofs.Common.{◌*◌, map, replicate, None, ◌≤◌, length, sym, subst, ap, ◌∙◌, rules, arith}
use Rattle.model.specs.Quorums.{meant, stations}
use Rattle.tables.proofs.Fronts.{fronted, fronted_same}
use Rattle.tables.proofs.Opened.{opens}
use Rattle.tables.proofs.laying.clear.Goals as goal
use Rattle.tables.specs.Cleared.{front}
use Rattle.tables.specs.Contents.{contents, none}
use Rattle.tables.specs.Plans.{plan_of}
use Rattle.rows.specs.Values.{matrix_of, row_of}

pub returns : goal.returns
returns g c =
    let bits = g.M.Op.Operation.bits in
    let means = g.M.Machine.means in
    let t = c.args.t.now in
    let n = stations c.args.numbers.watch.faults in
    opens (plan_of c.args.numbers) (means c.args.start.now) (contents bits means t) _ _ _ _ _ _ _
    (fronted (meant bits) None c.word_places.result _ _ (omega arith) c.fill_front.ensures.long (λ k d h. let x = c.fill_front.ensures.front k d h in search rules) c.fill_front.ensures.behind
    ∙ ap (λ k. front k None (map (meant bits) t.words.now)) c.word_places.ensures.is)
    (fronted (meant matrix_of) None c.vote_places-votes.result _ _ (omega arith) c.fill_front-2.ensures.long (λ k d h. let x = c.fill_front-2.ensures.front k d h in search rules) c.fill_front-2.ensures.behind
    ∙ ap (λ k. front k None (map (meant matrix_of) t.votes.now)) c.vote_places-votes.ensures.is)
    (fronted (meant matrix_of) None c.vote_places-votes.result _ _ (omega arith) c.fill_front-3.ensures.long (λ k d h. let x = c.fill_front-3.ensures.front k d h in search rules) c.fill_front-3.ensures.behind
    ∙ ap (λ k. front k None (map (meant matrix_of) t.commits.now)) c.vote_places-votes.ensures.is)
    (fronted row_of (replicate n 0) (c.stations.result * c.stations.result) _ _ (subst (λ k. k * k ≤ length t.kept.now) (sym c.stations.ensures) c.requires.stations.kept) c.fill_front-4.ensures.long (λ k d h. let x = c.fill_front-4.ensures.front k d h in search rules) c.fill_front-4.ensures.behind
    ∙ ap (λ k. front (k * k) (replicate n 0) (map row_of t.kept.now)) c.stations.ensures)
    (fronted means (means c.args.start.now) c.stations.result _ _ (omega arith) c.fill_front-5.ensures.long (λ k d h. let x = c.fill_front-5.ensures.front k d h in search rules) c.fill_front-5.ensures.behind
    ∙ ap (λ k. front k (means c.args.start.now) (map means t.machines.now)) c.stations.ensures)
    (fronted_same none c.stations.result _ _ (omega arith) c.fill_front-6.ensures.long (λ k d h. let x = c.fill_front-6.ensures.front k d h in search rules) c.fill_front-6.ensures.behind
    ∙ ap (λ k. front k none t.counts.now) c.stations.ensures)
    (fronted_same 0 c.stations.result _ _ (omega arith) c.fill_front-7.ensures.long (λ k d h. let x = c.fill_front-7.ensures.front k d h in search rules) c.fill_front-7.ensures.behind
    ∙ ap (λ k. front k 0 t.accused.now) c.stations.ensures)
