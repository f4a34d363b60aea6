use Rattle.model.specs.Decided.{certified_by}
use Rattle.model.specs.Quorums.{held, stations}
use Rattle.tables.proofs.Readable.{readable}
use Rattle.tables.proofs.numbers.Numbers.certified.Goals as goal
use Rattle.tables.specs.Plans.{lengths_of, plan_of}
use Rattle.tables.specs.Reading.{first_place, unread}
use Rattle.std.proofs.lemmas.Bool.{cond-false, le-ltb, lt-leb, or_from}
use Rattle.std.proofs.Common.{◌≡◌, rules, ◌||◌, eqb, ltb, leb, take, drop, sym, ap, ◌∙◌, arith}

pub returns : goal.returns
returns g c =
    let t = c.args.t.now in
    let p = plan_of c.args.self in
    let n = stations c.args.self.watch.faults in
    let l = c.args.self.watch.limit in
    let i = c.args.station in
    let o = c.args.origin in
    let s = c.args.sequence in
    let bits = g.M.Op.Operation.bits in
    let f = c.args.self.watch.faults in
    let words = held bits t.words.now in
    let from = c.first_place-from.result in
    let k = c.stations-n.result in
    let at : c.in_ok-at.at.index ≡ i = search rules in
    let read = readable bits g.M.Machine.means t p i c.in_ok-at.at.index (search rules) in
    c.certified_in.ensures
    ∙ ap (λ m. certified_by eqb f (take m (drop from words)) o) c.stations-n.ensures
    ∙ ap (λ m. certified_by eqb f (take n (drop m words)) o) c.first_place-from.ensures.is
    ∙ ap (λ j. certified_by eqb f (take n (drop (first_place n l j o s) words)) o) at
    ∙ sym (cond-false (leb n o || (ltb s 1 || ltb l s)) _ _
    (or_from (leb n o) (ltb s 1 || ltb l s) (lt-leb n o (omega arith)) (or_from (ltb s 1) (ltb l s) (le-ltb s 1 (omega arith)) (le-ltb l s (omega arith)))))
    ∙ sym (cond-false (unread p (lengths_of t) i) _ _ read)
