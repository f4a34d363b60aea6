use Rattle.model.specs.Decided.{certified_by}
use Rattle.model.specs.Quorums.{held}
use Rattle.std.proofs.Common.{◌≡◌, ◌+◌, ◌-◌, eqb, take, drop, ap, ◌∙◌, arith}
use Rattle.tables.proofs.Certified.{by_bits}
use Rattle.tables.proofs.Indices.{held_part}
use Rattle.tables.proofs.reading.certified_in.Goals as goal

pub returns : goal.returns
returns g c =
    let from = c.args.from in
    let n = c.args.n in
    let bits = g.O.Operation.bits in
    let words = c.args.words.now in
    let few : from + n - from ≡ n = omega arith in
    by_bits g.O.Word.means bits g.met.O.Operation.one g.met.O.Operation.apart c.args.f _ c.args.origin c.certified.result c.certified.ensures
    ∙ ap (λ k. certified_by eqb c.args.f (held bits (take k (drop from words))) c.args.origin) few
    ∙ ap (λ ps. certified_by eqb c.args.f ps c.args.origin) (held_part bits n from words)
