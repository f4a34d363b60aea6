use Rattle.std.proofs.Common.{◌≡◌, ◌+◌, ◌-◌, ◌*◌, ◌≤◌, sym, ap, subst}
use Rattle.model.specs.Quorums.{stations}
use Rattle.tables.proofs.Indices.{places_fit}
use Rattle.tables.proofs.reading.first_place.Goals as goal
use Rattle.tables.specs.Plans.{word_places}

pub returns : goal.returns
returns c =
    let n = stations c.args.watch.faults in
    let l = c.args.watch.limit in
    let i = c.args.station in
    let o = c.args.origin in
    let s = c.args.sequence in
    let all : c.stations-n.result ≡ n = c.stations-n.ensures in
    record {
      is = ap (λ k. ((i * k + o) * l + (s - 1)) * k) all;
      fits = subst (λ k. ((i * k + o) * l + (s - 1)) * k + n ≤ word_places n l) (sym all) (places_fit n l i o s c.requires.stations.0 c.requires.stations.1 c.requires.sequence.0 c.requires.sequence.1);
    }
