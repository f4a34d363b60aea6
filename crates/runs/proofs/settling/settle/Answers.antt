use Rattle.delivery.specs.Tellings.{change_by}
use Rattle.model.specs.Quorums.{held}
use Rattle.runs.proofs.Changes.{commits_set, held_set, kept_set, votes_set, words_set}
use Rattle.runs.proofs.settling.settle.Goals as goal
use Rattle.rows.specs.Values.{matrix_of, row_of}
use Rattle.std.proofs.lemmas.List.{map-set}
use Rattle.tables.specs.Contents.{contents}
use Rattle.std.proofs.Common.{map, ap, ◌∙◌}

pub returns-in-Place : goal.returns-in-Place
returns-in-Place g c =
    let bits = g.M.Op.Operation.bits in
    let t = c.args.t.now in
    let w = c.in-Place in
    words_set (contents bits g.M.Machine.means t) c.args.station w.at (change_by bits c.args.change) (bits w.word) (held bits c.put.new.items)
    (held_set bits t.words.now c.put.new.items w.at w.word c.put.ensures) (ap (change_by bits) w.is)

pub returns-in-First : goal.returns-in-First
returns-in-First g c =
    let bits = g.M.Op.Operation.bits in
    let t = c.args.t.now in
    let w = c.in-First in
    let after = c.put-in-First.new.items in
    votes_set (contents bits g.M.Machine.means t) c.args.station w.at (change_by bits c.args.change) (matrix_of w.matrix) (held matrix_of after)
    (held_set matrix_of t.votes.now after w.at w.matrix c.put-in-First.ensures) (ap (change_by bits) w.is)

pub returns-in-Second : goal.returns-in-Second
returns-in-Second g c =
    let bits = g.M.Op.Operation.bits in
    let t = c.args.t.now in
    let w = c.in-Second in
    let after = c.put-in-Second.new.items in
    commits_set (contents bits g.M.Machine.means t) c.args.station w.at (change_by bits c.args.change) (matrix_of w.matrix) (held matrix_of after)
    (held_set matrix_of t.commits.now after w.at w.matrix c.put-in-Second.ensures) (ap (change_by bits) w.is)

pub returns-in-Keep : goal.returns-in-Keep
returns-in-Keep g c =
    let bits = g.M.Op.Operation.bits in
    let t = c.args.t.now in
    let w = c.in-Keep in
    let after = c.put-in-Keep.new.items in
    kept_set (contents bits g.M.Machine.means t) c.args.station w.at (change_by bits c.args.change) (row_of w.row) (map row_of after)
    (ap (map row_of) c.put-in-Keep.ensures ∙ map-set row_of t.kept.now w.at w.row) (ap (change_by bits) w.is)
