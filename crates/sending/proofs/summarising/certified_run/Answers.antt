use Rattle.model.specs.Quorums.{stations}
use Rattle.sending.proofs.Running.{origin_within, run_at}
use Rattle.sending.proofs.summarising.certified_run.Goals as goal
use Rattle.tables.specs.Plans.{plan_of}
use Rattle.std.proofs.Common.{◌+◌, ◌-◌, ◌*◌, length, drop, arith}
use Rattle.std.proofs.lemmas.List.{length-drop, take_all}

pub offset_bounds-t-from : goal.offset_bounds-t-from
offset_bounds-t-from g c =
    let within =
    origin_within (stations c.args.at.now.numbers.watch.faults) c.stations-n.result c.args.at.now.numbers.watch.limit c.args.at.now.index c.args.origin c.stations-n.ensures
    c.args.at.now.ready.known c.requires in
    let long = c.args.at.now.ready.places.words in
    omega arith

pub slice_bounds-unbroken-count : goal.slice_bounds-unbroken-count
slice_bounds-unbroken-count g c =
    let within =
    origin_within (stations c.args.at.now.numbers.watch.faults) c.stations-n.result c.args.at.now.numbers.watch.limit c.args.at.now.index c.args.origin c.stations-n.ensures
    c.args.at.now.ready.known c.requires in
    let long = c.args.at.now.ready.places.words in
    omega arith

pub slice_bounds-unbroken-start : goal.slice_bounds-unbroken-start
slice_bounds-unbroken-start g c =
    let within =
    origin_within (stations c.args.at.now.numbers.watch.faults) c.stations-n.result c.args.at.now.numbers.watch.limit c.args.at.now.index c.args.origin c.stations-n.ensures
    c.args.at.now.ready.known c.requires in
    let long = c.args.at.now.ready.places.words in
    omega arith

pub returns-clause-is : goal.returns-clause-is
returns-clause-is g c =
    let words = c.args.at.now.tables.now.words.now in
    let from = (c.args.at.now.index * c.stations-n.result + c.args.origin) * c.args.at.now.numbers.watch.limit * c.stations-n.result in
    run_at g.M.Op.Word.means g.M.Op.Operation.bits g.met.M.Op.Operation.one g.met.M.Op.Operation.apart (plan_of c.args.at.now.numbers) words
    _ c.args.at.now.index c.args.origin c.stations-n.result c.unbroken.result c.stations-n.ensures
    (take_all (length words - from) (drop from words) (omega (arith, length-drop from words))) c.unbroken.ensures
