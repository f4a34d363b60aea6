use Rattle.rows.proofs.Cells.{length_front, small_entries, small_front, small_same}
use Rattle.rows.proofs.owned.Entries.unpack.Goals as goal

pub invariant_of-result-clause-whole : goal.invariant_of-result-clause-whole
invariant_of-result-clause-whole g c = length_front c.min-count.result g.row.MOST c.unpack.new.to c.unpack.auto.to

pub invariant_of-result-clause-small : goal.invariant_of-result-clause-small
invariant_of-result-clause-small g c =
    small_front c.min-count.result g.row.MOST c.unpack.new.to (small_same c.unpack.new.to _ c.unpack.ensures (small_entries c.args.part.now _))
