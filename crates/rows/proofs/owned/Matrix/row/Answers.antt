use Rattle.std.proofs.Common.{◌≡◌, ◌+◌, ◌-◌, ◌*◌, ◌≤◌, length, take, drop, sym, ap, ◌∙◌, arith}
use Rattle.rows.proofs.Cells.{length_front, row_whole, small_drop, small_front, small_take}
use Rattle.rows.proofs.owned.Matrix.row.Goals as goal
use Rattle.std.proofs.lemmas.List.{length-take, take_at}

pub invariant_of-result-2-clause-whole : goal.invariant_of-result-2-clause-whole
invariant_of-result-2-clause-whole c = length_front c.args.self.now.side 16 c.copy_from_slice.new.self c.copy_from_slice.auto.self

pub invariant_of-result-2-clause-small : goal.invariant_of-result-2-clause-small
invariant_of-result-2-clause-small c =
    let s = c.args.self.now.side in
    let m = c.args.self.now.entries in
    let from = c.args.i * s in
    let part = small_take ((c.args.i + 1) * s - from) (drop from m.cells) (small_drop from m.cells m.small) in
    rw c.copy_from_slice.ensures.after (small_front s 16 _ part)

pub returns : goal.returns
returns c =
    let s = c.args.self.now.side in
    let i = c.args.i in
    let cells = c.args.self.now.entries.cells in
    let same : (i + 1) * s - i * s ≡ s = omega arith in
    let few : s ≤ 16 = c.args.self.now.few in
    let long : length c.copy_from_slice.new.self ≡ s = c.copy_from_slice.auto.self ∙ simp length-take (omega arith) in
    take_at c.copy_from_slice.new.self _ s long ∙ c.copy_from_slice.ensures.after ∙ ap (λ n. take n (drop (i * s) cells)) same
    ∙ sym (row_whole s i cells c.if-i-side.false)
