use Rattle.std.proofs.Common.{◌≡◌, ◌*◌, length, sym, ap, ◌∙◌, ⊎_elim, arith}
use Rattle.frames.proofs.Sending.{fills}
use Rattle.frames.proofs.kind.Message.fill.Goals as goal
use Rattle.frames.specs.Views.{said_by}
use Rattle.frames.specs.Writing.{body_of}
use Rattle.frames.specs.declared.kind.Message.{Message}
use Rattle.rows.proofs.Cells.{square_fits}
use Rattle.rows.specs.Bits.{packed}
use Rattle.rows.specs.Values.{matrix_of, row_of}
use Rattle.std.proofs.lemmas.List.{length-take}

pub returns-in-Summary-clause-body : goal.returns-in-Summary-clause-body
returns-in-Summary-clause-body c =
    let f = c.args.header.faults in
    let r = c.in-Summary.row in
    let few = r.few in
    let whole = r.whole in
    let long : length (row_of r) ≡ r.count = simp length-take (omega arith) in
    fills (row_of r) c.args.to.now c.pack.new.to r.count c.pack.result long (c.requires.long ∙ ap (λ m. length (body_of (said_by 0 f m))) c.in-Summary.is) c.pack.ensures.answer c.pack.ensures.means
    ∙ sym (ap (λ m. body_of (said_by 0 f m)) c.in-Summary.is)

pub returns-in-Proposal-clause-body : goal.returns-in-Proposal-clause-body
returns-in-Proposal-clause-body c =
    let f = c.args.header.faults in
    let m = c.in-Proposal.matrix in
    let few = square_fits m.side m.few in
    let whole = m.entries.whole in
    let long : length (matrix_of m) ≡ m.side * m.side = simp length-take (omega arith) in
    let body = λ (m : Message). body_of (said_by 0 f m) in
    let e : body c.args.self.now ≡ packed (length (matrix_of m)) (matrix_of m) =
    ⊎_elim (λ p. ap body p.1) (λ r. ⊎_elim (λ p. ap body p.1) (λ p. ap body p.1) r) c.in-Proposal.is in
    fills (matrix_of m) c.args.to.now c.pack-in-Proposal.new.to (m.side * m.side) c.pack-in-Proposal.result long (c.requires.long ∙ ap length e) c.pack-in-Proposal.ensures.answer c.pack-in-Proposal.ensures.means
    ∙ sym e
