use Rattle.std.proofs.Common.{◌≡◌, ◌*◌, ◌≤◌, length, map, ap, ap₂, ◌∙◌, subst, rules}
use Rattle.frames.specs.Said.{proposal}
use Rattle.frames.specs.Writing.{frame}
use Rattle.model.specs.Quorums.{stations}
use Rattle.sending.proofs.Decided.{propose_sent}
use Rattle.sending.proofs.proposing.to_propose.Goals as goal
use Rattle.std.proofs.lemmas.List.FromFn.{length-map-range_with_len}
use Rattle.tables.specs.Contents.{contents, frame_of}
use Rattle.tables.specs.Plans.{plan_of}
use Rattle.rows.specs.Values.{matrix_of, row_of}
use Rattle.sending.specs.Sends.{kept_rows}
use Rattle.tables.proofs.Readable.{ready_at}

pub proposal-requires : goal.proposal-requires
proposal-requires g c =
    let same : c.args.run.now.numbers ≡ c.in_ok-at.at.numbers = search rules in
    let q = c.in_ok-sequence.sequence in
    record {
      sequence = subst (λ n. (1 ≤ q) × (q ≤ n.watch.limit)) same c.in_ok-sequence.ensures.fits.1;
      side =
          ap length c.kept_rows-matrix.ensures ∙ length-map-range_with_len _ 0 (stations c.in_ok-at.at.numbers.watch.faults * stations c.in_ok-at.at.numbers.watch.faults);
    }

pub returns : goal.returns
returns g c =
    let p = plan_of c.args.run.now.numbers in
    let held = contents g.M.Op.Operation.bits g.M.Machine.means c.args.run.now.tables.now in
    let i = c.in_ok-at.at.index in
    let q = c.in_ok-sequence.sequence in
    let fits = c.in_ok-sequence.ensures.fits in
    let same : c.in_ok-at.at.numbers ≡ c.args.run.now.numbers = search rules in
    let lent : c.in_ok-at.at.tables.now ≡ c.args.run.now.tables.now = search rules in
    record {
      is =
          propose_sent p c.args.run.now.end c.args.run.now.last held c.args.station i q (frame_of c.proposal.result) (search rules)
          c.in_ok-sequence.ensures.is (c.proposal.ensures ∙ ap (λ n. frame (proposal i n.watch.faults q (matrix_of c.kept_rows-matrix.result))) same ∙ ap (λ m. frame (proposal i c.args.run.now.numbers.watch.faults q m)) (c.kept_rows-matrix.ensures ∙ ap₂ (λ n t. kept_rows (plan_of n) (map row_of t.kept.now) i) same lent));
      fits =
          record {
            ready = ready_at c.in_ok-at.at.numbers c.args.run.now.numbers c.in_ok-at.at.tables.now c.args.run.now.tables.now c.in_ok-at.at.index c.args.station (search rules) c.in_ok-at.at.ready;
            free = fits.0;
            number = fits.1.1;
          };
    }
