use Rattle.frames.specs.Said.{request}
use Rattle.frames.specs.Writing.{frame}
use Rattle.sending.proofs.Decided.{submit_sent}
use Rattle.sending.proofs.submitting.to_submit.Goals as goal
use Rattle.tables.specs.Contents.{contents, frame_of}
use Rattle.tables.specs.Plans.{plan_of}
use Rattle.tables.proofs.Readable.{ready_at}
use Rattle.std.proofs.Common.{◌≡◌, ◌≤◌, ap, ◌∙◌, subst, rules}

pub returns : goal.returns
returns g c =
    let p = plan_of c.args.run.now.numbers in
    let held = contents g.M.Op.Operation.bits g.M.Machine.means c.args.run.now.tables.now in
    let i = c.in_ok-at.at.index in
    let q = c.in_ok-sequence.sequence in
    let fits = c.in_ok-sequence.ensures.fits in
    let same : c.in_ok-at.at.numbers ≡ c.args.run.now.numbers = search rules in
    record {
      is =
          submit_sent p c.args.run.now.end held c.args.station i q (g.M.Op.Operation.bits c.args.u.now) (frame_of c.request.result) (search rules)
          c.in_ok-sequence.ensures.is (c.request.ensures ∙ ap (λ n. frame (request i n.watch.faults q c.pack.result)) same ∙ ap (λ u. frame (request i c.args.run.now.numbers.watch.faults q u)) c.pack.ensures);
      fits =
          record {
            ready = ready_at c.in_ok-at.at.numbers c.args.run.now.numbers c.in_ok-at.at.tables.now c.args.run.now.tables.now c.in_ok-at.at.index c.args.station (search rules) c.in_ok-at.at.ready;
            free = fits.0;
            number = fits.1.1;
          };
    }

pub request-requires : goal.request-requires
request-requires g c =
    let same : c.args.run.now.numbers ≡ c.in_ok-at.at.numbers = search rules in
    let q = c.in_ok-sequence.sequence in
    subst (λ n. (1 ≤ q) × (q ≤ n.watch.limit)) same c.in_ok-sequence.ensures.fits.1
