-- How a client shows that its run has a past: one line for each call.
use Rattle.std.proofs.Common.{◌≡◌, ℕ, [], Ok, Err, Option, Result, sym, ap, ◌∙◌, subst}
use Rattle.model.specs.Quorums.{stations}
use Rattle.model.specs.declared.fault.Fault.{Fault}
use Rattle.runs.specs.Opening.{Opens}
use Rattle.runs.specs.Pasts.{HasPast, Past, called, ended, is_closed, is_open, left_by, logged, opened}
use Rattle.runs.specs.Perform.{Answer, Call, Does, Done, perform}
use Rattle.runs.specs.declared.life.Open.{Open}
use Rattle.tables.specs.Contents.{Contents}
use Rattle.tables.specs.Plans.{Lengths, Plan, fitted, plan_of, short}
use Rattle.tables.specs.Runs.{Run, lengths_in}

left : {Q X : Type 0} (answers : X → Answer) (done : Result (Done Q) Fault) (x : Result X Fault) (r r' : Run Q) → Does answers done x r r' → left_by done r ≡ r'
left answers done (Ok x) r r' e = ap (λ d. left_by d r) e
left answers done (Err x) r r' (e, same) = ap (λ d. left_by d r) e ∙ sym same

module _ {Q : Type 0} {refused : ℕ → Option Fault} {start : Q} where
  -- A run that was fitted and opened has a past.
  pub begin : (f limit leader faulty : ℕ) (t t' : Lengths) (p : Plan) (before after : Contents Q) (o : Open) → Ok p ≡ fitted f limit leader faulty t
      → lengths_in before ≡ t' → Opens p start t' before (Ok o) after
      → HasPast refused start is_open (record { plan = plan_of o.numbers; end = o.end; last = o.last; held = after })
  begin f limit leader faulty t t' p before after o fits long (room, plan, end, last, held) =
      ([], rw (plan, end, last, held) (opened f limit leader faulty t p before (sym fits) (ap (short (stations p.faults) p.limit p.wire) long ∙ room)))

  -- A run with a past has one after a call.
  pub extend : {X : Type 0} (call : Call) (answers : X → Answer) (x : Result X Fault) (r r' : Run Q) → Does answers (perform refused call r) x r r'
      → HasPast refused start is_open r → HasPast refused start is_open r'
  extend call answers x r r' does (log, past) =
      let log' = logged call (perform refused call r) log in
      (log', subst (λ r. Past refused start is_open r log') (left answers (perform refused call r) x r r' does) (called call past))

  -- And after a close.
  pub finish : (r : Run Q) (p : Plan) (end last : ℕ) → p ≡ r.plan → end ≡ r.end → last ≡ r.last → HasPast refused start is_open r
      → HasPast refused start is_closed (record { plan = p; end = end; last = last; held = r.held })
  finish r p end last a b c (log, past) = (log, rw (a, b, c) (ended past))
