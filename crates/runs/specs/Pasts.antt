-- The past of a run: it was fitted and opened, then underwent calls, each of which left its tables to the next, and perhaps a close.
use Rattle.std.specs.Prelude.{◌≡◌, ℕ, false, List, [], ◌∷◌, ◌++◌, Ok, Err, Option, Result}
use Rattle.model.specs.Quorums.{stations}
use Rattle.model.specs.declared.fault.Fault.{Fault}
use Rattle.runs.specs.Perform.{Answer, Call, Done, perform}
use Rattle.runs.specs.declared.life.Closed.{Closed}
use Rattle.tables.specs.Contents.{Contents, opened_on}
use Rattle.tables.specs.Plans.{Lengths, Plan, fitted, short}
use Rattle.tables.specs.Runs.{Run, lengths_in, run}
use Rattle.tables.specs.declared.tables.Tables.{Tables}

-- An accepted call and its answer.
pub record Entry : Type 0 where
  pub call : Call
  pub answer : Answer

-- All accepted calls since the run was opened, the oldest first.
abbrev pub Log : Type 0
Log = List Entry

-- The run that a call leaves: a refused call leaves it as it is.
abbrev pub left_by : {Q : Type 0} → Result (Done Q) Fault → Run Q → Run Q
left_by (Ok done) r = done.after
left_by (Err e) r = r

-- The log with the call, if it was accepted.
abbrev pub logged : {Q : Type 0} → Call → Result (Done Q) Fault → Log → Log
logged call (Ok done) log = log ++ (record { call = call; answer = done.answer } ∷ [])
logged call (Err e) log = log

pub data Life : Type 0 where
  is_open : Life
  is_closed : Life

-- This run has this past, from a starting state, over operations of which `refused` says which packed forms they do not have.
pub data Past {Q : Type 0} (refused : ℕ → Option Fault) (start : Q) : Life → Run Q → Log → Type 0 where
  opened : (f limit leader faulty : ℕ) (t : Lengths) (p : Plan) (c : Contents Q) → fitted f limit leader faulty t ≡ Ok p
      → short (stations p.faults) p.limit p.wire (lengths_in c) ≡ false
      → Past refused start is_open (record { plan = p; end = 0; last = 0; held = opened_on p start c }) []
  called : {r : Run Q} {log : Log} (call : Call) → Past refused start is_open r log
      → Past refused start is_open (left_by (perform refused call r) r) (logged call (perform refused call r) log)
  ended : {r : Run Q} {log : Log} → Past refused start is_open r log → Past refused start is_closed r log

-- This run has a past.
abbrev pub HasPast : {Q : Type 0} → (ℕ → Option Fault) → Q → Life → Run Q → Type 0
HasPast refused start life r = (log : Log) × Past refused start life r log

-- The run that a closed run and its tables are.
abbrev pub closed_run : {Mach Op Q : Type 0} → (Op → ℕ) → (Mach → Q) → Closed → Tables Mach Op → Run Q
closed_run bits means o t = run bits means o.numbers o.end o.last t

-- The second run has a past where the first has one.
abbrev pub Continues : {Q : Type 0} → (ℕ → Option Fault) → Run Q → Run Q → Type 0
Continues {Q} refused before after = (start : Q) → HasPast refused start is_open before → HasPast refused start is_open after
