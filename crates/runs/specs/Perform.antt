-- The calls on an open run: what each answers, and what it leaves.
use Rattle.std.specs.Prelude.{◌≡◌, ℕ, ◌+◌, List, [], ◌∷◌, length, Some, Ok, Err, Option, Result, slice_index, slice_index_or, slice_set}
use Rattle.delivery.specs.Deliveries.{Change, accuse, delivery, first, keep, nothing, place, second}
use Rattle.delivery.specs.Tellings.{Told, told}
use Rattle.delivery.specs.declared.outcome.Outcome.{Outcome}
use Rattle.model.specs.Sets.{joined}
use Rattle.model.specs.declared.fault.Fault.{Fault}
use Rattle.runs.specs.declared.life.Open.{Open}
use Rattle.runs.specs.declared.sent.Sent.{Sent}
use Rattle.sending.specs.Sends.{Out, to_propose, to_speak, to_submit, to_summarise}
use Rattle.tables.specs.Contents.{Contents, none}
use Rattle.tables.specs.Refusing.{seen_as}
use Rattle.tables.specs.Runs.{Run, run}
use Rattle.tables.specs.declared.tables.Counts.{Counts}
use Rattle.tables.specs.declared.tables.Tables.{Tables}

-- A call names a station. An operation stands as its packed form.
pub data Call : Type 0 where
  submits : (station operation : ℕ) → Call
  summarises : (station : ℕ) → Call
  proposes : (station : ℕ) → Call
  speaks : (station : ℕ) (bytes : List ℕ) → Call
  delivers : (station place : ℕ) → Call

-- The number and the place of what was sent, its place alone, or what a delivery answers.
pub data Answer : Type 0 where
  sent : (sequence place : ℕ) → Answer
  placed : (place : ℕ) → Answer
  took : (outcome : Outcome) → Answer

-- What an accepted call answers, and the run after it. A refused call leaves the run as it is.
pub record Done (Q : Type 0) : Type 0 where
  pub answer : Answer
  pub after : Run Q

-- The run with one more frame at the wire's end, with these counts and this last number of the leader.
abbrev pub sending : {Q : Type 0} → Run Q → List ℕ → List Counts → ℕ → Run Q
sending r bytes counts last =
    record {
      plan = r.plan;
      end = r.end + 1;
      last = last;
      held =
          record {
            wire = slice_set r.held.wire r.end bytes;
            words = r.held.words;
            votes = r.held.votes;
            commits = r.held.commits;
            kept = r.held.kept;
            executed = r.held.executed;
            machines = r.held.machines;
            counts = counts;
            accused = r.held.accused;
          };
    }

-- The counts after a station submitted its operation of this sequence.
abbrev pub counted_to : ℕ → ℕ → List Counts → List Counts
counted_to i q counts = slice_set counts i (record { submitted = q; executed = (slice_index_or counts i none).executed })

-- A request is sent and counted; a summary and what a faulty station says are only sent; a proposal's number is the leader's last.
abbrev pub submitted : {Q : Type 0} → Run Q → ℕ → Out → Done Q
submitted r i x = record { answer = sent x.sequence r.end; after = sending r x.frame (counted_to i x.sequence r.held.counts) r.last }

abbrev pub said : {Q : Type 0} → Run Q → List ℕ → Done Q
said r bytes = record { answer = placed r.end; after = sending r bytes r.held.counts r.last }

abbrev pub proposed : {Q : Type 0} → Run Q → Out → Done Q
proposed r x = record { answer = sent x.sequence r.end; after = sending r x.frame r.held.counts x.sequence }

-- ---- deliver

-- The tables with one change at station i: a place that takes a word, a kept row that is replaced, or an accusation set with one station more.
abbrev pub changed : {Q : Type 0} → Contents Q → ℕ → Change → Contents Q
changed c i nothing = c
changed c i (place at u) =
    record { wire = c.wire; words = slice_set c.words at (Some u); votes = c.votes; commits = c.commits; kept = c.kept; executed = c.executed; machines = c.machines; counts = c.counts; accused = c.accused }
changed c i (first at m) =
    record { wire = c.wire; words = c.words; votes = slice_set c.votes at (Some m); commits = c.commits; kept = c.kept; executed = c.executed; machines = c.machines; counts = c.counts; accused = c.accused }
changed c i (second at m) =
    record { wire = c.wire; words = c.words; votes = c.votes; commits = slice_set c.commits at (Some m); kept = c.kept; executed = c.executed; machines = c.machines; counts = c.counts; accused = c.accused }
changed c i (keep at a) =
    record { wire = c.wire; words = c.words; votes = c.votes; commits = c.commits; kept = slice_set c.kept at a; executed = c.executed; machines = c.machines; counts = c.counts; accused = c.accused }
changed c i (accuse j) =
    record {
      wire = c.wire;
      words = c.words;
      votes = c.votes;
      commits = c.commits;
      kept = c.kept;
      executed = c.executed;
      machines = c.machines;
      counts = c.counts;
      accused = slice_set c.accused i (joined (slice_index c.accused i) j);
    }

-- The wire with these frames from its end on.
abbrev pub posted : List (List ℕ) → ℕ → List (List ℕ) → List (List ℕ)
posted wire end [] = wire
posted wire end (bytes ∷ rest) = posted (slice_set wire end bytes) (end + 1) rest

-- The run after a delivery that changed the tables into these and sends these frames.
abbrev pub settled : {Q : Type 0} → Run Q → Contents Q → List (List ℕ) → Run Q
settled r c frames =
    record {
      plan = r.plan;
      end = r.end + length frames;
      last = r.last;
      held =
          record {
            wire = posted c.wire r.end frames;
            words = c.words;
            votes = c.votes;
            commits = c.commits;
            kept = c.kept;
            executed = c.executed;
            machines = c.machines;
            counts = c.counts;
            accused = c.accused;
          };
    }

-- A delivery makes its change and sends its frames.
abbrev pub delivered : {Q : Type 0} → Run Q → ℕ → Told → Done Q
delivered r i e = record { answer = took e.outcome; after = settled r (changed r.held i e.change) e.frames }

-- ---- all calls

-- What a call does, where `refused` says which packed forms the operations do not have.
abbrev pub perform : {Q : Type 0} → (ℕ → Option Fault) → Call → Run Q → Result (Done Q) Fault
perform refused (submits i u) r = seen_as (submitted r i) (to_submit r.plan r.end r.held i u)
perform refused (summarises i) r = seen_as (said r) (to_summarise r.plan r.end r.held i)
perform refused (proposes i) r = seen_as (proposed r) (to_propose r.plan r.end r.last r.held i)
perform refused (speaks i bytes) r = seen_as (said r) (to_speak refused r.plan r.end r.held i bytes)
perform refused (delivers i k) r = seen_as (delivered r i) (seen_as told (delivery refused r.plan r.end r.held i k))

-- ---- calls in code

-- The run that an open run and its tables are.
abbrev pub run_of : {Mach Op Q : Type 0} → (Op → ℕ) → (Mach → Q) → Open → Tables Mach Op → Run Q
run_of bits means o t = run bits means o.numbers o.end o.last t

abbrev pub sent_as : Sent → Answer
sent_as s = sent s.sequence s.place

-- A call did what was to be done: it gave r, by these answers, and found and left these runs.
abbrev pub Does : {Q X : Type 0} → (X → Answer) → Result (Done Q) Fault → Result X Fault → Run Q → Run Q → Type 0
Does answers done (Ok x) before after = done ≡ Ok (record { answer = answers x; after = after })
Does answers done (Err e) before after = (done ≡ Err e) × (after ≡ before)
