-- What the tables of a run hold, by meaning.
use Rattle.std.specs.Prelude.{◌≡◌, ℕ, ◌*◌, true, false, List, map, take, replicate, None, Ok, Err, Option, Result}
use Rattle.model.specs.Faults.{fault}
use Rattle.model.specs.Quorums.{held, stations}
use Rattle.model.specs.declared.fault.Fault.{Fault}
use Rattle.model.specs.declared.fault.Reason.TheVariants.{ShortTable}
use Rattle.tables.specs.Cleared.{front}
use Rattle.tables.specs.Plans.{Lengths, Plan, short, vote_places, word_places}
use Rattle.tables.specs.declared.tables.Counts.{Counts}
use Rattle.tables.specs.declared.tables.Entry.{Entry}
use Rattle.tables.specs.declared.tables.Slot.{Slot}
use Rattle.tables.specs.declared.tables.Tables.{Tables}
use Rattle.rows.specs.Values.{matrix_of, row_of}
use Rattle.std.specs.Option.{option_map}

-- An executed operation: its origin, its sequence and its packed form.
pub record Done : Type 0 where
  pub origin : ℕ
  pub sequence : ℕ
  pub operation : ℕ

-- The wire's frames as bytes; words as packed forms, matrices and rows as their entries; the states of the machines.
pub record Contents (Q : Type 0) : Type 0 where
  pub wire : List (List ℕ)
  pub words : List (Option ℕ)
  pub votes : List (Option (List ℕ))
  pub commits : List (Option (List ℕ))
  pub kept : List (List ℕ)
  pub executed : List (Option Done)
  pub machines : List Q
  pub counts : List Counts
  pub accused : List ℕ

abbrev pub frame_of : Slot → List ℕ
frame_of s = take s.len s.bytes

abbrev pub done_of : {Op : Type 0} → (Op → ℕ) → Entry Op → Done
done_of bits e = record { origin = e.origin; sequence = e.sequence; operation = bits e.operation }

abbrev pub contents : {Mach Op Q : Type 0} → (Op → ℕ) → (Mach → Q) → Tables Mach Op → Contents Q
contents bits means t =
    record {
      wire = map frame_of t.wire.now;
      words = held bits t.words.now;
      votes = held matrix_of t.votes.now;
      commits = held matrix_of t.commits.now;
      kept = map row_of t.kept.now;
      executed = map (option_map (done_of bits)) t.executed.now;
      machines = map means t.machines.now;
      counts = t.counts.now;
      accused = t.accused.now;
    }

-- No operation submitted, none executed.
abbrev pub none : Counts
none = record { submitted = 0; executed = 0 }

-- What the tables hold when a run of these numbers is opened: each station has a copy of the starting machine, and all but the wire
-- and the executed entries is cleared. What lies behind the places of the run stays.
abbrev pub opened_on : {Q : Type 0} → Plan → Q → Contents Q → Contents Q
opened_on p start c =
    let n = stations p.faults in
    let l = p.limit in
    record {
      wire = c.wire;
      words = front (word_places n l) None c.words;
      votes = front (vote_places n l) None c.votes;
      commits = front (vote_places n l) None c.commits;
      kept = front (n * n) (replicate n 0) c.kept;
      executed = c.executed;
      machines = front n start c.machines;
      counts = front n none c.counts;
      accused = front n 0 c.accused;
    }

-- Tables are laid for a run, or, where one is too short, nothing has changed.
abbrev pub Lays : {Q X : Type 0} → Plan → Q → Lengths → Contents Q → Result X Fault → Contents Q → Type 0
Lays p start t before (Ok x) after = (short (stations p.faults) p.limit p.wire t ≡ false) × (after ≡ opened_on p start before)
Lays p start t before (Err e) after = (short (stations p.faults) p.limit p.wire t ≡ true) × (e ≡ fault ShortTable 0) × (after ≡ before)
