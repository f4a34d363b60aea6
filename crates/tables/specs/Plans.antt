-- The numbers of a run, and when tables will do for it.
use Rattle.std.specs.Prelude.{ℕ, ◌*◌, ◌^◌, ◌≤◌, min, Bool, ◌||◌, length, Ok, Result, count_ones, nat_le, nat_lt}
use Rattle.model.specs.Quorums.{stations}
use Rattle.model.specs.declared.fault.Fault.{Fault}
use Rattle.model.specs.declared.fault.Reason.TheVariants.{FaultBound, WatchLength, Leader, FaultySet, ShortTable}
use Rattle.tables.specs.Refusing.{refuse}
use Rattle.tables.specs.declared.numbers.Numbers.{Numbers}
use Rattle.tables.specs.declared.tables.Tables.{Tables}

-- f, the watch length, the leader, the set of the faulty stations, and how many places of the wire are used.
pub record Plan : Type 0 where
  pub faults : ℕ
  pub limit : ℕ
  pub leader : ℕ
  pub faulty : ℕ
  pub wire : ℕ

abbrev pub plan_of : Numbers → Plan
plan_of n = record { faults = n.watch.faults; limit = n.watch.limit; leader = n.leader; faulty = n.faulty; wire = n.wire }

-- How long the tables are.
pub record Lengths : Type 0 where
  pub wire : ℕ
  pub words : ℕ
  pub votes : ℕ
  pub commits : ℕ
  pub kept : ℕ
  pub executed : ℕ
  pub machines : ℕ
  pub counts : ℕ
  pub accused : ℕ

abbrev pub lengths_of : {Mach Op : Type 0} → Tables Mach Op → Lengths
lengths_of t =
    record {
      wire = length t.wire.now;
      words = length t.words.now;
      votes = length t.votes.now;
      commits = length t.commits.now;
      kept = length t.kept.now;
      executed = length t.executed.now;
      machines = length t.machines.now;
      counts = length t.counts.now;
      accused = length t.accused.now;
    }

-- How many places each table has, for N stations and a watch of length L.
abbrev pub word_places : ℕ → ℕ → ℕ
word_places n l = n * n * l * n

abbrev pub vote_places : ℕ → ℕ → ℕ
vote_places n l = n * l * n

abbrev pub entry_places : ℕ → ℕ → ℕ
entry_places n l = n * n * l

-- A table of places or entries is too short.
abbrev pub few_places : ℕ → ℕ → Lengths → Bool
few_places n l t =
    nat_lt t.words (word_places n l) || (nat_lt t.votes (vote_places n l) || (nat_lt t.commits (vote_places n l) || nat_lt t.executed (entry_places n l)))

-- The wire has fewer than w places, or a table with a part for each station is too short.
abbrev pub few_stations : ℕ → ℕ → Lengths → Bool
few_stations n w t = nat_lt t.wire w || (nat_lt t.kept (n * n) || (nat_lt t.machines n || (nat_lt t.counts n || nat_lt t.accused n)))

-- The tables are long enough: the same as orders of numbers.
pub record Places (n l : ℕ) (t : Lengths) : Type 0 where
  pub words : word_places n l ≤ t.words
  pub votes : vote_places n l ≤ t.votes
  pub commits : vote_places n l ≤ t.commits
  pub executed : entry_places n l ≤ t.executed

pub record Stations (n w : ℕ) (t : Lengths) : Type 0 where
  pub wire : w ≤ t.wire
  pub kept : n * n ≤ t.kept
  pub machines : n ≤ t.machines
  pub counts : n ≤ t.counts
  pub accused : n ≤ t.accused

-- A table is too short.
abbrev pub short : ℕ → ℕ → ℕ → Lengths → Bool
short n l w t = few_places n l t || few_stations n w t

abbrev pub outside : ℕ → ℕ → ℕ → Bool
outside low high x = nat_lt x low || nat_lt high x

-- The run that is fitted, or the first reason why none is.
abbrev pub fitted : ℕ → ℕ → ℕ → ℕ → Lengths → Result Plan Fault
fitted f l leader faulty t =
    refuse (outside 1 5 f) FaultBound
    (refuse (outside 1 63 l) WatchLength
    (refuse (nat_le (stations f) leader) Leader
    (refuse (nat_le (2 ^ stations f) faulty || nat_lt f (count_ones faulty)) FaultySet
    (refuse (short (stations f) l 1 t) ShortTable
    (Ok (record { faults = f; limit = l; leader = leader; faulty = faulty; wire = min t.wire 65535 }))))))
