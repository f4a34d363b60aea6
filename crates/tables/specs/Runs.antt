-- A run: its numbers, where its wire ends, the leader's last number, and what its tables hold.
use Rattle.std.specs.Prelude.{ℕ, length}
use Rattle.tables.specs.Contents.{Contents, contents}
use Rattle.tables.specs.Plans.{Lengths, Plan, plan_of}
use Rattle.tables.specs.declared.numbers.Numbers.{Numbers}
use Rattle.tables.specs.declared.tables.Tables.{Tables}

pub record Run (Q : Type 0) : Type 0 where
  pub plan : Plan
  pub end : ℕ
  pub last : ℕ
  pub held : Contents Q

abbrev pub run : {Mach Op Q : Type 0} → (Op → ℕ) → (Mach → Q) → Numbers → ℕ → ℕ → Tables Mach Op → Run Q
run bits means n end last t = record { plan = plan_of n; end = end; last = last; held = contents bits means t }

-- How long the tables are, by what they hold.
abbrev pub lengths_in : {Q : Type 0} → Contents Q → Lengths
lengths_in c =
    record {
      wire = length c.wire;
      words = length c.words;
      votes = length c.votes;
      commits = length c.commits;
      kept = length c.kept;
      executed = length c.executed;
      machines = length c.machines;
      counts = length c.counts;
      accused = length c.accused;
    }
