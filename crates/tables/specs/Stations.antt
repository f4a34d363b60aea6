-- Which stations a call is for.
use Rattle.std.specs.Prelude.{ℕ, ◌<◌, Bool, not, Ok, Result, nat_le}
use Rattle.model.specs.Quorums.{stations}
use Rattle.model.specs.Sets.{named}
use Rattle.model.specs.declared.fault.Fault.{Fault}
use Rattle.model.specs.declared.fault.Reason.TheVariants.{ShortTable, NoStation, WrongStation}
use Rattle.tables.specs.Plans.{Lengths, Places, Plan, Stations, short}
use Rattle.tables.specs.Refusing.{refuse}

-- The station i: a table is too short, or there is no such station.
abbrev pub known_in : Plan → Lengths → ℕ → Result ℕ Fault
known_in p t i =
    refuse (short (stations p.faults) p.limit p.wire t) ShortTable
    (refuse (nat_le (stations p.faults) i) NoStation
    (Ok i))

-- The station i, where this says whether it is of the wrong kind: a table is too short, there is no such station, or it is wrong.
abbrev pub station_in : Plan → Lengths → ℕ → Bool → Result ℕ Fault
station_in p t i wrong =
    refuse (short (stations p.faults) p.limit p.wire t) ShortTable
    (refuse (nat_le (stations p.faults) i) NoStation
    (refuse wrong WrongStation
    (Ok i)))

-- Most calls are for correct stations, one is for faulty ones.
abbrev pub correct_in : Plan → Lengths → ℕ → Result ℕ Fault
correct_in p t i = station_in p t i (named p.faulty i)

abbrev pub faulty_in : Plan → Lengths → ℕ → Result ℕ Fault
faulty_in p t i = station_in p t i (not (named p.faulty i))

-- A station of the run, and tables that are long enough for the run.
pub record Ready (p : Plan) (t : Lengths) (i : ℕ) : Type 0 where
  pub places : Places (stations p.faults) p.limit t
  pub rest : Stations (stations p.faults) p.wire t
  pub known : i < stations p.faults
