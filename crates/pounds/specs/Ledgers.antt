use Rattle.std.specs.Prelude.{◌≡◌, ℕ, ◌+◌, ◌-◌, cond, ◌||◌, List, map, take, Some, None, Ok, Err, sum_by, Option, Result, ◌==◌, nat_lt, slice_index_or, slice_set}
use Rattle.canal.specs.Transfers.{Move}
use Rattle.pounds.specs.declared.ledger.Booking.{Booking}
use Rattle.pounds.specs.declared.ledger.Pound.{Pound}
use Rattle.pounds.specs.declared.ledger.PoundCode.{PoundCode}
use Rattle.pounds.specs.declared.ledger.PoundCode.TheVariants.{Moved, NotFitted, SamePound, TooLittle, TooMuch}
use Rattle.pounds.specs.declared.ledger.PoundLedger.{PoundLedger}
use Rattle.model.specs.Faults.{fault}
use Rattle.model.specs.declared.fault.Fault.{Fault}
use Rattle.model.specs.declared.fault.Reason.TheVariants.{OutOfRange}
use Rattle.std.specs.List.{slice_get}

-- A pound: the water that it holds, and the most that it can hold, in cubic metres.
pub record Level : Type 0 where
  pub volume : ℕ
  pub capacity : ℕ

abbrev pub level : ℕ → ℕ → Level
level volume capacity = record { volume = volume; capacity = capacity }

abbrev pub level_of : Pound → Level
level_of p = level p.volume p.capacity

-- A ledger is the list of its pounds.
abbrev pub means : PoundLedger → List Level
means l = map level_of (take l.fitted l.pounds)

-- Why there is no such pound, if there is none.
abbrev pub fits : ℕ → ℕ → Option Fault
fits volume capacity = cond (nat_lt 1000000 capacity || nat_lt capacity volume) (Some (fault OutOfRange 0)) None

-- Why there is no ledger of so many pounds, if there is none.
abbrev pub few : ℕ → Option Fault
few pounds = cond (nat_lt pounds 1 || nat_lt 32 pounds) (Some (fault OutOfRange 0)) None

-- What is answered where these are the source and the target, if any: the first that holds.
abbrev pub judged : Option Level → Option Level → Move → PoundCode
judged None target m = NotFitted
judged (Some source) None m = NotFitted
judged (Some source) (Some target) m =
    cond (m.source == m.target) SamePound
    (cond (nat_lt source.volume m.volume) TooLittle
    (cond (nat_lt target.capacity (target.volume + m.volume)) TooMuch Moved))

-- What a ledger answers to a transfer.
abbrev pub verdict : List Level → Move → PoundCode
verdict ps m = judged (slice_get ps m.source) (slice_get ps m.target) m

abbrev pub at : List Level → ℕ → Level
at ps i = slice_index_or ps i (level 0 0)

abbrev pub lowered : Level → ℕ → Level
lowered p v = level (p.volume - v) p.capacity

abbrev pub raised : Level → ℕ → Level
raised p v = level (p.volume + v) p.capacity

-- All codes but Moved leave the ledger as it was.
abbrev pub answered : PoundCode → List Level → Move → List Level
answered Moved ps m = slice_set (slice_set ps m.source (lowered (at ps m.source) m.volume)) m.target (raised (at ps m.target) m.volume)
answered NotFitted ps m = ps
answered SamePound ps m = ps
answered TooLittle ps m = ps
answered TooMuch ps m = ps

-- What the ledger is after a transfer.
abbrev pub moved_by : List Level → Move → List Level
moved_by ps m = answered (verdict ps m) ps m

-- What is settled before anything is written: the source and the target as they will be, or why nothing moves.
abbrev pub Booked : List Level → Move → Result Booking PoundCode → Type 0
Booked ps m (Ok b) = (verdict ps m ≡ Moved) × (level_of b.source ≡ lowered (at ps m.source) m.volume) × (level_of b.target ≡ raised (at ps m.target) m.volume)
Booked ps m (Err code) = (verdict ps m ≡ code) × (answered code ps m ≡ ps)

-- All the water.
abbrev pub total : List Level → ℕ
total ps = sum_by (λ p. p.volume) ps

abbrev pub number_of : PoundCode → ℕ
number_of Moved = 0
number_of NotFitted = 1
number_of SamePound = 2
number_of TooLittle = 3
number_of TooMuch = 4
