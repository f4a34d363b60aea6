use Rattle.std.specs.Prelude.{ℕ, Bool, false, cond, not, ◌&&◌, ◌||◌, List, take, replicate, Some, None, Option, ◌==◌, nat_lt, slice_set}
use Rattle.canal.specs.GateOrders.{Order}
use Rattle.gates.specs.declared.board.Gate.{Gate}
use Rattle.gates.specs.declared.board.GateBoard.{GateBoard}
use Rattle.gates.specs.declared.board.GateCode.{GateCode}
use Rattle.gates.specs.declared.board.GateCode.TheVariants.{Moved, NotFitted, NoSuchDay, TooEarly}
use Rattle.gates.specs.declared.board.Moment.{Moment}
use Rattle.model.specs.Faults.{fault}
use Rattle.model.specs.declared.fault.Fault.{Fault}
use Rattle.model.specs.declared.fault.Reason.TheVariants.{OutOfRange}
use Rattle.std.specs.List.{slice_get}

-- A board: whether the year is a leap year, and its gates, each with its opening and the moment of its last moved order.
pub record Board : Type 0 where
  pub leap : Bool
  pub gates : List Gate

abbrev pub means : GateBoard → Board
means b = record { leap = b.leap; gates = take b.fitted b.gates }

-- A gate at 0 mm that has not moved.
abbrev pub closed : Gate
closed = record { opening = 0; last = None }

abbrev pub new_board : ℕ → Bool → Board
new_board gates leap = record { leap = leap; gates = replicate gates closed }

-- Why there is no board of so many gates, if there is none.
abbrev pub unfit : ℕ → Option Fault
unfit gates = cond (nat_lt gates 1 || nat_lt 40 gates) (Some (fault OutOfRange 0)) None

-- By the day, then by the minute.
abbrev pub earlier : Moment → Moment → Bool
earlier a b = nat_lt a.day b.day || (a.day == b.day && nat_lt a.minute b.minute)

abbrev pub moment : Order → Moment
moment o = record { day = o.day; minute = o.minute }

-- The order comes before the gate's last moved order.
abbrev pub late : Option Moment → Order → Bool
late None o = false
late (Some last) o = earlier (moment o) last

-- What is answered where the board has this gate, if any: the first that holds.
abbrev pub judged : Option Gate → Bool → Order → GateCode
judged None leap o = NotFitted
judged (Some gate) leap o = cond (o.day == 366 && not leap) NoSuchDay (cond (late gate.last o) TooEarly Moved)

-- What a board answers to an order.
abbrev pub verdict : Board → Order → GateCode
verdict b o = judged (slice_get b.gates o.gate) b.leap o

-- The gate takes the order's opening, day and minute.
abbrev pub moved : Board → Order → Board
moved b o = record { leap = b.leap; gates = slice_set b.gates o.gate (record { opening = o.opening; last = Some (moment o) }) }

-- All codes but Moved leave the board as it was.
abbrev pub answered : GateCode → Board → Order → Board
answered Moved b o = moved b o
answered NotFitted b o = b
answered NoSuchDay b o = b
answered TooEarly b o = b

-- What the board is after an order.
abbrev pub moved_by : Board → Order → Board
moved_by b o = answered (verdict b o) b o

abbrev pub number_of : GateCode → ℕ
number_of Moved = 0
number_of NotFitted = 1
number_of NoSuchDay = 2
number_of TooEarly = 3
