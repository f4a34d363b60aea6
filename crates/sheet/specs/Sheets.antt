use Rattle.std.specs.Prelude.{ℕ, Bool, cond, List, Some, None, Option, ◌==◌, nat_lt, slice_index}
use Rattle.gates.specs.Boards.{Board, means, moved_by, new_board, unfit, verdict}
use Rattle.calendar.specs.Calendar.{date_of}
use Rattle.canal.specs.GateOrders.{Order, order, packed, wrong}
use Rattle.gates.specs.declared.board.Gate.{Gate}
use Rattle.gates.specs.declared.board.Moment.{Moment}
use Rattle.lines.specs.Numbers.{numbers_of}
use Rattle.model.specs.Faults.{fault}
use Rattle.model.specs.declared.fault.Fault.{Fault}
use Rattle.model.specs.declared.fault.Reason.TheVariants.{OutOfRange}
use Rattle.sheet.specs.declared.reply.Entry.{Entry}
use Rattle.sheet.specs.declared.reply.Reply.{Reply}
use Rattle.sheet.specs.declared.reply.Reply.TheVariants as reply
use Rattle.sheet.specs.declared.reply.Sheet.{Sheet}
use Rattle.sheet.specs.declared.reply.Standing.{Standing}
use Rattle.std.specs.Option.{option_map}
use Rattle.std.specs.List.{slice_get}

-- What a line is answered with, and the board after it.
pub record Outcome : Type 0 where
  pub reply : Reply
  pub board : Option Board

abbrev pub outcome : Reply → Option Board → Outcome
outcome r b = record { reply = r; board = b }

abbrev pub board_of : Sheet → Option Board
board_of s = option_map means s.board

-- Why the numbers are no board's, if they are none: its gates, and 1 for a leap year or 0 for a common year.
abbrev pub unfitted : ℕ → ℕ → Option Fault
unfitted gates mark = cond (nat_lt 1 mark) (Some (fault OutOfRange 0)) (unfit gates)

-- A new board, unless the numbers are none's.
abbrev pub fitted : Option Board → ℕ → ℕ → Option Fault → Outcome
fitted before gates mark None = outcome (reply.Board gates (mark == 1)) (Some (new_board gates (mark == 1)))
fitted before gates mark (Some e) = outcome (reply.Refused e) before

abbrev pub on_board : Option Board → List ℕ → Outcome
on_board before ns = fitted before (slice_index ns 0) (slice_index ns 1) (unfitted (slice_index ns 0) (slice_index ns 1))

-- What is said of an order that is put to a board.
abbrev pub entry : Board → Order → Entry
entry b o =
    record { gate = o.gate; opening = o.opening; minute = o.minute; bits = packed o; date = date_of b.leap o.day; code = verdict b o }

-- The order is put to the board, unless there is none of these numbers.
abbrev pub put : Board → Order → Option Fault → Outcome
put b o None = outcome (reply.Done (entry b o)) (Some (moved_by b o))
put b o (Some e) = outcome (reply.Refused e) (Some b)

abbrev pub order_of : List ℕ → Order
order_of ns = order (slice_index ns 0) (slice_index ns 1) (slice_index ns 2) (slice_index ns 3) (slice_index ns 4)

-- The numbers of an order are its gate, opening, day, minute and number.
abbrev pub on_order : Board → Option (List ℕ) → Outcome
on_order b None = outcome reply.NoOrder (Some b)
on_order b (Some ns) = put b (order_of ns) (wrong (order_of ns))

-- A line that gives no board needs one.
abbrev pub on_other : Option Board → List ℕ → Outcome
on_other None text = outcome reply.NoBoard None
on_other (Some b) text = on_order b (numbers_of 5 text)

abbrev pub on_numbers : Option Board → List ℕ → Option (List ℕ) → Outcome
on_numbers before text None = on_other before text
on_numbers before text (Some ns) = on_board before ns

-- What a line does: two numbers give a new board, and five an order for the board that there is.
abbrev pub on_line : Option Board → List ℕ → Outcome
on_line before text = on_numbers before text (numbers_of 2 text)

-- A gate that has moved and is not closed, with the moment of its last moved order.
abbrev pub open_since : Bool → ℕ → ℕ → Option Moment → Option Standing
open_since leap number opening None = None
open_since leap number opening (Some m) =
    cond (opening == 0) None (Some (record { gate = number; opening = opening; date = date_of leap m.day; minute = m.minute }))

abbrev pub gate_open : Bool → ℕ → Option Gate → Option Standing
gate_open leap number None = None
gate_open leap number (Some gate) = open_since leap number gate.opening gate.last

-- The gate of this number, if it is fitted and stands open.
abbrev pub stands_open : Option Board → ℕ → Option Standing
stands_open None number = None
stands_open (Some b) number = gate_open b.leap number (slice_get b.gates number)
