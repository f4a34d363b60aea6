-- What a line of a sheet holds.
use Rattle.std.specs.Prelude.{ℕ, List, Some, None, Ok, Err, Option, Result, slice_index}
use Rattle.canal.specs.GateOrders.{Order, order, said, wrong}
use Rattle.lines.specs.Numbers.{numbers_of}
use Rattle.model.specs.declared.fault.Fault.{Fault}
use Rattle.sheet_frames.specs.declared.line.Submission.{Submission}

-- An order with the station that is to submit it, the refusal of numbers that make no order, or neither.
pub data Meant : Type 0 where
  ordered : (station : ℕ) (said : Order) → Meant
  refused : (fault : Fault) → Meant
  bad : Meant

abbrev pub meant_by : Option (Result Submission Fault) → Meant
meant_by (Some (Ok x)) = ordered x.station (said x.order)
meant_by (Some (Err e)) = refused e
meant_by None = bad

-- The order, unless there is none of its numbers.
abbrev pub unless : Option Fault → ℕ → Order → Meant
unless None station o = ordered station o
unless (Some e) station o = refused e

-- The numbers are the station's, and the order's gate, opening, day, minute and number.
abbrev pub order_of : List ℕ → Order
order_of ns = order (slice_index ns 1) (slice_index ns 2) (slice_index ns 3) (slice_index ns 4) (slice_index ns 5)

abbrev pub on_numbers : Option (List ℕ) → Meant
on_numbers None = bad
on_numbers (Some ns) = unless (wrong (order_of ns)) (slice_index ns 0) (order_of ns)

-- What a line holds: six numbers, or anything else.
abbrev pub line_of : List ℕ → Meant
line_of text = on_numbers (numbers_of 6 text)
