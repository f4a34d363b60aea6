use Rattle.std.specs.Prelude.{ℕ, List, [], ◌∷◌, Option}
use Rattle.canal.specs.Layout.{bad, foreign, joined, last}
use Rattle.canal.specs.declared.gate_order.GateOrder.{GateOrder}
use Rattle.canal.specs.declared.layout.Field.{Field}
use Rattle.model.specs.declared.fault.Fault.{Fault}
use Rattle.canal.specs.Layout.{content}

-- What a gate order says: the gate, its opening in millimetres, the day of the year, the minute of the day, the order's number.
pub record Order : Type 0 where
  pub gate : ℕ
  pub opening : ℕ
  pub day : ℕ
  pub minute : ℕ
  pub number : ℕ

abbrev pub order : ℕ → ℕ → ℕ → ℕ → ℕ → Order
order gate opening day minute number = record { gate = gate; opening = opening; day = day; minute = minute; number = number }

abbrev pub said : GateOrder → Order
said u = order u.gate u.opening u.day u.minute u.number

abbrev pub gate_field : Field
gate_field = record { at = 2; width = 6; least = 0; most = 39 }

abbrev pub opening_field : Field
opening_field = record { at = 8; width = 12; least = 0; most = 4000 }

abbrev pub day_field : Field
day_field = record { at = 20; width = 9; least = 1; most = 366 }

abbrev pub minute_field : Field
minute_field = record { at = 29; width = 11; least = 0; most = 1439 }

-- The packed form: the tag 1, then these fields.
abbrev pub fields : List Field
fields = gate_field ∷ opening_field ∷ day_field ∷ minute_field ∷ last ∷ []

abbrev pub numbers : Order → List ℕ
numbers o = o.gate ∷ o.opening ∷ o.day ∷ o.minute ∷ o.number ∷ []

-- The 64 bits of an order.
abbrev pub packed : Order → ℕ
packed o = joined 1 fields (numbers o)

-- The order that bits say.
abbrev pub read : ℕ → Order
read bits = order (content gate_field bits) (content opening_field bits) (content day_field bits) (content minute_field bits) (content last bits)

-- Why no order has these numbers, if none has.
abbrev pub wrong : Order → Option Fault
wrong o = bad fields (numbers o)

-- Why bits are no order, if they are none.
abbrev pub refusal : ℕ → Option Fault
refusal bits = foreign 1 fields bits
