use Rattle.std.specs.Prelude.{ℕ, List, [], ◌∷◌, Option}
use Rattle.canal.specs.Layout.{bad, content, foreign, joined, last}
use Rattle.canal.specs.declared.layout.Field.{Field}
use Rattle.canal.specs.declared.transfer.Transfer.{Transfer}
use Rattle.model.specs.declared.fault.Fault.{Fault}

-- What a transfer says: the source pound, the target pound, the volume in cubic metres, the order's number.
pub record Move : Type 0 where
  pub source : ℕ
  pub target : ℕ
  pub volume : ℕ
  pub number : ℕ

abbrev pub move : ℕ → ℕ → ℕ → ℕ → Move
move source target volume number = record { source = source; target = target; volume = volume; number = number }

abbrev pub said : Transfer → Move
said u = move u.source u.target u.volume u.number

abbrev pub source_field : Field
source_field = record { at = 2; width = 5; least = 0; most = 31 }

abbrev pub target_field : Field
target_field = record { at = 7; width = 5; least = 0; most = 31 }

abbrev pub volume_field : Field
volume_field = record { at = 12; width = 20; least = 1; most = 1000000 }

abbrev pub zero_field : Field
zero_field = record { at = 32; width = 8; least = 0; most = 0 }

-- The packed form: the tag 2, then these fields.
abbrev pub fields : List Field
fields = source_field ∷ target_field ∷ volume_field ∷ zero_field ∷ last ∷ []

abbrev pub numbers : Move → List ℕ
numbers m = m.source ∷ m.target ∷ m.volume ∷ 0 ∷ m.number ∷ []

-- The 64 bits of a transfer.
abbrev pub packed : Move → ℕ
packed m = joined 2 fields (numbers m)

-- The transfer that bits say.
abbrev pub read : ℕ → Move
read bits = move (content source_field bits) (content target_field bits) (content volume_field bits) (content last bits)

-- Why no transfer has these numbers, if none has.
abbrev pub wrong : Move → Option Fault
wrong m = bad fields (numbers m)

-- Why bits are no transfer, if they are none.
abbrev pub refusal : ℕ → Option Fault
refusal bits = foreign 2 fields bits
