use Rattle.std.specs.Prelude.{◌≡◌, ℕ, ◌+◌, ◌-◌, ◌*◌, ◌/◌, ◌%◌, ◌^◌, ◌<◌, Bool, cond, ◌||◌, List, [], ◌∷◌, map, Some, None, Ok, Err, Option, Result, ◌==◌, nat_lt}
use Rattle.canal.specs.declared.layout.Field.{Field}
use Rattle.model.specs.Faults.{fault}
use Rattle.model.specs.declared.fault.Fault.{Fault}
use Rattle.model.specs.declared.fault.Reason.TheVariants.{OtherTag, OutOfRange}

-- The number in the field's bits, the most significant of the 64 bits being bit 0.
abbrev pub content : Field → ℕ → ℕ
content f bits = bits / 2 ^ (64 - f.at - f.width) % 2 ^ f.width

-- The field may not hold this number.
abbrev pub outside : Field → ℕ → Bool
outside f v = nat_lt v f.least || nat_lt f.most v

-- The number, if the field may hold it; else the refusal, at the field's first bit.
abbrev pub ranged : Field → ℕ → Result ℕ Fault
ranged f v = cond (outside f v) (Err (fault OutOfRange f.at)) (Ok v)

-- The refusal of the first of the numbers that its field may not hold.
abbrev pub bad : List Field → List ℕ → Option Fault
bad [] vs = None
bad (f ∷ fs) [] = None
bad (f ∷ fs) (v ∷ vs) = cond (outside f v) (Some (fault OutOfRange f.at)) (bad fs vs)

-- The tag stands in the first two bits.
abbrev pub head : Field
head = record { at = 0; width = 2; least = 1; most = 2 }

-- The order's number stands in the last 24 bits, and may be any.
abbrev pub last : Field
last = record { at = 40; width = 24; least = 0; most = 16777215 }

-- The refusal of bits that are no operation of this tag and these fields: the tag first.
abbrev pub foreign : ℕ → List Field → ℕ → Option Fault
foreign tag fs bits = cond (content head bits == tag) (bad fs (map (λ f. content f bits) fs)) (Some (fault OtherTag 0))

-- The numbers of the fields, side by side behind what comes before them.
abbrev pub joined : ℕ → List Field → List ℕ → ℕ
joined before [] vs = before
joined before (f ∷ fs) [] = before
joined before (f ∷ fs) (v ∷ vs) = joined (before * 2 ^ f.width + v) fs vs

-- What a maker answers: a value with this meaning where nothing is wrong, else the refusal.
abbrev pub Made : {X V : Type 0} → (X → V) → Option Fault → V → Result X Fault → Type 0
Made means wrong v (Ok x) = (wrong ≡ None) × (means x ≡ v)
Made means wrong v (Err e) = wrong ≡ Some e

-- The bits are accepted, and say this.
abbrev pub Reads : {V : Type 0} → (ℕ → Option Fault) → (ℕ → V) → ℕ → V → Type 0
Reads refusal read bits v = (refusal bits ≡ None) × (read bits ≡ v)

-- No other bits of 64 say this.
abbrev pub Sole : {V : Type 0} → (ℕ → Option Fault) → (ℕ → V) → ℕ → V → Type 0
Sole refusal read bits v = (b : ℕ) → b < 2 ^ 64 → Reads refusal read b v → b ≡ bits

-- What the bits say, that no others say it, and that they are no operation of the other type.
pub record Unique {V : Type 0} (refusal other : ℕ → Option Fault) (read : ℕ → V) (bits : ℕ) (v : V) : Type 0 where
  pub reads : Reads refusal read bits v
  pub sole : Sole refusal read bits v
  pub apart : other bits ≡ Some (fault OtherTag 0)
