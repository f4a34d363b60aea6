use Rattle.std.specs.Prelude.{◌≡◌, ℕ, Some, None, Ok, Err, Option, Result}
use Rattle.model.specs.declared.fault.Fault.{Fault}

-- The answer of unpacking: an operation with these bits where they are not refused, else the fault that they are refused with.
abbrev pub Unpacked : {Op : Type 0} → (Op → ℕ) → (ℕ → Option Fault) → ℕ → Result Op Fault → Type 0
Unpacked bits refused packed (Ok u) = (refused packed ≡ None) × (bits u ≡ packed)
Unpacked bits refused packed (Err e) = refused packed ≡ Some e
