use Rattle.std.specs.Prelude.{◌≡◌, ℕ, List, Some, None, Ok, Err, Option, Result}
use Rattle.frames.specs.Meaning.{meaning}
use Rattle.frames.specs.Said.{Said, request, ack, summary, proposal, prepare, commit}
use Rattle.frames.specs.Views.{said_of}
use Rattle.frames_tool.specs.declared.told.Report.{Report}
use Rattle.model.specs.declared.fault.Fault.{Fault}
use Rattle.std.specs.Option.{option_map}

-- The packed operation that a frame carries, if it does.
abbrev pub operation_in : Said → Option ℕ
operation_in (request s f q u) = Some u
operation_in (ack s f q o u) = Some u
operation_in (summary s f row) = None
operation_in (proposal s f q m) = None
operation_in (prepare s f q m) = None
operation_in (commit s f q m) = None

abbrev pub kept : Option Fault → ℕ → Option ℕ
kept None u = Some u
kept (Some e) u = None

-- The operation, unless it is refused.
abbrev pub accepted : (ℕ → Option Fault) → Option ℕ → Option ℕ
accepted refused None = None
accepted refused (Some u) = kept (refused u) u

-- What is told of bytes: what they mean, with the operation, or the fault.
abbrev pub Tells : {O : Type 0} → (O → ℕ) → (ℕ → Option Fault) → List ℕ → Result (Report O) Fault → Type 0
Tells bits refused bytes (Ok r) = (meaning refused bytes ≡ Ok (said_of r.frame)) × (option_map bits r.operation ≡ accepted refused (operation_in (said_of r.frame)))
Tells bits refused bytes (Err e) = meaning refused bytes ≡ Err e
