-- Frames as the places of the wire hold them.
use Rattle.std.specs.Prelude.{ℕ, List, [], Some, None, Option}
use Rattle.frames.specs.Said.{Said}
use Rattle.frames.specs.Writing.{frame, unfit}
use Rattle.model.specs.declared.fault.Fault.{Fault}

abbrev pub framed_if : Option Fault → List ℕ → List ℕ
framed_if None bytes = bytes
framed_if (Some e) bytes = []

-- The frame that says this, and nothing where none does.
abbrev pub framed : Said → List ℕ
framed s = framed_if (unfit s) (frame s)
