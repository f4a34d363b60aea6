use Rattle.std.specs.Prelude.{ℕ}
use Rattle.model.specs.declared.fault.Fault.{Fault}
use Rattle.model.specs.declared.fault.Layer.{Layer}
use Rattle.model.specs.declared.fault.Layer.TheVariants.{Operation, Frame, Run}
use Rattle.model.specs.declared.fault.Reason.{Reason}
use Rattle.model.specs.declared.fault.Reason.TheVariants.{FaultBound, WatchLength, Leader, FaultySet, ShortTable, NoStation, WrongStation, NotLeader, NumbersUsed, NoFrame, ShortFrame, FrameKind, FrameFaultBound, FrameSender, FrameSequence, FrameLength, FrameOrigin, FrameFilling, OtherTag, OutOfRange, SpokenName, SpokenExcess, SpokenRow, WrongSender, NoneOrdered, NoCertificate, WireFull, ShortBuffer}

-- The number by which the rules name a reason.
abbrev pub number_of : Reason → ℕ
number_of FaultBound = 1
number_of WatchLength = 2
number_of Leader = 3
number_of FaultySet = 4
number_of ShortTable = 5
number_of NoStation = 6
number_of WrongStation = 7
number_of NotLeader = 8
number_of NumbersUsed = 9
number_of NoFrame = 10
number_of ShortFrame = 11
number_of FrameKind = 12
number_of FrameFaultBound = 13
number_of FrameSender = 14
number_of FrameSequence = 15
number_of FrameLength = 16
number_of FrameOrigin = 17
number_of FrameFilling = 18
number_of OtherTag = 19
number_of OutOfRange = 20
number_of SpokenName = 21
number_of SpokenExcess = 22
number_of SpokenRow = 23
number_of WrongSender = 24
number_of NoneOrdered = 25
number_of NoCertificate = 26
number_of WireFull = 27
number_of ShortBuffer = 28

-- Reasons that lie in a frame, in an operation, and in a run.
abbrev pub layer_of : Reason → Layer
layer_of FaultBound = Run
layer_of WatchLength = Run
layer_of Leader = Run
layer_of FaultySet = Run
layer_of ShortTable = Run
layer_of NoStation = Run
layer_of WrongStation = Run
layer_of NotLeader = Run
layer_of NumbersUsed = Run
layer_of NoFrame = Run
layer_of ShortFrame = Frame
layer_of FrameKind = Frame
layer_of FrameFaultBound = Frame
layer_of FrameSender = Frame
layer_of FrameSequence = Frame
layer_of FrameLength = Frame
layer_of FrameOrigin = Frame
layer_of FrameFilling = Frame
layer_of OtherTag = Operation
layer_of OutOfRange = Operation
layer_of SpokenName = Run
layer_of SpokenExcess = Run
layer_of SpokenRow = Run
layer_of WrongSender = Run
layer_of NoneOrdered = Run
layer_of NoCertificate = Run
layer_of WireFull = Run
layer_of ShortBuffer = Run

abbrev pub fault : Reason → ℕ → Fault
fault reason place = record { reason = reason; place = place }
