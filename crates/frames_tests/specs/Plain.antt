use Rattle.std.specs.Prelude.{ℕ, ◌/◌, ◌%◌, cond, Some, None, Option, ◌==◌, nat_lt}
use Rattle.model.specs.Faults.{fault}
use Rattle.model.specs.declared.fault.Fault.{Fault}
use Rattle.model.specs.declared.fault.Reason.TheVariants.{OtherTag, OutOfRange}

-- The first two bits are 01, and the next six are below 40.
abbrev pub plain_fault : ℕ → Option Fault
plain_fault p =
    cond (p / 4611686018427387904 == 1) (cond (nat_lt (p / 72057594037927936 % 64) 40) None (Some (fault OutOfRange 2))) (Some (fault OtherTag 0))
