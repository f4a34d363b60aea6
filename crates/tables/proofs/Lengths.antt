-- The tables are as long as what they hold.
use Rattle.std.proofs.Common.{◌≡◌, ℕ}
use Rattle.std.proofs.lemmas.List.{length-map}
use Rattle.tables.specs.Contents.{contents}
use Rattle.tables.specs.Plans.{lengths_of}
use Rattle.tables.specs.Runs.{lengths_in}
use Rattle.tables.specs.declared.tables.Tables.{Tables}

pub same_lengths : {Mach Op Q : Type 0} (bits : Op → ℕ) (means : Mach → Q) (t : Tables Mach Op) → lengths_in (contents bits means t) ≡ lengths_of t
same_lengths bits means t = simp length-map
