-- Tables cleared one after the other are those of an opened run.
use Rattle.std.proofs.Common.{◌≡◌, ℕ, List, Option}
use Rattle.tables.specs.Contents.{Contents, opened_on}
use Rattle.tables.specs.Plans.{Plan}
use Rattle.tables.specs.declared.tables.Counts.{Counts}

pub opens : {Q : Type 0} (p : Plan) (start : Q) (c : Contents Q)
    (words : List (Option ℕ)) (votes commits : List (Option (List ℕ))) (kept : List (List ℕ)) (machines : List Q) (counts : List Counts) (accused : List ℕ)
    → words ≡ (opened_on p start c).words → votes ≡ (opened_on p start c).votes → commits ≡ (opened_on p start c).commits
    → kept ≡ (opened_on p start c).kept → machines ≡ (opened_on p start c).machines → counts ≡ (opened_on p start c).counts → accused ≡ (opened_on p start c).accused
    → ◌≡◌ {A = Contents Q} (record { wire = c.wire; words = words; votes = votes; commits = commits; kept = kept; executed = c.executed; machines = machines; counts = counts; accused = accused })
    (opened_on p start c)
opens p start c words votes commits kept machines counts accused e1 e2 e3 e4 e5 e6 e7 = rw (e1, e2, e3, e4, e5, e6, e7)
