-- One change of the tables, table by table.
use Rattle.std.proofs.Common.{◌≡◌, ℕ, List, set, Some, Option, sym, ap, ◌∙◌}
use Rattle.delivery.specs.Deliveries.{Change, first, keep, place, second}
use Rattle.model.specs.Quorums.{held, meant}
use Rattle.runs.specs.Perform.{changed}
use Rattle.std.proofs.lemmas.List.{map-set}
use Rattle.tables.specs.Contents.{Contents}

-- A place that takes a word, by meaning.
pub held_set : {W V : Type 0} (g : W → V) (before after : List (Option W)) (at : ℕ) (w : W) → after ≡ set before at (Some w) → held g after ≡ set (held g before) at (Some (g w))
held_set g before after at w e = ap (held g) e ∙ map-set (meant g) before at (Some w)

module _ {Q : Type 0} (c : Contents Q) (i at : ℕ) (x : Change) where
  pub words_set : (u : ℕ) (words : List (Option ℕ)) → words ≡ set c.words at (Some u) → x ≡ place at u
      → record { wire = c.wire; words = words; votes = c.votes; commits = c.commits; kept = c.kept; executed = c.executed; machines = c.machines; counts = c.counts; accused = c.accused } ≡ changed c i x
  words_set u words w e =
      ap (λ ws. record { wire = c.wire; words = ws; votes = c.votes; commits = c.commits; kept = c.kept; executed = c.executed; machines = c.machines; counts = c.counts; accused = c.accused }) w
      ∙ ap (changed c i) (sym e)

  pub votes_set : (m : List ℕ) (votes : List (Option (List ℕ))) → votes ≡ set c.votes at (Some m) → x ≡ first at m
      → record { wire = c.wire; words = c.words; votes = votes; commits = c.commits; kept = c.kept; executed = c.executed; machines = c.machines; counts = c.counts; accused = c.accused } ≡ changed c i x
  votes_set m votes w e =
      ap (λ ws. record { wire = c.wire; words = c.words; votes = ws; commits = c.commits; kept = c.kept; executed = c.executed; machines = c.machines; counts = c.counts; accused = c.accused }) w
      ∙ ap (changed c i) (sym e)

  pub commits_set : (m : List ℕ) (commits : List (Option (List ℕ))) → commits ≡ set c.commits at (Some m) → x ≡ second at m
      → record { wire = c.wire; words = c.words; votes = c.votes; commits = commits; kept = c.kept; executed = c.executed; machines = c.machines; counts = c.counts; accused = c.accused } ≡ changed c i x
  commits_set m commits w e =
      ap (λ ws. record { wire = c.wire; words = c.words; votes = c.votes; commits = ws; kept = c.kept; executed = c.executed; machines = c.machines; counts = c.counts; accused = c.accused }) w
      ∙ ap (changed c i) (sym e)

  pub kept_set : (a : List ℕ) (kept : List (List ℕ)) → kept ≡ set c.kept at a → x ≡ keep at a
      → record { wire = c.wire; words = c.words; votes = c.votes; commits = c.commits; kept = kept; executed = c.executed; machines = c.machines; counts = c.counts; accused = c.accused } ≡ changed c i x
  kept_set a kept w e =
      ap (λ rs. record { wire = c.wire; words = c.words; votes = c.votes; commits = c.commits; kept = rs; executed = c.executed; machines = c.machines; counts = c.counts; accused = c.accused }) w
      ∙ ap (changed c i) (sym e)
