use Rattle.std.specs.Prelude.{ℕ, min, List, map}

-- The entries, each above the limit read as the limit.
abbrev pub capped_at : ℕ → List ℕ → List ℕ
capped_at limit es = map (λ x. min x limit) es
