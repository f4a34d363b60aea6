-- Entries that are given place by place.
use Rattle.std.proofs.Common.{◌≡◌, ℕ, ◌<◌, ◌≤◌, List, length, get_or, map, take, arith}
use Rattle.std.proofs.lemmas.List.{length-take-le}
use Rattle.std.proofs.lemmas.List.FromFn.{fill_by_all}
use Rattle.std.specs.List.{range_with_len}

pub gathers : (f : ℕ → ℕ) (n most count : ℕ) (cells : List ℕ) → count ≡ n → count ≤ most → length cells ≡ most → ((k : ℕ) → k < count → get_or (take count cells) k 0 ≡ f k)
    → take count cells ≡ map f (range_with_len 0 n)
gathers f n most count cells e few whole are =
    fill_by_all f (take count cells) n 0 (omega (arith, length-take-le count cells (omega arith))) (λ k low. are k (omega arith))
