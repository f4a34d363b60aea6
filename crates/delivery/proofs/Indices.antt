-- The places of a number lie within their table.
use Rattle.std.proofs.Common.{◌≡◌, ℕ, ◌+◌, ◌-◌, ◌*◌, ◌<◌, ◌≤◌, sym, subst, arith}
use Rattle.std.proofs.lemmas.Nat.{mul-add-lt}

pub number_fits : (n r : ℕ) → r ≡ n → 0 < n → n ≤ 16 → (row rows l s : ℕ) → row < rows → 1 ≤ s → s ≤ l → (row * l + (s - 1)) * r + n ≤ rows * l * n
number_fits n r all some few row rows l s h low high =
    let before = mul-add-lt row l (s - 1) rows h (omega arith) in
    let most = mul-add-lt (row * l + (s - 1)) n (n - 1) (rows * l) (omega arith) (omega arith) in
    subst (λ k. (row * l + (s - 1)) * k + n ≤ rows * l * n) (sym all) (omega arith)
