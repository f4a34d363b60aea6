-- Sets of stations as numbers: station j counts 2 ^ j.
use Rattle.std.specs.Prelude.{◌≡◌, ℕ, zero, suc, ◌+◌, ◌-◌, ◌/◌, ◌%◌, ◌^◌, ◌<◌, Bool, true, cond, ◌==◌, bit_or, nat_lt}

-- whether the set names station j
abbrev pub named : ℕ → ℕ → Bool
named set j = (set / 2 ^ j % 2) == 1

abbrev pub Names : ℕ → ℕ → Type 0
Names set j = named set j ≡ true

-- the set names only stations below n
abbrev pub Within : ℕ → ℕ → Type 0
Within n set = (j : ℕ) → Names set j → j < n

-- the set with station j, of the sixteen that there may be
abbrev pub joined : ℕ → ℕ → ℕ
joined set j = cond (nat_lt j 16) (bit_or set (2 ^ j)) set

-- the set without station j
abbrev pub parted : ℕ → ℕ → ℕ
parted set j = cond (named set j) (set - 2 ^ j) set

-- the set of the numbers below n that pass the test
abbrev pub gathered : ℕ → (ℕ → Bool) → ℕ
gathered zero test = 0
gathered (suc n) test = cond (test n) (2 ^ n) 0 + gathered n test
