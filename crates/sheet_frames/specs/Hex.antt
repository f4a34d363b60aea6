use Rattle.std.specs.Prelude.{ℕ, ◌+◌, cond, nat_lt}

-- The character of an upper-case hexadecimal digit: 0 to 9, then A to F.
abbrev pub digit_of : ℕ → ℕ
digit_of n = cond (nat_lt n 10) (48 + n) (55 + n)
