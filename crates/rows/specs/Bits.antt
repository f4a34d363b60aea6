use Rattle.std.specs.Prelude.{ℕ, zero, suc, ◌+◌, ◌-◌, ◌*◌, ◌/◌, ◌%◌, ◌^◌, ◌<◌, List, map, slice_index}
use Rattle.std.specs.List.{range_with_len}

-- A list of digits of `a` bits each is a row of bits, the most significant bit of each digit first.
-- Bytes are digits of 8 bits, entries are digits of 6. Past the end every bit is 0.
abbrev pub bit : ℕ → List ℕ → ℕ → ℕ
bit a ds i = slice_index ds (i / a) / 2 ^ (a - 1 - i % a) % 2

-- The number in `width` bits from bit `at`.
unfoldable pub field_of : ℕ → List ℕ → ℕ → ℕ → ℕ
field_of a ds at zero = 0
field_of a ds at (suc width) = field_of a ds at width * 2 + bit a ds (at + width)

-- The first n digits of b bits of the same row of bits.
abbrev pub repacked : ℕ → ℕ → ℕ → List ℕ → List ℕ
repacked a b n ds = map (λ k. field_of a ds (b * k) b) (range_with_len 0 n)

-- The number in `width` bits of these bytes.
abbrev pub field : List ℕ → ℕ → ℕ → ℕ
field bytes at width = field_of 8 bytes at width

-- The first n entries of 6 bits in these bytes.
abbrev pub entries : List ℕ → ℕ → List ℕ
entries bytes n = repacked 8 6 n bytes

-- How many bytes hold n entries.
abbrev pub room : ℕ → ℕ
room n = (6 * n + 7) / 8

-- The bytes that hold these n entries, with zero bits after the last one.
abbrev pub packed : ℕ → List ℕ → List ℕ
packed n es = repacked 6 8 (room n) es

-- Each entry has 6 bits.
abbrev pub Small : List ℕ → Type 0
Small es = (k : ℕ) → slice_index es k < 64
