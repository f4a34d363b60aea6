use Rattle.std.specs.Prelude.{ℕ, zero, suc, ◌+◌, ◌-◌, ◌*◌, Bool, true, false, cond, not, ◌&&◌, ◌||◌, List, [], ◌∷◌, length, take, drop, Some, None, fold, Option, ◌==◌, nat_le, nat_lt, slice_index}
use Rattle.std.specs.Option.{option_map}
use Rattle.std.specs.List.{prefix_len}

-- The bytes of the digits 0 to 9.
abbrev pub digit : ℕ → Bool
digit b = nat_le 48 b && nat_le b 57

-- The number that digits write.
abbrev pub decimal : List ℕ → ℕ
decimal digits = fold (λ n b. n * 10 + (b - 48)) 0 digits

-- The number that a text begins with, as far as its digits go, and what follows it; none where it begins with no digit, or
-- with more than nine.
abbrev pub number_at : List ℕ → Option (ℕ × List ℕ)
number_at text =
    cond (nat_lt (prefix_len digit text) 1 || nat_lt 9 (prefix_len digit text)) None (Some (decimal (take (prefix_len digit text) text), drop (prefix_len digit text) text))

-- The same after a single space.
abbrev pub spaced_at : List ℕ → Option (ℕ × List ℕ)
spaced_at text = cond (slice_index text 0 == 32) (number_at (drop 1 text)) None

-- The first number of a line, or another one.
abbrev pub field_at : Bool → List ℕ → Option (ℕ × List ℕ)
field_at first text = cond first (number_at text) (spaced_at text)

abbrev pub more : Option (ℕ × List ℕ) → (List ℕ → Option (List ℕ)) → Option (List ℕ)
more None next = None
more (Some found) next = option_map (λ others. found.0 ∷ others) (next found.1)

-- That nothing follows.
abbrev pub end : List ℕ → Option (List ℕ)
end [] = Some []
end (b ∷ text) = None

-- The last k numbers of a line, where the first of them is the line's first or another one.
abbrev pub fields : ℕ → Bool → List ℕ → Option (List ℕ)
fields zero first text = end text
fields (suc k) first text = more (field_at first text) (fields k false)

-- The k numbers of a line that holds just them.
abbrev pub numbers_of : ℕ → List ℕ → Option (List ℕ)
numbers_of k text = fields k true text

-- How far the first line goes: to the first newline, or to the end.
abbrev pub line_length : List ℕ → ℕ
line_length text = prefix_len (λ b. not (b == 10)) text

abbrev pub first_line : List ℕ → List ℕ
first_line text = take (line_length text) text

-- What follows the newline.
abbrev pub other_lines : List ℕ → List ℕ
other_lines text = drop (line_length text + 1) text

-- The first n lines of a text: the last of a text may end without a newline.
abbrev pub lines_within : ℕ → List ℕ → List (List ℕ)
lines_within zero text = []
lines_within (suc n) [] = []
lines_within (suc n) (b ∷ text) = first_line (b ∷ text) ∷ lines_within n (other_lines (b ∷ text))

-- The lines of a text: no more than it has bytes.
abbrev pub lines_of : List ℕ → List (List ℕ)
lines_of text = lines_within (length text) text
