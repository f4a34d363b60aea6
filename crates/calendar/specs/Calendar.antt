use Rattle.std.specs.Prelude.{◌≡◌, ℕ, ◌+◌, ◌-◌, ◌<◌, ◌≤◌, Bool, true, false, cond, List, [], ◌∷◌, take, Some, None, sum, Option, ◌==◌, nat_le, slice_index}
use Rattle.calendar.specs.declared.Date.{Date}

-- How many days each month has.
abbrev pub month_lengths : Bool → List ℕ
month_lengths leap = 31 ∷ cond leap 29 28 ∷ 31 ∷ 30 ∷ 31 ∷ 30 ∷ 31 ∷ 31 ∷ 30 ∷ 31 ∷ 30 ∷ 31 ∷ []

abbrev pub year_length : Bool → ℕ
year_length leap = sum (month_lengths leap)

-- The date lies that many days into the year: with the months before it, its day makes up the number.
pub record Lies (leap : Bool) (day : ℕ) (d : Date) : Type 0 where
  pub month_from : 1 ≤ d.month
  pub month_to : d.month ≤ 12
  pub day_from : 1 ≤ d.day
  pub day_to : d.day ≤ slice_index (month_lengths leap) (d.month - 1)
  pub adds_up : sum (take (d.month - 1) (month_lengths leap)) + d.day ≡ day

-- The date of a day, counted from the first day of this month, where the months have these lengths.
abbrev pub date_from : List ℕ → ℕ → ℕ → Option Date
date_from [] month day = None
date_from (n ∷ ns) month day = cond (nat_le day n) (Some (record { month = month; day = day })) (date_from ns (month + 1) (day - n))

-- The date of a day of the year, counted from 1.
abbrev pub date_of : Bool → ℕ → Option Date
date_of leap day = cond (day == 0) None (date_from (month_lengths leap) 1 day)

-- The entry at this place of the table of a leap year: the date of the day that is one more, and in a common year of the
-- same day up to 28 February, and of the day before from 1 March on.
abbrev pub Entry : ℕ → Date → Type 0
Entry place d =
    (date_of true (place + 1) ≡ Some d) × (place < 59 → date_of false (place + 1) ≡ Some d) × (59 < place → date_of false place ≡ Some d)
