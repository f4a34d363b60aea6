-- Dates by the lengths of the months.
use Rattle.std.proofs.Common.{◌≡◌, ℕ, suc, ◌+◌, ◌-◌, ◌<◌, ◌≤◌, Bool, true, false, cond, ◌||◌, eqb, ltb, leb, List, [], ◌∷◌, length, get_or, take, Some, None, sum, Option, sym, ◌∙◌, arith, MatchOption}
use Rattle.calendar.specs.Calendar.{Entry, Lies, date_from, date_of, month_lengths}
use Rattle.calendar.specs.declared.Date.{Date}
use Rattle.std.proofs.lemmas.List.Sums.{sum_by-cons}
use Rattle.std.proofs.lemmas.Bool.{cond_both, cond-false, leb-false, leb-true, ltb-false, ltb-true, ne_eqb}

-- The date in a year that begins with month m, or that the day is past its end.
From : List ℕ → ℕ → ℕ → Option Date → Type 0
From ns m day o =
    MatchOption o (sum ns < day)
    (λ d. (m ≤ d.month) × (d.month < m + length ns) × (1 ≤ d.day) × (d.day ≤ get_or ns (d.month - m) 0) × (sum (take (d.month - m) ns) + d.day ≡ day))

later : (n : ℕ) (ns : List ℕ) (m day : ℕ) (o : Option Date) → n < day → From ns (m + 1) (day - n) o → From (n ∷ ns) m day o
unfolding From
later n ns m day None h past = rw sum_by-cons (omega arith)
later n ns m day (Some d) h (from, to, low, high, adds) =
    let k = d.month - (m + 1) in
    let e : d.month - m ≡ suc k = omega arith in
    let all : sum (take (suc k) (n ∷ ns)) ≡ n + sum (take k ns) = sum_by-cons (λ x. x) n (take k ns) in
    (omega arith, omega arith, low, rw e high, rw e (omega arith))

from : (ns : List ℕ) (m day : ℕ) → 1 ≤ day → From ns m day (date_from ns m day)
unfolding From
from [] m day h = omega arith
from (n ∷ ns) m day h =
    let z : m - m ≡ 0 = omega arith in
    cond_both (leb day n) _ _ (From (n ∷ ns) m day)
    (λ e. (omega arith, omega arith, h, rw z (leb-true day n e), rw z (omega arith)))
    (λ e. let more = leb-false day n e in later n ns m day (date_from ns (m + 1) (day - n)) more (from ns (m + 1) (day - n) (omega arith)))

lies_some : (leap : Bool) (day : ℕ) (o : Option Date) (d : Date) → o ≡ Some d → From (month_lengths leap) 1 day o → Lies leap day d
unfolding From
lies_some leap day None d e f = absurd (grind arith)
lies_some leap day (Some x) d e (low, high, first, last, adds) =
    let same : x ≡ d = cc in
    rw (← same) (record { month_from = low; month_to = omega arith; day_from = first; day_to = last; adds_up = adds })

-- A date that is read lies that many days into the year.
pub lies : (leap : Bool) (day : ℕ) (d : Date) → 1 ≤ day → date_of leap day ≡ Some d → Lies leap day d
lies leap day d h e =
    let there : date_from (month_lengths leap) 1 day ≡ Some d = sym (cond-false (eqb day 0) None _ (ne_eqb day 0 (λ z. omega arith))) ∙ e in
    lies_some leap day (date_from (month_lengths leap) 1 day) d there (from (month_lengths leap) 1 day h)

-- The entry that is read is the day's date.
pub read_entry : (leap : Bool) (day : ℕ) (d : Date) → 1 ≤ day → Entry (cond (leap || ltb day 60) (day - 1) day) d → date_of leap day ≡ Some d
read_entry true day d h = λ en. let e : day - 1 + 1 ≡ day = omega arith in rw e at en.0
read_entry false day d h =
    cond_both (ltb day 60) (day - 1) day (λ p. Entry p d → date_of false day ≡ Some d)
    (λ t en. let less = ltb-true day 60 t in let e : day - 1 + 1 ≡ day = omega arith in rw e at (en.1 (omega arith)))
    (λ t en. let more = ltb-false day 60 t in en.2 (omega arith))
