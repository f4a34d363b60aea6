-- The table of days, against the lengths of the months.
use Rattle.std.proofs.Common.{◌≡◌, ℕ, ◌+◌, ◌<◌, Bool, true, false, cond, ◌&&◌, eqb, ltb, List, map, length, get_or, Some, None, Option, unwrap_or, sym, ap, ◌∙◌, arith}
use Rattle.calendar.proofs.Table.{at, every}
use Rattle.calendar.specs.Calendar.{Entry, date_of}
use Rattle.calendar.specs.declared.Date.{Date}
use Rattle.std.proofs.lemmas.Bool.{and_parts, cond-true, eqb-true, lt-ltb}
use Rattle.std.specs.List.{range_with_len}

abbrev equals : Date → Option Date → Bool
equals d None = false
equals d (Some e) = eqb d.month e.month && eqb d.day e.day

equal : (d : Date) (o : Option Date) → equals d o ≡ true → o ≡ Some d
equal d None t = absurd (grind arith)
equal d (Some e) t =
    let p = and_parts (eqb d.month e.month) (eqb d.day e.day) t in
    let month = eqb-true d.month e.month p.0 in
    let day = eqb-true d.day e.day p.1 in
    ap (λ m. Some (record { month = m; day = e.day })) (sym month) ∙ ap (λ n. Some (record { month = d.month; day = n })) (sym day)

-- The test of an entry, in a leap year and in a common year.
abbrev pub right : ℕ → Date → Bool
right k d =
    equals d (date_of true (k + 1)) && (cond (ltb k 59) (equals d (date_of false (k + 1))) true && cond (ltb 59 k) (equals d (date_of false k)) true)

pub right_entry : (k : ℕ) (d : Date) → right k d ≡ true → Entry k d
right_entry k d t =
    let p = and_parts (equals d (date_of true (k + 1))) _ t in
    let q = and_parts (cond (ltb k 59) (equals d (date_of false (k + 1))) true) _ p.1 in (
      equal d (date_of true (k + 1)) p.0,
      (λ h. equal d (date_of false (k + 1)) (sym (cond-true (ltb k 59) _ _ (lt-ltb k 59 h)) ∙ q.0)),
      (λ h. equal d (date_of false k) (sym (cond-true (ltb 59 k) _ _ (lt-ltb 59 k h)) ∙ q.1)),
    )

-- A table that passes the test has the right date at each place.
pub table_entry : (days : List Date) (k : ℕ) (d : Date) → every right 0 days ≡ true → k < length days → Entry k (get_or days k d)
table_entry days k d t h = right_entry k (get_or days k d) (at right days d t k h)

-- The table as the lengths of the months give it.
abbrev pub days : List Date
days = map (λ day. unwrap_or (date_of true day) (record { month = 0; day = 0 })) (range_with_len 1 366)
