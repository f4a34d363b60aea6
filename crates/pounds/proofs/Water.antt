-- A transfer, as it is settled and written, and that it keeps the sum of all volumes.
use Rattle.std.proofs.Common.{◌≡◌, ℕ, ◌+◌, ◌<◌, ◌≤◌, ◌≢◌, List, map, length, take, set, Some, None, Option, sym, refl, ap, ◌∙◌, arith, length-set, get_or-set_other}
use Rattle.canal.proofs.Fronts.{nth_some, take-set-front}
use Rattle.pounds.specs.Ledgers.{Level, answered, at, judged, level, level_of, lowered, moved_by, raised, total, verdict}
use Rattle.canal.specs.Transfers.{Move}
use Rattle.pounds.specs.declared.ledger.Pound.{Pound}
use Rattle.pounds.specs.declared.ledger.PoundCode.{PoundCode}
use Rattle.pounds.specs.declared.ledger.PoundCode.TheVariants.{Moved, NotFitted, SamePound, TooLittle, TooMuch}
use Rattle.std.proofs.lemmas.List.{map-set}
use Rattle.std.proofs.lemmas.List.Sums.{sum_by-set}
use Rattle.std.proofs.lemmas.Bool.Decides.{nat_tests}
use Rattle.std.specs.List.{slice_get}

-- What is booked where the tests are passed.
pub books : (ps : List Level) (m : Move) (s t : Level) → Some s ≡ slice_get ps m.source → Some t ≡ slice_get ps m.target
    → (m.source ≡ m.target → ⊥) → m.volume ≤ s.volume → t.volume + m.volume ≤ t.capacity
    → (verdict ps m ≡ Moved) × (lowered s m.volume ≡ lowered (at ps m.source) m.volume) × (raised t m.volume ≡ raised (at ps m.target) m.volume)
books ps m s t source target apart enough room = (
  rw (← source, ← target) (grind (arith, nat_tests)),
  ap (λ p. lowered p m.volume) (sym (nth_some ps m.source s (level 0 0) (sym source)).1),
  ap (λ p. raised p m.volume) (sym (nth_some ps m.target t (level 0 0) (sym target)).1),
)

-- Two writes into the array are a move of the ledger.
pub writes : (n : ℕ) (pounds : List Pound) (m : Move) (s t : Pound) → verdict (map level_of (take n pounds)) m ≡ Moved
    → level_of s ≡ lowered (at (map level_of (take n pounds)) m.source) m.volume
    → level_of t ≡ raised (at (map level_of (take n pounds)) m.target) m.volume
    → map level_of (take n (set (set pounds m.source s) m.target t)) ≡ moved_by (map level_of (take n pounds)) m
writes n pounds m s t v es et =
    let ps = map level_of (take n pounds) in
    ap (map level_of) (take-set-front n (set pounds m.source s) m.target t ∙ ap (λ l. set l m.target t) (take-set-front n pounds m.source s))
    ∙ map-set level_of (set (take n pounds) m.source s) m.target t
    ∙ ap (λ l. set l m.target (level_of t)) (map-set level_of (take n pounds) m.source s)
    ∙ ap (λ x. set (set ps m.source x) m.target (level_of t)) es
    ∙ ap (λ y. set (set ps m.source (lowered (at ps m.source) m.volume)) m.target y) et
    ∙ sym (ap (λ k. answered k ps m) v)

keeps : (ps : List Level) (m : Move) (s t : Level) → slice_get ps m.source ≡ Some s → slice_get ps m.target ≡ Some t
    → judged (Some s) (Some t) m ≡ Moved → total (answered Moved ps m) ≡ total ps
keeps ps m s t es et v =
    let i = m.source in
    let j = m.target in
    let apart : j ≢ i = λ e. grind (arith, nat_tests) in
    let enough : m.volume ≤ s.volume = grind (arith, nat_tests) in
    let source = nth_some ps i s (level 0 0) es in
    let target = nth_some ps j t (level 0 0) et in
    let held : (at ps i).volume ≡ s.volume = ap (λ p. p.volume) source.1 in
    let x = lowered (at ps i) m.volume in
    let y = raised (at ps j) m.volume in
    let one = sum_by-set (λ p. p.volume) ps i x (level 0 0) source.0 in
    let within : j < length (set ps i x) = simp length-set target.0 in
    let two = sum_by-set (λ p. p.volume) (set ps i x) j y (level 0 0) within in
    let other : (at (set ps i x) j).volume ≡ (at ps j).volume = ap (λ p. p.volume) (get_or-set_other ps i j x (level 0 0) apart) in
    omega arith

by_code : (ps : List Level) (m : Move) (a b : Option Level) (k : PoundCode) → slice_get ps m.source ≡ a → slice_get ps m.target ≡ b → judged a b m ≡ k
    → total (answered k ps m) ≡ total ps
by_code ps m a b NotFitted ea eb v = refl
by_code ps m a b SamePound ea eb v = refl
by_code ps m a b TooLittle ea eb v = refl
by_code ps m a b TooMuch ea eb v = refl
by_code ps m None b Moved ea eb v = absurd (grind arith)
by_code ps m (Some s) None Moved ea eb v = absurd (grind arith)
by_code ps m (Some s) (Some t) Moved ea eb v = keeps ps m s t ea eb v

-- No transfer makes or loses water.
pub conserves : (ps : List Level) (m : Move) → total (moved_by ps m) ≡ total ps
conserves ps m = by_code ps m (slice_get ps m.source) (slice_get ps m.target) (verdict ps m) refl refl refl
