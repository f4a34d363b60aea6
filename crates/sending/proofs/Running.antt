-- Unbroken runs of certified sequences, by packed form and over the whole table of words.
use Rattle.std.proofs.Common.{◌≡◌, ℕ, zero, suc, ◌+◌, ◌-◌, ◌*◌, ◌<◌, ◌≤◌, Bool, cond, eqb, List, take, drop, is_some, Option, sym, refl, ap, ◌∙◌, subst, ap₂, mul-le-mul_right, add-mul, arith}
use Rattle.model.proofs.Deciding.{certified_over}
use Rattle.model.specs.Decided.{certified_by}
use Rattle.model.specs.Quorums.{held, meant, stations}
use Rattle.order.proofs.Parts.{longest_by_lem, longest_one, part_map}
use Rattle.order.specs.Runs.{CertifiedAt, Longest, longest_by, part, passing}
use Rattle.sending.specs.Sends.{certified_run}
use Rattle.std.proofs.lemmas.Nat.{mul-add-lt}
use Rattle.std.proofs.lemmas.List.{drop-drop, drop-map}
use Rattle.std.proofs.lemmas.Bool.Decides.{Decides-eqb}
use Rattle.tables.specs.Plans.{Plan}
use Rattle.tables.specs.Reading.{first_place, words_at}
use Rattle.model.specs.Quorums.{Certified}

module _ {W V U : Type 0} (g : W → V) (h : W → U) (one : (u v : W) → g u ≡ g v → h u ≡ h v) (f : ℕ) (places : List (Option W)) (head : ℕ) where
  over_at : (s : ℕ) → CertifiedAt f (held g places) head s → CertifiedAt f (held h places) head s
  over_at s c =
      subst (λ ps. Certified f ps head) (sym (part_map (meant h) (stations f) s places))
      (certified_over g h one f (part (stations f) s places) head (subst (λ ps. Certified f ps head) (part_map (meant g) (stations f) s places) c))

-- The longest run by meaning is the longest by packed form.
pub run_by_bits : {W V : Type 0} (means : W → V) (bits : W → ℕ) → ((u v : W) → means u ≡ means v → bits u ≡ bits v) → ((u v : W) → bits u ≡ bits v → means u ≡ means v)
    → (f limit : ℕ) (places : List (Option W)) (head k : ℕ) → Longest f limit (held means places) head k → k ≡ longest_by eqb f limit (held bits places) head
run_by_bits means bits one apart f limit places head k (few, all, end) =
    longest_one f limit (held bits places) head k (longest_by eqb f limit (held bits places) head)
    (few, λ s low high. over_at means bits one f places head s (all s low high), λ l x. end l (over_at bits means apart f places head (k + 1) x))
    (longest_by_lem eqb Decides-eqb f limit (held bits places) head)

pub passing_same : (s d : ℕ) (t u : ℕ → Bool) → ((k : ℕ) → t k ≡ u k) → passing s d t ≡ passing s d u
passing_same s zero t u e = refl
passing_same s (suc d) t u e = ap₂ (λ b n. cond b (suc n) 0) (e (suc s)) (passing_same (suc s) d t u e)

-- The places of a sequence, among those from the origin's first one on.
place_from : (n l i o s : ℕ) → (i * n + o) * l * n + (s - 1) * n ≡ first_place n l i o s
place_from n l i o s = sym (add-mul ((i * n + o) * l) (s - 1) n)

words_from : (p : Plan) (words : List (Option ℕ)) (i o s : ℕ)
    → part (stations p.faults) s (drop ((i * stations p.faults + o) * p.limit * stations p.faults) words) ≡ words_at p words i o s
words_from p words i o s =
    let n = stations p.faults in
    ap (take n) (drop-drop ((s - 1) * n) ((i * n + o) * p.limit * n) words) ∙ ap (λ k. take n (drop k words)) (place_from n p.limit i o s)

pub run_of : (p : Plan) (words : List (Option ℕ)) (i o : ℕ)
    → longest_by eqb p.faults p.limit (drop ((i * stations p.faults + o) * p.limit * stations p.faults) words) o ≡ certified_run p words i o
run_of p words i o =
    passing_same 0 p.limit _ _ (λ s. ap (λ ps. is_some (certified_by eqb p.faults ps o)) (words_from p words i o s))

-- The same, of the words of a table.
pub run_at : {W V : Type 0} (means : W → V) (bits : W → ℕ) → ((u v : W) → means u ≡ means v → bits u ≡ bits v) → ((u v : W) → bits u ≡ bits v → means u ≡ means v)
    → (p : Plan) (words part : List (Option W)) (i o n k : ℕ) → n ≡ stations p.faults → part ≡ drop ((i * n + o) * p.limit * n) words
    → Longest p.faults p.limit (held means part) o k → k ≡ certified_run p (held bits words) i o
run_at means bits one apart p words part i o n k e d long =
    let m = stations p.faults in
    run_by_bits means bits one apart p.faults p.limit part o k long
    ∙ ap (λ ps. longest_by eqb p.faults p.limit (held bits ps) o) (d ∙ ap (λ n. drop ((i * n + o) * p.limit * n) words) e)
    ∙ ap (λ ps. longest_by eqb p.faults p.limit ps o) (sym (drop-map (meant bits) ((i * m + o) * p.limit * m) words))
    ∙ run_of p (held bits words) i o

-- An origin's first place lies within the words.
pub origin_within : (n m l i o : ℕ) → m ≡ n → i < n → o < n → (i * m + o) * l * m ≤ n * n * l * n
origin_within n m l i o e hi ho =
    let row : i * n + o < n * n = mul-add-lt i n o n hi ho in
    let rows : (i * n + o) * l ≤ n * n * l = mul-le-mul_right l (omega arith) in
    subst (λ m. (i * m + o) * l * m ≤ n * n * l * n) (sym e) (mul-le-mul_right n rows)
