use Rattle.std.proofs.Common.{◌≡◌, ℕ, ◌-◌, ◌≤◌, true, false, ltb, List, [], ◌∷◌, length, get_or, take, drop, Some, None, Ok, Err, Option, sym, refl, ap, ◌∙◌, ⊎_elim, arith}
use Rattle.frames.proofs.Headers.{Fields}
use Rattle.frames.specs.Kinds.{checked, head_fault, kind_in, named}
use Rattle.frames.specs.Meaning.{answer, body_fault, judged, meaning, of_kind, or_else, said_in, split}
use Rattle.frames.specs.Said.{Said}
use Rattle.frames.specs.declared.kind.Kind.{Kind}
use Rattle.model.specs.declared.fault.Fault.{Fault}
use Rattle.rows.specs.Bits.{field}
use Rattle.std.proofs.lemmas.List.{take_rest}
use Rattle.std.proofs.lemmas.Bool.{cases_Bool, cond-false, cond-true, le-ltb, ltb-false}

-- A string of two bytes at least is a header and a body.
pub two : (bytes : List ℕ) → 2 ≤ length bytes → take 2 bytes ≡ get_or bytes 0 0 ∷ get_or bytes 1 0 ∷ []
two [] h = absurd (omega arith)
two (x ∷ []) h = absurd (omega arith)
two (x ∷ y ∷ xs) h = refl

pub meaning-split : (refused : ℕ → Option Fault) (bytes : List ℕ) → 2 ≤ length bytes → meaning refused bytes ≡ split refused (take 2 bytes) (drop 2 bytes)
meaning-split refused bytes h = cond-false (ltb (length bytes) 2) _ (split refused (take 2 bytes) (drop 2 bytes)) (le-ltb (length bytes) 2 h)

pub split_there : (refused : ℕ → Option Fault) (head body : List ℕ) (k s f q : ℕ) (kind : Kind) → Fields head k s f q → kind_in k ≡ Some kind
    → split refused head body ≡ judged refused kind s f q body
split_there refused head body k s f q kind p named =
    ap (λ x. of_kind refused (kind_in x) (field head 3 4) (field head 7 3) (field head 10 6) body) p.kind
    ∙ ap (λ x. of_kind refused x (field head 3 4) (field head 7 3) (field head 10 6) body) named
    ∙ ap (λ x. judged refused kind x (field head 7 3) (field head 10 6) body) p.sender
    ∙ ap (λ x. judged refused kind s x (field head 10 6) body) p.faults
    ∙ ap (λ x. judged refused kind s f x body) p.sequence

-- What the answer of a check says.
pub checked_ok : (o : Option Fault) (u : Unit {0}) → Ok u ≡ checked o → o ≡ None
checked_ok None u p = refl
checked_ok (Some e) u p = cc

pub checked_err : (o : Option Fault) (e : Fault) → Err e ≡ checked o → o ≡ Some e
checked_err None e p = cc
checked_err (Some x) e p = cc

pub named_ok : (o : Option Kind) (kind : Kind) → Ok kind ≡ named o → o ≡ Some kind
named_ok None kind p = cc
named_ok (Some x) kind p = cc

-- What the bytes mean, once the kind is known: what is said, or what is refused of the rest.
pub meaning_of_kind : (refused : ℕ → Option Fault) (bytes : List ℕ) (k s f q : ℕ) (kind : Kind) → 2 ≤ length bytes
    → Fields (get_or bytes 0 0 ∷ get_or bytes 1 0 ∷ []) k s f q → Ok kind ≡ named (kind_in k)
    → meaning refused bytes ≡ judged refused kind s f q (take (length bytes - 2) (drop 2 bytes))
meaning_of_kind refused bytes k s f q kind long p e =
    meaning-split refused bytes long
    ∙ ap (λ h. split refused h (drop 2 bytes)) (two bytes long)
    ∙ split_there refused (get_or bytes 0 0 ∷ get_or bytes 1 0 ∷ []) (drop 2 bytes) k s f q kind p (named_ok _ kind e)
    ∙ ap (judged refused kind s f q) (sym (take_rest bytes 2))

pub judged_err : (refused : ℕ → Option Fault) (kind : Kind) (s f q : ℕ) (body : List ℕ) (e : Fault) → Err e ≡ checked (or_else (head_fault kind s f q) (body_fault refused kind f body))
    → judged refused kind s f q body ≡ Err e
judged_err refused kind s f q body e p = let o = checked_err _ e p in rw o

pub judged_ok : (refused : ℕ → Option Fault) (kind : Kind) (s f q : ℕ) (body : List ℕ) (u : Unit {0}) → Ok u ≡ checked (or_else (head_fault kind s f q) (body_fault refused kind f body))
    → judged refused kind s f q body ≡ Ok (said_in kind s f q body)
judged_ok refused kind s f q body u p = let o = checked_ok _ u p in rw o

pub answer-none : (o : Option Fault) (s : Said) → o ≡ None → answer o s ≡ Ok s
answer-none o s p = rw p

answer_inv : (o : Option Fault) (s t : Said) → answer o s ≡ Ok t → (o ≡ None) × (s ≡ t)
answer_inv (Some e) s t p = let z : ◌≡◌ {A = ℕ} 0 1 = cc in absurd (omega arith)
answer_inv None s t p = let same : s ≡ t = cc in (refl, same)

pub or_none : (a b : Option Fault) → or_else a b ≡ None → (a ≡ None) × (b ≡ None)
or_none (Some e) b p = let z : ◌≡◌ {A = ℕ} 0 1 = cc in absurd (omega arith)
or_none None b p = (refl, p)

pub none_or : (a b : Option Fault) → a ≡ None → b ≡ None → or_else a b ≡ None
none_or a b p q = rw p q

-- What `Ok` says of the bytes: the kind, and that nothing is refused.
kind_inv : (refused : ℕ → Option Fault) (o : Option Kind) (s f q : ℕ) (body : List ℕ) (said : Said) → of_kind refused o s f q body ≡ Ok said
    → (kind : Kind) × (o ≡ Some kind) × (judged refused kind s f q body ≡ Ok said)
kind_inv refused None s f q body said e = let z : ◌≡◌ {A = ℕ} 0 1 = cc in absurd (omega arith)
kind_inv refused (Some kind) s f q body said e = (kind, refl, e)

pub record Judged (refused : ℕ → Option Fault) (kind : Kind) (s f q : ℕ) (body : List ℕ) (said : Said) : Type 0 where
  pub head : head_fault kind s f q ≡ None
  pub rest : body_fault refused kind f body ≡ None
  pub says : said_in kind s f q body ≡ said

pub judged_inv : (refused : ℕ → Option Fault) (kind : Kind) (s f q : ℕ) (body : List ℕ) (said : Said) → judged refused kind s f q body ≡ Ok said → Judged refused kind s f q body said
judged_inv refused kind s f q body said e =
    let a = answer_inv (or_else (head_fault kind s f q) (body_fault refused kind f body)) (said_in kind s f q body) said e in
    let o = or_none (head_fault kind s f q) (body_fault refused kind f body) a.0 in
    record { head = o.0; rest = o.1; says = a.1 }

pub record Read (refused : ℕ → Option Fault) (bytes : List ℕ) (said : Said) : Type 0 where
  pub long : 2 ≤ length bytes
  pub kind : Kind
  pub named : kind_in (field (take 2 bytes) 0 3) ≡ Some kind
  pub is : Judged refused kind (field (take 2 bytes) 3 4) (field (take 2 bytes) 7 3) (field (take 2 bytes) 10 6) (drop 2 bytes) said

pub read_inv : (refused : ℕ → Option Fault) (bytes : List ℕ) (said : Said) → meaning refused bytes ≡ Ok said → Read refused bytes said
read_inv refused bytes said e =
    let head = take 2 bytes in
    let body = drop 2 bytes in
    ⊎_elim
    (λ (t : ltb (length bytes) 2 ≡ true).
    let c = sym (cond-true (ltb (length bytes) 2) _ (split refused head body) t) ∙ e in
    let z : ◌≡◌ {A = ℕ} 0 1 = cc in absurd (omega arith))
    (λ (t : ltb (length bytes) 2 ≡ false).
    let long = ltb-false (length bytes) 2 t in
    let k = kind_inv refused (kind_in (field head 0 3)) (field head 3 4) (field head 7 3) (field head 10 6) body said (sym (meaning-split refused bytes long) ∙ e) in
    record { long = long; kind = k.0; named = k.1; is = judged_inv refused k.0 (field head 3 4) (field head 7 3) (field head 10 6) body said k.2 })
    (cases_Bool (ltb (length bytes) 2))
