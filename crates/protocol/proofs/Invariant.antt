-- What holds in every reached state.
use Rattle.std.proofs.Common.{◌≡◌, ℕ, zero, suc, ◌<◌, ◌≤◌, false, ◌≢◌, ◌⊎◌, List, [], ◌∷◌, ◌++◌, length, replicate, Some, None, Option, sym, refl, ap, ◌∙◌, subst, inl, inr, le_of_eq, arith}
use Rattle.std.proofs.lemmas.Bool.{cases_lt, both_ways}
use Rattle.std.specs.List.{slice_get}
use Rattle.model.specs.Sets.{named, Names, joined}
use Rattle.model.specs.Quorums.{meant}
use Rattle.model.proofs.Members.{joined_keeps, named_none}
use Rattle.order.specs.Columns.{Matrix, cell}
use Rattle.order.specs.Laws.{In, Stands}
use Rattle.order.specs.Orders.{order}
use Rattle.order.specs.Rows.{Row, entry, Consistent}
use Rattle.order.specs.declared.key.Key.{Key}
use Rattle.order.specs.declared.standing.Standing.TheVariants.{Inconsistent}
use Rattle.order.proofs.Sequence.{in_left, orders_agree}
use Rattle.protocol.specs.States.{Run, N, Fit, Correct, Topic, word, vote, commit, Value, op, mat, Message, say, summary, head, spot, Places, Full, CertificateAt, CertifiedAt, OrderedAt, Unbroken}
use Rattle.protocol.specs.States.{Summary, HasRow, ZeroRow, Sound, Entry, key_of, Mach, stepped, State, Submitted}
use Rattle.protocol.specs.Steps.{Changed, Changed₂, send, places, submits, proposes, keeps, accuses, executes, Speakable, Taken, Echoes, echo, still, Commits, commits, quiet, Step, Opened, Later, same, step, Reached}
use Rattle.protocol.specs.Steps.Step.{submit, summarise, propose, speak, take_word, take_vote, take_commit, again, another, newer, older, inconsistent, execute}
use Rattle.protocol.proofs.Lists.{never, nth_lt, nth_below, nth_push, nth_old, nth_new, in_push}
use Rattle.protocol.proofs.Places.{Ext, holds_spot, full_ordered, meeting, ordered_mono, full_mono}

pub extends : {A B : Type 0} (g h : A → Option B) (a : A) (b : B) → Changed g h a (Some b) → g a ≡ None → Ext g h
extends {A} {B} g h a b c e x v k =
    elim (c.1 x) [ inl q ↦ (let z : ◌≡◌ {A = Option B} None (Some v) = cc in absurd (never z)) | inr q ↦ q ∙ k ]

-- ---- what openers said themselves

-- what was submitted or proposed on a topic
abbrev pub own : (ℕ → List ℕ) → List Matrix → Topic → Option Value
own S T (word o zero) = None
own S T (word o (suc k)) = meant op (slice_get (S o) k)
own S T (vote zero) = None
own S T (vote (suc k)) = meant mat (slice_get T k)
own S T (commit n) = None

meant_mono : {A B : Type 0} (g : A → B) (x y : Option A) (v : B) → ((u : A) → x ≡ Some u → y ≡ Some u) → meant g x ≡ Some v → meant g y ≡ Some v
meant_mono g (Some u) y v f h = ap (meant g) (f u refl) ∙ h
meant_mono g None y v f h = absurd (never h)

own_submits : (S S' : ℕ → List ℕ) (T : List Matrix) → ((o k u : ℕ) → slice_get (S o) k ≡ Some u → slice_get (S' o) k ≡ Some u) → Ext (own S T) (own S' T)
own_submits S S' T f (word o zero) v h = absurd (never h)
own_submits S S' T f (word o (suc k)) v h = meant_mono op (slice_get (S o) k) (slice_get (S' o) k) v (f o k) h
own_submits S S' T f (vote zero) v h = absurd (never h)
own_submits S S' T f (vote (suc k)) v h = h
own_submits S S' T f (commit n) v h = absurd (never h)

own_proposes : (S : ℕ → List ℕ) (T : List Matrix) (X : Matrix) → Ext (own S T) (own S (T ++ (X ∷ [])))
own_proposes S T X (word o zero) v h = absurd (never h)
own_proposes S T X (word o (suc k)) v h = h
own_proposes S T X (vote zero) v h = absurd (never h)
own_proposes S T X (vote (suc k)) v h = meant_mono mat (slice_get T k) (slice_get (T ++ (X ∷ [])) k) v (nth_old T (X ∷ []) k) h
own_proposes S T X (commit n) v h = absurd (never h)

pub own_submitted : (S : ℕ → List ℕ) (T : List Matrix) (o s u : ℕ) → own S T (word o s) ≡ Some (op u) → Submitted S o s u
own_submitted S T o zero u h = absurd (never h)
own_submitted S T o (suc k) u h = go (slice_get (S o) k) refl h
  where
    go : (x : Option ℕ) → slice_get (S o) k ≡ x → meant op x ≡ Some (op u) → slice_get (S o) k ≡ Some u
    go (Some v) e q = cc
    go None e q = absurd (never q)

-- ---- what a message of a correct station rests on, and that it lasts

abbrev Own : Type 0
Own = Topic → Option Value

-- an opener's word is its own, another's is what it took from the opener
abbrev From : Run → Places → Own → ℕ → Topic → Value → Type 0
From r P O j t v = ((j ≡ head r t) × (O t ≡ Some v)) ⊎ ((j ≢ head r t) × (P (spot j t (head r t)) ≡ Some v))

abbrev Backed : Run → Places → Own → ℕ → Topic → Value → Type 0
Backed r P O j (word o s) v = From r P O j (word o s) v
Backed r P O j (vote n) v = From r P O j (vote n) v
Backed r P O j (commit n) v = Full r P j (vote n) v

-- a summary's row is covered by certificates
abbrev Covered : Run → Places → ℕ → Row → Type 0
Covered r P j a = (o : ℕ) → o < N r → (entry a o ≤ r.limit) × ((s : ℕ) → 1 ≤ s → s ≤ entry a o → CertifiedAt r P j o s)

abbrev Honest : Run → Places → Own → Message → Type 0
Honest r P O (say j t v) = Correct r j → Backed r P O j t v
Honest r P O (summary j a) = Correct r j → Covered r P j a

abbrev pub CertificateFor : Run → Places → ℕ → Entry → Type 0
CertificateFor r P i e = CertificateAt r P i e.origin e.sequence e.operation

abbrev Listed : Run → Places → ℕ → List Entry → Type 0
Listed r P i l = (Xs : List Matrix) × Unbroken r P i Xs
    × ((p : ℕ) (e : Entry) → slice_get l p ≡ Some e → (slice_get (order r.f r.limit Xs) p ≡ Some (key_of e)) × CertificateFor r P i e)

module _ (r : Run) {P P' : Places} (e : Ext P P') where
  listed_mono : (i : ℕ) (l : List Entry) → Listed r P i l → Listed r P' i l
  listed_mono i l h = (
    h.0,
    λ n X q. ordered_mono r e i (commit (suc n)) (mat X) (h.1 n X q),
    λ p d q. let a = h.2 p d q in (a.0, full_mono r e i (word d.origin d.sequence) (op d.operation) a.1),
  )

  module _ {O O' : Own} (f : Ext O O') where
    from_mono : (j : ℕ) (t : Topic) (v : Value) → From r P O j t v → From r P' O' j t v
    from_mono j t v (inl h) = inl (h.0, f t v h.1)
    from_mono j t v (inr h) = inr (h.0, e _ v h.1)

    honest_mono : (m : Message) → Honest r P O m → Honest r P' O' m
    honest_mono (say j (word o s) v) h = λ c. from_mono j (word o s) v (h c)
    honest_mono (say j (vote n) v) h = λ c. from_mono j (vote n) v (h c)
    honest_mono (say j (commit n) v) h = λ c. full_mono r e j (vote n) v (h c)
    honest_mono (summary j a) h = λ c o p. let x = h c o p in (x.0, λ s q l. let y = x.1 s q l in (y.0, full_mono r e j (word o s) (op y.0) y.1))

from_once : (r : Run) (P : Places) (O : Own) (j : ℕ) (t : Topic) (v w : Value) → From r P O j t v → From r P O j t w → v ≡ w
from_once r P O j t v w (inl a) (inl b) = cc
from_once r P O j t v w (inl a) (inr b) = absurd (b.0 a.0)
from_once r P O j t v w (inr a) (inl b) = absurd (a.0 b.0)
from_once r P O j t v w (inr a) (inr b) = cc

backed_once : (r : Run) (P : Places) (O : Own) (j : ℕ) (t : Topic) (v w : Value) → Backed r P O j t v → Backed r P O j t w → v ≡ w
backed_once r P O j (word o s) v w a b = from_once r P O j (word o s) v w a b
backed_once r P O j (vote n) v w a b = from_once r P O j (vote n) v w a b
backed_once r P O j (commit n) v w a b =
    let p = holds_spot r P j (vote n) v r.leader a.0 in let q = holds_spot r P j (vote n) w r.leader b.0 in cc

-- ---- the invariant

pub record Inv {M : Mach} (start : M.Q) (σ : State M) : Type 0 where
  pub fit : Fit σ.run
  pub source : (i : ℕ) (t : Topic) (j : ℕ) (v : Value) → σ.place (spot i t j) ≡ Some v → In (say j t v) σ.wire
  pub honest : (m : Message) → In m σ.wire → Honest σ.run σ.place (own σ.submitted σ.proposed) m
  pub sound : (n : ℕ) (X : Matrix) → In (say σ.run.leader (vote n) (mat X)) σ.wire → Sound σ.run σ.wire X
  pub chain : (j : ℕ) (a b : Row) → Correct σ.run j → In (summary j a) σ.wire → In (summary j b) σ.wire → Consistent (N σ.run) a b
  pub kept : (i j : ℕ) → ZeroRow σ.run (σ.kept i j) ⊎ In (summary j (σ.kept i j)) σ.wire
  pub spared : (i j : ℕ) → Correct σ.run i → Correct σ.run j → named (σ.accused i) j ≡ false
  pub lists : (i : ℕ) → Correct σ.run i → Listed σ.run σ.place i (σ.executed i)
  pub state : (i : ℕ) → Correct σ.run i → σ.machine i ≡ stepped M start (σ.executed i)

sound_mono : (r : Run) (w : List Message) (m : Message) (X : Matrix) → Sound r w X → Sound r (w ++ (m ∷ [])) X
sound_mono r w m X h k c =
    let x = h k c in (x.0, x.1, (elim x.2 [ inl z ↦ inl z | inr y ↦ inr (in_left w (m ∷ []) (summary k x.0) y) ]))

stepped_push : (M : Mach) (q : M.Q) (es : List Entry) (e : Entry) → stepped M q (es ++ (e ∷ [])) ≡ M.step (stepped M q es) e.operation
stepped_push M q [] e = refl
stepped_push M q (d ∷ ds) e = stepped_push M (M.step q d.operation) ds e

module _ {M : Mach} {start : M.Q} {σ : State M} (I : Inv start σ) where
  -- ---- what follows from it

  pub said_once : (j : ℕ) (t : Topic) (v w : Value) → Correct σ.run j → In (say j t v) σ.wire → In (say j t w) σ.wire → v ≡ w
  said_once j t v w c a b =
      backed_once σ.run σ.place (own σ.submitted σ.proposed) j t v w (I.honest (say j t v) a c) (I.honest (say j t w) b c)

  pub full_once : (i j : ℕ) (t : Topic) (v w : Value) → Full σ.run σ.place i t v → Full σ.run σ.place j t w → v ≡ w
  full_once i j t v w a b =
      let s = meeting σ.run σ.place I.fit i j t v w (full_ordered σ.run σ.place I.fit i t v a) (full_ordered σ.run σ.place I.fit j t w b) in
      said_once s.0 t v w s.1 (I.source i t s.0 v s.2) (I.source j t s.0 w s.3)

  pub ordered_once : (i j n : ℕ) (X Y : Matrix) → OrderedAt σ.run σ.place i n X → OrderedAt σ.run σ.place j n Y → X ≡ Y
  ordered_once i j n X Y a b =
      let s = meeting σ.run σ.place I.fit i j (commit n) (mat X) (mat Y) a b in
      let e = said_once s.0 (commit n) (mat X) (mat Y) s.1 (I.source i (commit n) s.0 (mat X) s.2) (I.source j (commit n) s.0 (mat Y) s.3) in
      cc

  pub runs_agree : (i j : ℕ) (Xs Ys : List Matrix) → Unbroken σ.run σ.place i Xs → Unbroken σ.run σ.place j Ys
      → (p : ℕ) (x y : Key) → slice_get (order σ.run.f σ.run.limit Xs) p ≡ Some x → slice_get (order σ.run.f σ.run.limit Ys) p ≡ Some y → x ≡ y
  runs_agree i j Xs Ys a b = orders_agree σ.run.f σ.run.limit Xs Ys (λ n X Y p q. ordered_once i j (suc n) X Y (a n X p) (b n Y q))

  -- an ordered matrix is the leader's
  pub ordered_sound : (i n : ℕ) (X : Matrix) → OrderedAt σ.run σ.place i n X → Sound σ.run σ.wire X
  ordered_sound i n X a =
      let s = meeting σ.run σ.place I.fit i i (commit n) (mat X) (mat X) a a in
      let f = I.honest (say s.0 (commit n) (mat X)) (I.source i (commit n) s.0 (mat X) s.2) s.1 in
      I.sound n X (I.source s.0 (vote n) σ.run.leader (mat X) (holds_spot σ.run σ.place s.0 (vote n) (mat X) σ.run.leader f.0))

  pub reaches : (X : Matrix) (k o s : ℕ) → Sound σ.run σ.wire X → Correct σ.run k → o < N σ.run → 1 ≤ s → s ≤ cell (N σ.run) X k o
      → CertifiedAt σ.run σ.place k o s
  reaches X k o s h c p q l =
      let x = h k c in
      elim x.2 [ inl z ↦ absurd (omega (arith, z o p, x.1 o p)) | inr m ↦ (I.honest (summary k x.0) m c o p).1 s q (omega (arith, x.1 o p)) ]

  -- ---- each change keeps it

  inv_send : (m : Message) → Honest σ.run σ.place (own σ.submitted σ.proposed) m
      → ((n : ℕ) (X : Matrix) → m ≡ say σ.run.leader (vote n) (mat X) → Sound σ.run σ.wire X)
      → ((j : ℕ) (a b : Row) → m ≡ summary j a → Correct σ.run j → In (summary j b) σ.wire → Consistent (N σ.run) a b)
      → Inv start (send m σ)
  inv_send m f fair new = record {
    fit = I.fit;
    source = λ i t j v h. in_left σ.wire (m ∷ []) (say j t v) (I.source i t j v h);
    honest = λ x h. elim (in_push σ.wire m x h) [ inl e ↦ subst (Honest σ.run σ.place (own σ.submitted σ.proposed)) (sym e) f | inr q ↦ I.honest x q ];
    sound = λ n X h. sound_mono σ.run σ.wire m X (elim (in_push σ.wire m (say σ.run.leader (vote n) (mat X)) h) [ inl e ↦ fair n X (sym e) | inr q ↦ I.sound n X q ]);
    chain = λ j a b c p q. elim (in_push σ.wire m (summary j a) p) [
      | inl d ↦ (elim (in_push σ.wire m (summary j b) q) [ inl e ↦ inl (λ o l. let z : b ≡ a = cc in le_of_eq (ap (λ x. entry x o) z)) | inr h ↦ new j a b (sym d) c h ])
      | inr g ↦ (elim (in_push σ.wire m (summary j b) q) [ inl e ↦ (elim (new j b a (sym e) c g) [ inl x ↦ inr x | inr x ↦ inl x ]) | inr h ↦ I.chain j a b c g h ])
    ];
    kept = λ i j. elim (I.kept i j) [ inl z ↦ inl z | inr z ↦ inr (in_left σ.wire (m ∷ []) (summary j (σ.kept i j)) z) ];
    spared = I.spared;
    lists = I.lists;
    state = I.state;
  }

  pub inv_put : (i : ℕ) (t : Topic) (j : ℕ) (v : Value) (P : Places) → Taken σ i t j v P → Inv start (places P σ)
  inv_put i t j v P h =
      let ext = extends σ.place P (spot i t j) v h.filled h.empty in
      record {
        fit = I.fit;
        source = λ a s b w q. elim (h.filled.1 (spot a s b)) [
          | inl e ↦ (let f = h.filled.0 in let z : say j t v ≡ say b s w = cc in subst (λ m. In m σ.wire) z h.heard)
          | inr e ↦ I.source a s b w (sym e ∙ q)
        ];
        honest = λ m q. honest_mono σ.run ext {O = own σ.submitted σ.proposed} (λ x v q. q) m (I.honest m q);
        sound = I.sound;
        chain = I.chain;
        kept = I.kept;
        spared = I.spared;
        lists = λ i c. listed_mono σ.run ext i (σ.executed i) (I.lists i c);
        state = I.state;
      }

  inv_submits : (S : ℕ → List ℕ) (o u : ℕ) → Changed σ.submitted S o (σ.submitted o ++ (u ∷ [])) → Inv start (submits S σ)
  inv_submits S o u c = record {
    fit = I.fit;
    source = I.source;
    honest = λ m q. honest_mono σ.run {P = σ.place} (λ x v q. q) (own_submits σ.submitted S σ.proposed more) m (I.honest m q);
    sound = I.sound;
    chain = I.chain;
    kept = I.kept;
    spared = I.spared;
    lists = I.lists;
    state = I.state;
  }
    where
      more : (p k w : ℕ) → slice_get (σ.submitted p) k ≡ Some w → slice_get (S p) k ≡ Some w
      more p k w h = elim (c.1 p) [
        | inl e ↦ subst (λ x. slice_get (S x) k ≡ Some w) (sym e) (subst (λ l. slice_get l k ≡ Some w) (sym c.0) (nth_old (σ.submitted o) (u ∷ []) k w (subst (λ x. slice_get (σ.submitted x) k ≡ Some w) e h)))
        | inr e ↦ subst (λ l. slice_get l k ≡ Some w) (sym e) h
      ]

  inv_proposes : (X : Matrix) → Inv start (proposes (σ.proposed ++ (X ∷ [])) σ)
  inv_proposes X = record {
    fit = I.fit;
    source = I.source;
    honest = λ m q. honest_mono σ.run {P = σ.place} (λ x v q. q) (own_proposes σ.submitted σ.proposed X) m (I.honest m q);
    sound = I.sound;
    chain = I.chain;
    kept = I.kept;
    spared = I.spared;
    lists = I.lists;
    state = I.state;
  }

  inv_keep : (i j : ℕ) (a : Row) (K : ℕ → ℕ → Row) → In (summary j a) σ.wire → Changed₂ σ.kept K i j a → Inv start (keeps K σ)
  inv_keep i j a K h c = record {
    fit = I.fit;
    source = I.source;
    honest = I.honest;
    sound = I.sound;
    chain = I.chain;
    kept = λ x y. elim (c.1 x y) [
      | inl e ↦ (let f = c.0 in let p = e.0 in let q = e.1 in let z : summary j a ≡ summary y (K x y) = cc in inr (subst (λ m. In m σ.wire) z h))
      | inr e ↦ subst (λ b. ZeroRow σ.run b ⊎ In (summary y b) σ.wire) (sym e) (I.kept x y)
    ];
    spared = I.spared;
    lists = I.lists;
    state = I.state;
  }

  inv_accuse : (i j : ℕ) (A : ℕ → ℕ) → (Correct σ.run j → ⊥) → Changed σ.accused A i (joined (σ.accused i) j) → Inv start (accuses A σ)
  inv_accuse i j A bad c = record {
    fit = I.fit;
    source = I.source;
    honest = I.honest;
    sound = I.sound;
    chain = I.chain;
    kept = I.kept;
    spared = λ x y p q. elim (c.1 x) [
      | inl e ↦ (let ne : y ≢ j = λ d. bad (subst (Correct σ.run) d q) in
          ap (λ z. named (A z) y) e ∙ ap (λ s. named s y) c.0 ∙ joined_keeps (σ.accused i) j y ne ∙ I.spared i y (subst (Correct σ.run) e p) q)
      | inr e ↦ ap (λ s. named s y) e ∙ I.spared x y p q
    ];
    lists = I.lists;
    state = I.state;
  }

  inv_exec : (i : ℕ) (d : Entry) (Xs : List Matrix) (l : ℕ → List Entry) (q : ℕ → M.Q) → Correct σ.run i
      → Unbroken σ.run σ.place i Xs → slice_get (order σ.run.f σ.run.limit Xs) (length (σ.executed i)) ≡ Some (key_of d)
      → CertificateFor σ.run σ.place i d
      → Changed σ.executed l i (σ.executed i ++ (d ∷ [])) → Changed σ.machine q i (M.step (σ.machine i) d.operation)
      → Inv start (executes l q σ)
  inv_exec i d Xs l q ci run here cert cl cq = record {
    fit = I.fit;
    source = I.source;
    honest = I.honest;
    sound = I.sound;
    chain = I.chain;
    kept = I.kept;
    spared = I.spared;
    lists = λ j c. elim (cl.1 j) [
      | inl e ↦ subst (λ x. Listed σ.run σ.place x (l x)) (sym e) (subst (Listed σ.run σ.place i) (sym cl.0) grown)
      | inr e ↦ subst (Listed σ.run σ.place j) (sym e) (I.lists j c)
    ];
    state = λ j c. elim (cl.1 j) [
      | inl e ↦ subst (λ x. q x ≡ stepped M start (l x)) (sym e) run_on
      | inr e ↦ elim (cq.1 j) [
        | inl b ↦ subst (λ x. q x ≡ stepped M start (l x)) (sym b) run_on
        | inr b ↦ b ∙ I.state j c ∙ ap (stepped M start) (sym e)
      ]
    ];
  }
    where
      fact : (e : Entry) (p : ℕ) → Type 0
      fact e p = (slice_get (order σ.run.f σ.run.limit Xs) p ≡ Some (key_of e)) × CertificateFor σ.run σ.place i e

      before : (p : ℕ) (e : Entry) → slice_get (σ.executed i) p ≡ Some e → fact e p
      before p e h =
          let old = I.lists i ci in
          let a = old.2 p e h in
          let b = nth_below (order σ.run.f σ.run.limit Xs) p (length (σ.executed i)) (key_of d) here (omega (arith, nth_lt (σ.executed i) p e h)) in
          let z = runs_agree i i old.0 Xs old.1 run p (key_of e) b.0 a.0 b.1 in
          (b.1 ∙ ap Some (sym z), a.1)

      grown : Listed σ.run σ.place i (σ.executed i ++ (d ∷ []))
      grown = (
        Xs,
        run,
        λ p e h. elim (nth_push (σ.executed i) d p e h) [
          | inl b ↦ before p e b
          | inr b ↦ subst (λ x. fact x p) (sym b.1) (subst (fact d) (sym b.0) (here, cert))
        ],
      )

      run_on : q i ≡ stepped M start (l i)
      run_on = cq.0 ∙ ap (λ x. M.step x d.operation) (I.state i ci) ∙ sym (stepped_push M start (σ.executed i) d) ∙ ap (stepped M start) (sym cl.0)

  -- ---- the messages that are sent

  unlike : {A : Type 0} (j k : ℕ) (t : Topic) (v : Value) (a : Row) → say j t v ≡ summary k a → A
  unlike j k t v a e = let z : ◌≡◌ {A = ℕ} 0 1 = cc in absurd (omega arith)

  unlike_word : {A : Type 0} (j k o s n : ℕ) (v w : Value) → say j (word o s) v ≡ say k (vote n) w → A
  unlike_word j k o s n v w e = let z : ◌≡◌ {A = ℕ} 0 1 = cc in absurd (omega arith)

  unlike_commit : {A : Type 0} (j k m n : ℕ) (v w : Value) → say j (commit m) v ≡ say k (vote n) w → A
  unlike_commit j k m n v w e = let z : ◌≡◌ {A = ℕ} 0 1 = cc in absurd (omega arith)

  inv_echo_word : (i o s j : ℕ) (v : Value) {τ : State M} → σ.place (spot i (word o s) j) ≡ Some v → Echoes σ i (word o s) j v τ → Inv start τ
  inv_echo_word i o s j v h (echo e d) =
      inv_send (say i (word o s) v) (λ c. inr (λ q. d (q ∙ sym e), subst (λ x. σ.place (spot i (word o s) x) ≡ Some v) e h))
      (λ n X b. unlike_word i σ.run.leader o s n v (mat X) b) (λ k a b e c q. unlike i k (word o s) v a e)
  inv_echo_word i o s j v h (still e) = I

  pub inv_echo_vote : (i n j : ℕ) (v : Value) {τ : State M} → σ.place (spot i (vote n) j) ≡ Some v → Echoes σ i (vote n) j v τ → Inv start τ
  inv_echo_vote i n j v h (echo e d) =
      inv_send (say i (vote n) v) (λ c. inr (λ q. d (q ∙ sym e), subst (λ x. σ.place (spot i (vote n) x) ≡ Some v) e h))
      (λ m X b. let z : i ≡ σ.run.leader = cc in absurd (d (z ∙ sym e))) (λ k a b e c q. unlike i k (vote n) v a e)
  inv_echo_vote i n j v h (still e) = I

  inv_commit : (i n : ℕ) {ω τ : State M} → Commits ω σ i n τ → Inv start τ
  inv_commit i n (commits X was now) =
      inv_send (say i (commit n) (mat X)) (λ c. now) (λ m Y b. unlike_commit i σ.run.leader n m (mat X) (mat Y) b) (λ k a b e c q. unlike i k (commit n) (mat X) a e)
  inv_commit i n (quiet h) = I

  not_both : (j : ℕ) → Names σ.run.faulty j → Correct σ.run j → ⊥
  not_both j h c = both_ways (named σ.run.faulty j) c.1 h

  inv_speak : (m : Message) → Speakable σ.run σ.wire m → Inv start (send m σ)
  inv_speak (say j t v) h = inv_send (say j t v) (λ c. absurd (not_both j h.faulty c)) h.sound (λ k a b e c q. unlike j k t v a e)
  inv_speak (summary j r) h = inv_send (summary j r) (λ c. absurd (not_both j h.faulty c)) h.sound
      (λ k a b e c q. let z : j ≡ k = cc in absurd (not_both j h.faulty (subst (Correct σ.run) (sym z) c)))

  -- a new summary is at least as up-to-date as each earlier one
  inv_summary : (i : ℕ) (r : Row) → Correct σ.run i → Summary σ.run σ.place i r → Inv start (send (summary i r) σ)
  inv_summary i r c h = inv_send (summary i r) (λ c o p. let x = h.1 o p in (x.within, x.run))
      (λ n X e. unlike σ.run.leader i (vote n) (mat X) r (sym e))
      (λ k a b e d q.
      let k≡ : k ≡ i = cc in
      let a≡ : a ≡ r = cc in
      inl (λ o p.
      let old = I.honest (summary k b) q d o p in
      subst (λ x. entry b o ≤ entry x o) (sym a≡) (elim (cases_lt (entry r o) (entry b o)) [
        | inl gt ↦ absurd ((h.1 o p).end (omega (arith, old.0)) (subst (λ x. CertifiedAt σ.run σ.place x o (suc (entry r o))) k≡ (old.1 (suc (entry r o)) (omega arith) (omega arith))))
        | inr le ↦ le
      ])))

  -- the rows that a station keeps make a sound matrix
  kept_sound : (i : ℕ) (X : Matrix) → ((k : ℕ) → k < N σ.run → HasRow σ.run X k (σ.kept i k)) → Sound σ.run σ.wire X
  kept_sound i X h k c = (σ.kept i k, h k c.0, I.kept i k)

  -- a summary that is inconsistent with the kept one is no correct station's
  liar : (i j : ℕ) (a : Row) → In (summary j a) σ.wire → Stands (N σ.run) a (σ.kept i j) Inconsistent → Correct σ.run j → ⊥
  liar i j a h bad c = elim (I.kept i j) [
    | inl z ↦ bad (inl (λ o p. omega (arith, z o p)))
    | inr q ↦ bad (I.chain j a (σ.kept i j) c h q)
  ]

inv_step : {M : Mach} {start : M.Q} {σ τ : State M} → Inv start σ → Step σ τ → Inv start τ
inv_step {σ = σ} I (submit o u S c l ch) =
    inv_send (inv_submits I S o u ch) (say o (word o (suc (length (σ.submitted o)))) (op u))
    (λ _. inl (refl, ap (λ x. meant op (slice_get x (length (σ.submitted o)))) ch.0 ∙ ap (meant op) (nth_new (σ.submitted o) u)))
    (λ n X b. unlike_word I o σ.run.leader o (suc (length (σ.submitted o))) n (op u) (mat X) b)
    (λ k a b e c q. unlike I o k (word o (suc (length (σ.submitted o)))) (op u) a e)
inv_step I (summarise i a c h) = inv_summary I i a c h
inv_step {σ = σ} I (propose X c l len h) =
    inv_send (inv_proposes I X) (say σ.run.leader (vote (suc (length σ.proposed))) (mat X))
    (λ _. inl (refl, ap (meant mat) (nth_new σ.proposed X)))
    (λ n Y e. let z : X ≡ Y = cc in subst (Sound σ.run σ.wire) z (kept_sound I σ.run.leader X h))
    (λ k a b e c q. unlike I σ.run.leader k (vote (suc (length σ.proposed))) (mat X) a e)
inv_step I (speak m h) = inv_speak I m h
inv_step I (take_word i o s j v P h e) = inv_echo_word (inv_put I i (word o s) j v P h) i o s j v h.filled.0 e
inv_step I (take_vote i n j v P h e c) = inv_commit (inv_echo_vote (inv_put I i (vote n) j v P h) i n j v h.filled.0 e) i n c
inv_step I (take_commit i n j v P h) = inv_put I i (commit n) j v P h
inv_step I (again i t j v c h e) = I
inv_step I (another i t j v w A c h e d k) = inv_accuse I i j A (λ q. d (said_once I j t w v q (I.source i t j w e) h)) k
inv_step I (newer i j a K c h up k) = inv_keep I i j a K h k
inv_step I (older i j a c h down) = I
inv_step I (inconsistent i j a A c h bad k) = inv_accuse I i j A (liar I i j a h bad) k
inv_step I (execute i x u Xs l q c run here cert cl cq) =
    inv_exec I i (record { origin = x.origin; sequence = x.sequence; operation = u }) Xs l q c run here cert cl cq

pub zero_row : (n o : ℕ) → entry (replicate n 0) o ≡ 0
zero_row zero o = refl
zero_row (suc n) zero = refl
zero_row (suc n) (suc o) = zero_row n o

pub inv_opened : {M : Mach} {start : M.Q} {σ : State M} → Opened start σ → Inv start σ
inv_opened {M} {start} {σ} h = record {
  fit = h.fit;
  source = λ i t j v e. absurd (never (sym (h.place (spot i t j)) ∙ e));
  honest = λ m q. absurd (bare m q);
  sound = λ n X q. absurd (bare (say σ.run.leader (vote n) (mat X)) q);
  chain = λ j a b c p q. absurd (bare (summary j a) p);
  kept = λ i j. inl (λ o l. ap (λ a. entry a o) (h.kept i j) ∙ zero_row (N σ.run) o);
  spared = λ i j p q. ap (λ s. named s j) (h.accused i) ∙ named_none j;
  lists = λ i c. ([], λ n X e. absurd (never e), λ p e q. absurd (never (subst (λ l. slice_get l p ≡ Some e) (h.executed i) q)));
  state = λ i c. h.machine i ∙ ap (stepped M start) (sym (h.executed i));
}
  where
    bare : (m : Message) → In m σ.wire → ⊥
    bare m q = subst (In m) h.wire q

pub inv_later : {M : Mach} {start : M.Q} {σ τ : State M} → Inv start σ → Later σ τ → Inv start τ
inv_later I same = I
inv_later I (step h s) = inv_step (inv_later I h) s

pub invariant : {M : Mach} {start : M.Q} {σ : State M} → Reached start σ → Inv start σ
invariant (first, o, l) = inv_later (inv_opened o) l
