-- The votes on a number as they are read, and the certificate among them.
use Rattle.std.proofs.Common.{◌≡◌, ℕ, ◌+◌, ◌-◌, ◌<◌, ◌≤◌, Bool, true, false, cond, ◌≢◌, List, [], ◌∷◌, ◌++◌, length, get_or, take, drop, set, is_some, Some, None, Option, sym, refl, ap, ◌∙◌, subst, inl, inr, arith, Bor, below_more}
use Rattle.delivery.proofs.Outcomes.{get_d_held, tells_lists}
use Rattle.delivery.specs.Deliveries.{commits, first_vote, prepared_at, votes_at}
use Rattle.delivery.specs.Tellings.{newly}
use Rattle.frames.specs.Said as said
use Rattle.model.proofs.Deciding.{answers_one, certificate_one, certified_by_lem}
use Rattle.model.specs.Decided.{Tells, certified_by}
use Rattle.model.specs.Quorums.{Answers, Certificate, Holds, held, meant, stations}
use Rattle.rows.specs.Caps.{capped_at}
use Rattle.rows.specs.Values.{matrix_of}
use Rattle.rows.specs.declared.owned.Matrix.{Matrix}
use Rattle.std.proofs.lemmas.List.{drop-set-add, ext_get_or, get_or-set_other, get_or-set_same, length-drop, length-map, length-take, drop-map, map-set, take-map, take_all, take-append-le}
use Rattle.std.proofs.lemmas.Bool.{cases_Bool, cases_eq, false≢true, true≢false}
use Rattle.tables.specs.Plans.{Plan}
use Rattle.wire.specs.Wires.{same_list}
use lib.Seq.{take-set-lt}

-- Places that were read one by one are those that are there, as they are read.
pub places_are : (votes items rest : List (Option Matrix)) (limit : ℕ) → length items ≡ length votes
    → ((j : ℕ) → j < length votes → meant matrix_of (get_or items j None) ≡ meant (capped_at limit) (get_or (held matrix_of votes) j None))
    → held matrix_of (take (length votes) (items ++ rest)) ≡ held (capped_at limit) (held matrix_of votes)
places_are votes items rest limit long each =
    let front : take (length votes) (items ++ rest) ≡ items =
    take-append-le (length votes) items rest (omega arith) ∙ take_all (length votes) items (omega arith) in
    ap (held matrix_of) front
    ∙ ext_get_or None _ _ (simp length-map long)
    (λ j h. let l : j < length votes = omega (arith, simp length-map at h) in
    get_d_held matrix_of items j ∙ each j l ∙ sym (get_d_held (capped_at limit) (held matrix_of votes) j))

-- One place more is read.
pub places_more : (votes items : List (Option Matrix)) (k limit : ℕ) (p : Option Matrix) → k < length items
    → ((j : ℕ) → j < k → meant matrix_of (get_or items j None) ≡ meant (capped_at limit) (get_or (held matrix_of votes) j None))
    → meant matrix_of p ≡ meant (capped_at limit) (get_or (held matrix_of votes) k None)
    → (j : ℕ) → j < k + 1 → meant matrix_of (get_or (set items k p) j None) ≡ meant (capped_at limit) (get_or (held matrix_of votes) j None)
places_more votes items k limit p long each here =
    below_more _ k
    (λ j h. let ne : j ≢ k = omega arith in ap (meant matrix_of) (get_or-set_other items k j p None ne) ∙ each j h)
    (ap (meant matrix_of) (get_or-set_same items k p None long) ∙ here)

some_meant : {W V : Type 0} (g : W → V) (r : Option W) → is_some r ≡ is_some (meant g r)
some_meant g (Some u) = refl
some_meant g None = refl

-- A certificate is found exactly where there is one.
pub found : (f head : ℕ) (places : List (Option Matrix)) (r : Option (Bor Matrix)) → Answers (Certificate f (held matrix_of places) head) (meant (λ u. matrix_of u.now) r)
    → is_some r ≡ is_some (certified_by same_list f (held matrix_of places) head)
found f head places r a =
    let vs = held matrix_of places in
    some_meant (λ u. matrix_of u.now) r
    ∙ ap is_some (answers_one (Certificate f vs head) (certificate_one f vs head) (meant (λ u. matrix_of u.now) r) (certified_by same_list f vs head) a (certified_by_lem same_list tells_lists f vs head))

-- The places with one vote more, as they are read.
pub votes_set : (all : List (Option (List ℕ))) (m : List ℕ) (from n j limit : ℕ) → j < n
    → held (capped_at limit) (take n (drop from (set all (from + j) (Some m)))) ≡ set (held (capped_at limit) (take n (drop from all))) j (Some (capped_at limit m))
votes_set all m from n j limit h =
    ap (held (capped_at limit)) (ap (take n) (drop-set-add from all j (Some m)) ∙ take-set-lt n (drop from all) j (Some m) h)
    ∙ map-set (meant (capped_at limit)) (take n (drop from all)) j (Some m)

votes_after : (all : List (Option (List ℕ))) (places : List (Option Matrix)) (m : Matrix) (from n j limit : ℕ) → j < n → capped_at limit (matrix_of m) ≡ matrix_of m
    → held matrix_of (take n places) ≡ held (capped_at limit) (take n (drop from all))
    → held matrix_of (take n (set places j (Some m))) ≡ held (capped_at limit) (take n (drop from (set all (from + j) (Some (matrix_of m)))))
votes_after all places m from n j limit h low before =
    ap (held matrix_of) (take-set-lt n places j (Some m) h)
    ∙ map-set (meant matrix_of) (take n places) j (Some m)
    ∙ ap (λ ps. set ps j (Some (matrix_of m))) before
    ∙ ap (λ x. set (held (capped_at limit) (take n (drop from all))) j (Some x)) (sym low)
    ∙ sym (votes_set all (matrix_of m) from n j limit h)

newly_by : {V : Type 0} (before after : Option V) (r : Bool) → is_some before ≡ false → r ≡ is_some after → r ≡ newly before after
newly_by None (Some v) r b a = a
newly_by None None r b a = a
newly_by (Some w) after r b a = absurd (true≢false b)

newly_not : {V : Type 0} (before after : Option V) → is_some before ≡ true → false ≡ newly before after
newly_not None after b = absurd (false≢true b)
newly_not (Some w) after b = refl

-- The places for a number at station i, as they were read.
module _ (p : Plan) (votes places : List (Option Matrix)) (m : Matrix) (i s j n from : ℕ) (en : n ≡ stations p.faults) (ef : from ≡ first_vote p i s) (within : from + n ≤ length votes)
    (read : held matrix_of (take (length (take (from + n - from) (drop from votes))) places) ≡ held (capped_at p.limit) (held matrix_of (take (from + n - from) (drop from votes)))) where
  read_here : held matrix_of (take n places) ≡ held (capped_at p.limit) (take n (drop from (held matrix_of votes)))
  read_here =
      let z : from + n - from ≡ n = omega arith in
      let long : length (take (from + n - from) (drop from votes)) ≡ n = simp (length-take, length-drop) (omega arith) in
      ap (λ k. held matrix_of (take k places)) (sym long) ∙ read
      ∙ ap (λ k. held (capped_at p.limit) (held matrix_of (take k (drop from votes)))) z
      ∙ ap (held (capped_at p.limit)) (sym (ap (take n) (drop-map (meant matrix_of) from votes) ∙ take-map (meant matrix_of) n (drop from votes)))

  votes_before : held matrix_of (take n places) ≡ votes_at p (held matrix_of votes) i s
  votes_before =
      read_here ∙ ap (λ k. held (capped_at p.limit) (take k (drop from (held matrix_of votes)))) en
      ∙ ap (λ k. held (capped_at p.limit) (take (stations p.faults) (drop k (held matrix_of votes)))) ef

  -- Whether the station is prepared before a vote is taken.
  prepared_before : is_some (certified_by same_list p.faults (held matrix_of (take n places)) p.leader) ≡ is_some (prepared_at p (held matrix_of votes) i s)
  prepared_before = ap (λ ps. is_some (certified_by same_list p.faults ps p.leader)) votes_before

  pub newly_never : is_some (certified_by same_list p.faults (held matrix_of (take n places)) p.leader) ≡ true
      → false ≡ newly (prepared_at p (held matrix_of votes) i s) (prepared_at p (set (held matrix_of votes) (first_vote p i s + j) (Some (matrix_of m))) i s)
  newly_never e =
      newly_not (prepared_at p (held matrix_of votes) i s) (prepared_at p (set (held matrix_of votes) (first_vote p i s + j) (Some (matrix_of m))) i s) (sym prepared_before ∙ e)

  -- It is not, and this says whether it is after.
  pub newly_is : (r : Bool) → j < stations p.faults → capped_at p.limit (matrix_of m) ≡ matrix_of m
      → is_some (certified_by same_list p.faults (held matrix_of (take n places)) p.leader) ≡ false
      → r ≡ is_some (certified_by same_list p.faults (held matrix_of (take n (set places j (Some m)))) p.leader)
      → r ≡ newly (prepared_at p (held matrix_of votes) i s) (prepared_at p (set (held matrix_of votes) (first_vote p i s + j) (Some (matrix_of m))) i s)
  newly_is r h low before after =
      let all = held matrix_of votes in
      let f = p.faults in
      let then : held matrix_of (take n (set places j (Some m))) ≡ votes_at p (set all (first_vote p i s + j) (Some (matrix_of m))) i s =
      votes_after all places m from n j p.limit (omega arith) low read_here
      ∙ ap (λ k. held (capped_at p.limit) (take k (drop from (set all (from + j) (Some (matrix_of m)))))) en
      ∙ ap (λ k. held (capped_at p.limit) (take (stations f) (drop k (set all (k + j) (Some (matrix_of m)))))) ef in
      newly_by (prepared_at p all i s) (prepared_at p (set all (first_vote p i s + j) (Some (matrix_of m))) i s) r
      (sym prepared_before ∙ before)
      (after ∙ ap (λ ps. is_some (certified_by same_list f ps p.leader)) then)

-- ---- the proposal for which a station becomes prepared

module _ {V : Type 0} (places : List (Option V)) (j : ℕ) (m x : V) (within : j < length places) (other : x ≡ m → ⊥) where
  held_before : (k : ℕ) → Holds (set places j (Some m)) x k → Holds places x k
  held_before k h =
      elim (cases_eq k j) [
        | inl e ↦
            let s = get_or-set_same places j (Some m) None within in
            let d : get_or (set places j (Some m)) k None ≡ get_or (set places j (Some m)) j None = ap (λ i. get_or (set places j (Some m)) i None) e in
            let same : Some m ≡ Some x = sym s ∙ sym d ∙ h in
            absurd (other cc)
        | inr ne ↦ sym (get_or-set_other places j k (Some m) None ne) ∙ h
      ]

  certificate_before : (f head : ℕ) → Certificate f (set places j (Some m)) head x → Certificate f places head x
  certificate_before f head (c, (set, w, few, a)) = (held_before head c, (set, w, few, λ k n. let b = a k n in (b.0, held_before k b.1)))

-- A word that has a certificate only once a place took it is the one that was taken.
pub new_word : {V : Type 0} (same : V → V → Bool) → Tells same → (f : ℕ) (places : List (Option V)) (head j : ℕ) (m x : V) → j < length places
    → certified_by same f places head ≡ None → certified_by same f (set places j (Some m)) head ≡ Some x → x ≡ m
new_word same tells f places head j m x within before after =
    let now = set places j (Some m) in
    let none = subst (Answers (Certificate f places head)) before (certified_by_lem same tells f places head) in
    let some = subst (Answers (Certificate f now head)) after (certified_by_lem same tells f now head) in
    elim (cases_Bool (same x m)) [
      | inl e ↦ (tells x m).0 e
      | inr ne ↦ absurd (none x (certificate_before places j m x within (λ e. false≢true (sym ne ∙ (tells x m).1 e)) f head some))
    ]

commits_by : (i f s : ℕ) (before after : Option (List ℕ)) (m : List ℕ) → ((x : List ℕ) → before ≡ None → after ≡ Some x → x ≡ m)
    → commits i f s before after ≡ cond (newly before after) (said.commit i f s m ∷ []) []
commits_by i f s None (Some x) m is = ap (λ y. said.commit i f s y ∷ []) (is x refl refl)
commits_by i f s None None m is = refl
commits_by i f s (Some w) after m is = refl

-- The commit of a station that becomes prepared is for the matrix that was taken.
pub commit_is : (p : Plan) (all : List (Option (List ℕ))) (m : List ℕ) (i s j : ℕ) → first_vote p i s + stations p.faults ≤ length all → j < stations p.faults → capped_at p.limit m ≡ m
    → commits i p.faults s (prepared_at p all i s) (prepared_at p (set all (first_vote p i s + j) (Some m)) i s)
    ≡ cond (newly (prepared_at p all i s) (prepared_at p (set all (first_vote p i s + j) (Some m)) i s)) (said.commit i p.faults s m ∷ []) []
commit_is p all m i s j within h low =
    let n = stations p.faults in
    let from = first_vote p i s in
    let places = votes_at p all i s in
    let long : length places ≡ n = simp (length-map, length-take, length-drop) (omega arith) in
    commits_by i p.faults s (prepared_at p all i s) (prepared_at p (set all (from + j) (Some m)) i s) m (λ x before after.
    new_word same_list tells_lists p.faults places p.leader j (capped_at p.limit m) x (omega arith) before
    (ap (λ ps. certified_by same_list p.faults ps p.leader) (sym (votes_set all m from n j p.limit h)) ∙ after)
    ∙ low)
