-- Tests over all numbers below n, and the two questions on rows.
use Rattle.std.proofs.Common.{◌≡◌, ℕ, zero, suc, ◌+◌, ◌<◌, ◌≤◌, Bool, true, false, ltb, leb, ◌⊎◌, Decides, sym, refl, ap, ◌∙◌, subst, inl, inr, ⊎_elim, add-one, arith}
use Rattle.std.proofs.lemmas.List.{ext_get_or}
use Rattle.std.proofs.lemmas.Bool.{cases_Bool, cases_eq, cases_lt, or_from, or_left, or_right, leb-true, le-leb}
use Rattle.std.proofs.lemmas.Bool.Decides.{Decides-below_and, Decides-below_or, Decides-ltb, not_from_Decides}
use Rattle.order.specs.Laws.{Questions, Stands, Standings, Itself, Transitive, Equal, RowLaws}
use Rattle.order.specs.Rows.{Row, entry, any, none_smaller, some_larger, standing, UpToDate, Larger}
use Rattle.order.specs.declared.standing.Standing.{Standing}
use Rattle.order.specs.declared.standing.Standing.TheVariants.{Newer, Known, Inconsistent}

module _ (test : ℕ → Bool) where
  pub any_more : (i : ℕ) → any i test ≡ false → test i ≡ false → any (i + 1) test ≡ false
  any_more i h t = rw add-one (or_from (test i) (any i test) t h)

  pub any_finds : (n k : ℕ) → k < n → test k ≡ true → any n test ≡ true
  any_finds zero k l t = absurd (omega arith)
  any_finds (suc n) k l t =
      elim (cases_eq k n) [
        | inl e ↦ or_left (test n) (any n test) (ap test (sym e) ∙ t)
        | inr ne ↦ or_right (test n) (any n test) (any_finds n k (omega arith) t)
      ]

decides_leb : (a b : ℕ) → Decides (leb a b) (a ≤ b)
decides_leb a b = (leb-true a b, le-leb a b)

pub none_smaller_lem : (n : ℕ) (a b : Row) → Decides (none_smaller n a b) (UpToDate n a b)
none_smaller_lem n a b =
    Decides-below_and (λ o. leb (entry b o) (entry a o)) (λ o. entry b o ≤ entry a o) (λ m. none_smaller m a b) (λ o. decides_leb (entry b o) (entry a o)) refl (λ _. refl) n

pub some_larger_lem : (n : ℕ) (a b : Row) → Decides (some_larger n a b) (Larger n a b)
some_larger_lem n a b =
    Decides-below_or (λ o. ltb (entry b o) (entry a o)) (λ o. entry b o < entry a o) (λ m. some_larger m a b) (λ o. Decides-ltb (entry b o) (entry a o)) refl (λ _. refl) n

pub questions : Questions
questions n a b = (none_smaller_lem n a b, some_larger_lem n a b)

-- ---- the laws of rows

not_larger : (n : ℕ) (a b : Row) → (Larger n a b → ⊥) → UpToDate n b a
not_larger n a b h o l = elim (cases_lt (entry b o) (entry a o)) [ inl lt ↦ absurd (h (o, l, lt)) | inr le ↦ le ]

not_both : (n : ℕ) (a b : Row) → UpToDate n b a → Larger n a b → ⊥
not_both n a b h (o, l, lt) = omega (arith, h o l)

pub standings : Standings
standings n new kept = go (cases_Bool (some_larger n new kept)) (cases_Bool (none_smaller n new kept))
  where
    larger : some_larger n new kept ≡ false → UpToDate n kept new
    larger e = not_larger n new kept (not_from_Decides (some_larger n new kept) (some_larger_lem n new kept) e)

    one : (s : Standing) → standing n new kept ≡ s → Stands n new kept s → ((t : Standing) → Stands n new kept t → t ≡ s)
        → Stands n new kept (standing n new kept) × ((t : Standing) → Stands n new kept t → t ≡ standing n new kept)
    one s e h u = (subst (Stands n new kept) (sym e) h, λ t k. u t k ∙ sym e)

    newer : UpToDate n new kept → Larger n new kept → (t : Standing) → Stands n new kept t → t ≡ Newer
    newer u l Newer h = refl
    newer u l Known h = absurd (not_both n new kept h l)
    newer u l Inconsistent h = absurd (h (inl u))

    known : UpToDate n kept new → (t : Standing) → Stands n new kept t → t ≡ Known
    known u Newer h = absurd (not_both n new kept u h.1)
    known u Known h = refl
    known u Inconsistent h = absurd (h (inr u))

    apart : (UpToDate n new kept → ⊥) → Larger n new kept → (t : Standing) → Stands n new kept t → t ≡ Inconsistent
    apart u l Newer h = absurd (u h.0)
    apart u l Known h = absurd (not_both n new kept h l)
    apart u l Inconsistent h = refl

    go : (some_larger n new kept ≡ true) ⊎ (some_larger n new kept ≡ false) → (none_smaller n new kept ≡ true) ⊎ (none_smaller n new kept ≡ false)
        → Stands n new kept (standing n new kept) × ((t : Standing) → Stands n new kept t → t ≡ standing n new kept)
    go (inr e) d = one Known (rw e refl) (larger e) (known (larger e))
    go (inl e) (inl d) =
        let l = (some_larger_lem n new kept).0 e in let u = (none_smaller_lem n new kept).0 d in one Newer (rw (e, d) refl) (u, l) (newer u l)
    go (inl e) (inr d) =
        let l = (some_larger_lem n new kept).0 e in let u = not_from_Decides (none_smaller n new kept) (none_smaller_lem n new kept) d in
        one Inconsistent (rw (e, d) refl) (⊎_elim u (λ h. not_both n new kept h l)) (apart u l)

pub transitive : Transitive
transitive n a b c h k o l = omega (arith, h o l, k o l)

pub itself : Itself
itself n a = let u : UpToDate n a a = λ o l. omega arith in (u, sym ((standings n a a).1 Known u))

pub equal : Equal
equal n a b la lb h k = ext_get_or 0 a b (la ∙ sym lb) (λ o l. omega (arith, h o (omega arith), k o (omega arith)))

pub row_laws : RowLaws
row_laws = record { questions = questions; standings = standings; itself = itself; transitive = transitive; equal = equal }
