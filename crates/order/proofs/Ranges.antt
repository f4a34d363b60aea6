-- Tests over numbers, and over the lists of them that ranges give.
use Rattle.std.proofs.Common.{◌≡◌, ℕ, zero, suc, ◌+◌, Bool, true, false, ◌&&◌, ◌||◌, [], ◌∷◌, ◌++◌, refl, ap, ◌∙◌, arith}
use Rattle.std.specs.List.{sum_by, range_with_len, list_all, list_any}
use Rattle.std.proofs.lemmas.List.Sums.{sum_by-append}
use Rattle.order.specs.Orders.{total}
use Rattle.std.proofs.lemmas.List.Folds.{list_all-append, list_any-append}
use Rattle.order.specs.Rows.{every, any}

-- the last number of a range stands at its end
pub range_more : (n a j : ℕ) → a + n ≡ j → range_with_len a (suc n) ≡ range_with_len a n ++ j ∷ []
range_more zero a j e = ap (λ x. x ∷ []) (omega arith)
range_more (suc n) a j e = ap (λ xs. a ∷ xs) (range_more n (a + 1) j (omega arith))

and_last : (x t : Bool) → (x && (t && true)) ≡ (t && x)
and_last true true = refl
and_last true false = refl
and_last false true = refl
and_last false false = refl

or_last : (x t : Bool) → (x || (t || false)) ≡ (t || x)
or_last true true = refl
or_last true false = refl
or_last false true = refl
or_last false false = refl

module _ (test : ℕ → Bool) where
  -- whether all numbers below n pass, and whether some do
  pub every_range : (n : ℕ) → list_all test (range_with_len 0 n) ≡ every n test
  every_range zero = refl
  every_range (suc n) =
      ap (list_all test) (range_more n 0 n (omega arith)) ∙ list_all-append test (range_with_len 0 n) (n ∷ []) ∙ and_last (list_all test (range_with_len 0 n)) (test n)
      ∙ ap (λ b. test n && b) (every_range n)

  pub any_range : (n : ℕ) → list_any test (range_with_len 0 n) ≡ any n test
  any_range zero = refl
  any_range (suc n) =
      ap (list_any test) (range_more n 0 n (omega arith)) ∙ list_any-append test (range_with_len 0 n) (n ∷ []) ∙ or_last (list_any test (range_with_len 0 n)) (test n)
      ∙ ap (λ b. test n || b) (any_range n)

-- the sum over all numbers below n
pub total_range : (g : ℕ → ℕ) (n : ℕ) → sum_by g (range_with_len 0 n) ≡ total n g
total_range g zero = refl
total_range g (suc n) =
    ap (sum_by g) (range_more n 0 n (omega arith)) ∙ sum_by-append g (range_with_len 0 n) (n ∷ []) ∙ omega (arith, total_range g n)
