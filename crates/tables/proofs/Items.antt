-- Items of a table, by meaning.
use Rattle.std.proofs.Common.{◌≡◌, ℕ, zero, suc, List, [], ◌∷◌, length, map, Some, None, Option, sym, refl, ap, ◌∙◌, Bor}
use Rattle.std.proofs.lemmas.Option.{slice_get-map, slice_get_past, slice_get_read}
use Rattle.std.specs.Slice.{IsItemAt}
use Rattle.tables.specs.Reading.{joined}
use Rattle.std.specs.Option.{option_map}
use Rattle.std.specs.List.{slice_get}

behind : {X Y : Type 0} (f : X → Y) (o : Option (Bor X)) → option_map (λ r. f r.now) o ≡ option_map f (option_map (λ x. x.now) o)
behind f None = refl
behind f (Some r) = refl

item_at : {X : Type 0} (xs : List X) (i : ℕ) (o : Option (Bor X)) → IsItemAt xs i o → option_map (λ x. x.now) o ≡ slice_get xs i
item_at xs i None h = sym (slice_get_past xs i h.3)
item_at xs i (Some x) h = sym (slice_get_read xs (length xs) i x.now refl h.3.0 h.1)

-- What is read at a place of a table is its meaning there.
pub read_at : {X Y : Type 0} (f : X → Y) (o : Option (Bor X)) (xs : List X) (i : ℕ) → IsItemAt xs i o → option_map (λ r. f r.now) o ≡ slice_get (map f xs) i
read_at f o xs i h = behind f o ∙ ap (option_map f) (item_at xs i o h) ∙ sym (slice_get-map f xs i)

joined_map : {X Y : Type 0} (f : X → Y) (xs : List (Option X)) (i : ℕ) → option_map f (joined (slice_get xs i)) ≡ joined (slice_get (map (option_map f) xs) i)
joined_map f [] i = refl
joined_map f (x ∷ xs) zero = refl
joined_map f (x ∷ xs) (suc i) = joined_map f xs i

-- What is present at a place of a table is its meaning there.
pub read_present : {X Y : Type 0} (f : X → Y) (o : Option (Bor X)) (xs : List (Option X)) (i : ℕ) → option_map (λ x. x.now) o ≡ joined (slice_get xs i)
    → option_map (λ r. f r.now) o ≡ joined (slice_get (map (option_map f) xs) i)
read_present f o xs i e = behind f o ∙ ap (option_map f) e ∙ joined_map f xs i
