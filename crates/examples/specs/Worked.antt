use Rattle.std.specs.Prelude.{ℕ, Bool, true, false, ◌&&◌, List, [], ◌∷◌, map, Some, None, Option, ◌==◌, nat_eq}
use Rattle.canal.specs.GateOrders.{Order, order, packed}
use Rattle.frames.specs.Said.{Said, request, summary}
use Rattle.frames.specs.Writing.{frame}
use Rattle.model.specs.Decided.{certified_by}
use Rattle.model.specs.Quorums.{Answers, Certificate}
use Rattle.order.specs.Columns.{Matrix, column}
use Rattle.order.specs.Orders as orders
use Rattle.order.specs.Rows.{standing}
use Rattle.order.specs.declared.key.Key.{Key}
use Rattle.order.specs.declared.standing.Standing.{Standing}
use Rattle.order.specs.declared.standing.Standing.TheVariants.{Newer, Known, Inconsistent}
use Rattle.std.specs.Int.Digits.{number_from_digits}

-- An example that the rules give. Those of rows, columns and places are of four stations, of which one may be faulty.
pub data Example : Type 0 where
  -- a gate order and the eight bytes of its packed form
  packs : Order → List ℕ → Example
  -- what a frame says, and its bytes
  writes : Said → List ℕ → Example
  -- the column of an origin, and its value
  values : List ℕ → ℕ → Example
  -- the values of the columns of one proposal after the other, and the order that they give
  ranks : List (List ℕ) → List Key → Example
  -- what the four places of origin 0 hold, and the word with a certificate
  certifies : List (Option ℕ) → Option ℕ → Example
  -- a new row, the kept row, and how the new one stands to it
  compares : List ℕ → List ℕ → Standing → Example

abbrev pub same_numbers : List ℕ → List ℕ → Bool
same_numbers [] [] = true
same_numbers [] (y ∷ ys) = false
same_numbers (x ∷ xs) [] = false
same_numbers (x ∷ xs) (y ∷ ys) = x == y && same_numbers xs ys

abbrev pub same_keys : List Key → List Key → Bool
same_keys [] [] = true
same_keys [] (y ∷ ys) = false
same_keys (x ∷ xs) [] = false
same_keys (x ∷ xs) (y ∷ ys) = x.origin == y.origin && (x.sequence == y.sequence && same_keys xs ys)

abbrev pub same_word : Option ℕ → Option ℕ → Bool
same_word None None = true
same_word None (Some v) = false
same_word (Some u) None = false
same_word (Some u) (Some v) = u == v

abbrev pub rank : Standing → ℕ
rank Newer = 0
rank Known = 1
rank Inconsistent = 2

-- a matrix whose column for origin 0 has these entries, and one all of whose rows are the same
abbrev pub first_column : List ℕ → Matrix
first_column [] = []
first_column (x ∷ xs) = x ∷ 0 ∷ 0 ∷ 0 ∷ first_column xs

abbrev pub four_rows : List ℕ → Matrix
four_rows [] = []
four_rows (a ∷ []) = []
four_rows (a ∷ b ∷ []) = []
four_rows (a ∷ b ∷ c ∷ []) = []
four_rows (a ∷ b ∷ c ∷ d ∷ rest) = a ∷ b ∷ c ∷ d ∷ a ∷ b ∷ c ∷ d ∷ a ∷ b ∷ c ∷ d ∷ a ∷ b ∷ c ∷ d ∷ []

abbrev pub holds : Example → Bool
holds (packs o bytes) = packed o == number_from_digits 256 bytes
holds (writes said bytes) = same_numbers (frame said) bytes
holds (values xs v) = column 1 5 (first_column xs) 0 == v
holds (ranks rows keys) = same_keys (orders.order 1 2 (map four_rows rows)) keys
holds (certifies places word) = same_word (certified_by nat_eq 1 places 0) word
holds (compares new kept s) = rank (standing 4 new kept) == rank s

abbrev pub last_minute : Order
last_minute = order 5 1200 366 1439 1

abbrev pub worked : List Example
worked =
    packs last_minute (0x45 ∷ 0x4B ∷ 0x0B ∷ 0x75 ∷ 0x9F ∷ 0x00 ∷ 0x00 ∷ 0x01 ∷ [])
    ∷ writes (request 2 1 1 (packed last_minute)) (0x24 ∷ 0x41 ∷ 0x45 ∷ 0x4B ∷ 0x0B ∷ 0x75 ∷ 0x9F ∷ 0x00 ∷ 0x00 ∷ 0x01 ∷ [])
    ∷ writes (summary 3 1 (1 ∷ 0 ∷ 2 ∷ 0 ∷ [])) (0x66 ∷ 0x40 ∷ 0x04 ∷ 0x00 ∷ 0x80 ∷ [])
    ∷ values (3 ∷ 1 ∷ 2 ∷ 0 ∷ []) 1
    ∷ values (2 ∷ 2 ∷ 2 ∷ 0 ∷ []) 2
    ∷ values (5 ∷ 5 ∷ 0 ∷ 0 ∷ []) 0
    ∷ ranks ((1 ∷ 0 ∷ 0 ∷ 1 ∷ []) ∷ (2 ∷ 0 ∷ 0 ∷ 1 ∷ []) ∷ (1 ∷ 0 ∷ 0 ∷ 0 ∷ []) ∷ []) (orders.key 0 1 ∷ orders.key 3 1 ∷ orders.key 0 2 ∷ [])
    ∷ certifies (Some 7 ∷ Some 7 ∷ Some 8 ∷ None ∷ []) None
    ∷ certifies (Some 7 ∷ Some 7 ∷ Some 7 ∷ None ∷ []) (Some 7)
    ∷ certifies (None ∷ Some 7 ∷ Some 7 ∷ Some 7 ∷ []) None
    ∷ compares (0 ∷ 1 ∷ 2 ∷ 0 ∷ []) (1 ∷ 0 ∷ 2 ∷ 0 ∷ []) Inconsistent
    ∷ compares (1 ∷ 0 ∷ 1 ∷ 0 ∷ []) (1 ∷ 0 ∷ 2 ∷ 0 ∷ []) Known
    ∷ []

abbrev pub all_hold : List Example → Bool
all_hold [] = true
all_hold (e ∷ es) = holds e && all_hold es

-- The certificate that is computed is the certificate.
abbrev pub Computed : Type 0
Computed = (f : ℕ) (places : List (Option ℕ)) (head : ℕ) → Answers (Certificate f places head) (certified_by nat_eq f places head)
