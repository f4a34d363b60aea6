use Rattle.std.proofs.Common.{◌≡◌, ℕ, Bool, List, take, set, Some, sym, ap, ◌∙◌}
use Rattle.canal.proofs.Fronts.{take-set-front}
use Rattle.gates.specs.Boards.{Board, answered, moment, moved_by, verdict}
use Rattle.canal.specs.GateOrders.{Order}
use Rattle.gates.specs.declared.board.Gate.{Gate}
use Rattle.gates.specs.declared.board.GateCode.TheVariants.{Moved}
use Rattle.gates.specs.declared.board.Moment.{Moment}

abbrev board : Bool → List Gate → Board
board leap gates = record { leap = leap; gates = gates }

abbrev gate : Order → Moment → Gate
gate o m = record { opening = o.opening; last = Some m }

-- A write into the array is a move of the board.
pub moves : (leap : Bool) (n : ℕ) (gates : List Gate) (o : Order) (m : Moment) → m ≡ moment o → verdict (board leap (take n gates)) o ≡ Moved
    → board leap (take n (set gates o.gate (gate o m))) ≡ moved_by (board leap (take n gates)) o
moves leap n gates o m e v =
    ap (λ x. board leap (take n (set gates o.gate (gate o x)))) e
    ∙ ap (λ gs. board leap gs) (take-set-front n gates o.gate (gate o (moment o)))
    ∙ sym (ap (λ k. answered k (board leap (take n gates)) o) v)
