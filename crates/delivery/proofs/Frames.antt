-- What a first vote that is taken makes.
use Rattle.std.proofs.Common.{◌≡◌, ℕ, ◌+◌, ◌<◌, ◌≤◌, Bool, cond, not, ◌&&◌, eqb, List, [], ◌∷◌, ◌++◌, map, length, set, Some, None, Option, sym, ap, ◌∙◌, subst}
use Rattle.delivery.proofs.Prepares.{commit_is}
use Rattle.delivery.proofs.Settling.{says_then}
use Rattle.delivery.specs.Deliveries as rules
use Rattle.delivery.specs.Deliveries.{commits, echoes, first_vote, prepared_at}
use Rattle.delivery.specs.Hearings.{Makes, says}
use Rattle.delivery.specs.Tellings.{Lies, Told, change_by, frame_in, frames_in, newly, takes}
use Rattle.delivery.specs.declared.change.Change.TheVariants as change
use Rattle.delivery.specs.declared.change.Delivery.{Delivery}
use Rattle.delivery.specs.declared.outcome.Outcome.{Outcome}
use Rattle.delivery.specs.declared.outcome.Outcome.TheVariants.{Taken}
use Rattle.frames.specs.declared.kind.Message.{Message}
use Rattle.frames.specs.declared.kind.Message.TheVariants as message
use Rattle.std.specs.Bool.{then_some}
use Rattle.frames.specs.Said as said
use Rattle.frames.specs.Writing.{frame}
use Rattle.model.specs.Quorums.{stations}
use Rattle.rows.specs.Caps.{capped_at}
use Rattle.rows.specs.Values.{matrix_of}
use Rattle.rows.specs.declared.owned.Matrix.{Matrix}
use Rattle.std.proofs.lemmas.List.{map-append}
use Rattle.tables.specs.Plans.{Lengths, Plan}
use Rattle.tables.specs.declared.tables.Slot.{Slot}

same_told : (o p : Outcome) (c d : rules.Change) (fs gs : List (List ℕ)) → o ≡ p → c ≡ d → fs ≡ gs
    → ◌≡◌ {A = Told} (record { outcome = o; change = c; frames = fs }) (record { outcome = p; change = d; frames = gs })
same_told o p c d fs gs eo ec ef = rw (eo, ec, ef)

-- A first vote that is taken makes its change, and the frames that the station then sends.
pub vote_makes : {Op : Type 0} (bits : Op → ℕ) (p : Plan) (t : Lengths) (all : List (Option (List ℕ))) (m : Matrix) (i s j at : ℕ) (d : Delivery Op) (one next : Option Slot) (echo commit : Option Message) (e c : Bool)
    → d.outcome ≡ Taken → d.change ≡ change.First at m → frames_in d ≡ frame_in one ++ frame_in next → (d.first ≡ None → d.second ≡ None)
    → at ≡ first_vote p i s + j → at < t.votes
    → frame_in one ≡ map frame (says i p.faults echo) → echo ≡ then_some e (message.Prepare s m) → e ≡ (eqb j p.leader && not (eqb i p.leader))
    → frame_in next ≡ map frame (says i p.faults commit) → commit ≡ then_some c (message.Commit s m)
    → c ≡ newly (prepared_at p all i s) (prepared_at p (set all (first_vote p i s + j) (Some (matrix_of m))) i s)
    → first_vote p i s + stations p.faults ≤ length all → j < stations p.faults → capped_at p.limit (matrix_of m) ≡ matrix_of m
    → Makes bits t i (takes p all i s j (matrix_of m)) d
vote_makes bits p t all m i s j at d one next echo commit e c eo ec ef o is fits eone oone ee enext onext en within h low =
    let f = p.faults in
    let x = matrix_of m in
    let prepares = echoes i p.leader j (said.prepare i f s x) in
    let committed = commits i f s (prepared_at p all i s) (prepared_at p (set all (first_vote p i s + j) (Some x)) i s) in
    let a : frame_in one ≡ map frame prepares = eone ∙ ap (map frame) (ap (says i f) oone ∙ says_then i f (message.Prepare s m) e ∙ ap (λ b. cond b (said.prepare i f s x ∷ []) []) ee) in
    let b : frame_in next ≡ map frame committed =
    enext ∙ ap (map frame) (ap (says i f) onext ∙ says_then i f (message.Commit s m) c ∙ ap (λ b. cond b (said.commit i f s x ∷ []) []) en ∙ sym (commit_is p all x i s j within h low)) in
    record {
      tells = same_told d.outcome Taken (change_by bits d.change) (rules.first (first_vote p i s + j) x) (frames_in d) (map frame (prepares ++ committed)) eo
          (ap (change_by bits) ec ∙ ap (λ k. rules.first k x) is)
          (ef ∙ ap (λ l. l ++ frame_in next) a ∙ ap (λ l. map frame prepares ++ l) b ∙ sym (map-append frame prepares committed));
      placed = record { lies = subst (Lies t i) (sym ec) fits; ordered = o };
    }
