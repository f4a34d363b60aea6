-- A delivery, stage by stage.
use Rattle.std.proofs.Common.{◌≡◌, ℕ, ◌+◌, Bool, true, false, ltb, length, Ok, Err, Option, Result, sym, ap, ◌∙◌}
use Rattle.delivery.specs.Deliveries.{Effect, delivery, heard, hears, misnamed, room_for}
use Rattle.delivery.specs.Tellings.{Told, told}
use Rattle.frames.specs.Said.{Said}
use Rattle.frames.specs.Writing.{frame}
use Rattle.model.specs.Faults.{fault}
use Rattle.model.specs.declared.fault.Fault.{Fault}
use Rattle.model.specs.declared.fault.Reason.TheVariants.{WireFull, WrongSender}
use Rattle.std.proofs.lemmas.List.{length-map}
use Rattle.tables.specs.Contents.{Contents}
use Rattle.tables.specs.Plans.{Plan}
use Rattle.tables.specs.Refusing.{refuse, seen_as, then}
use Rattle.tables.specs.Runs.{lengths_in}
use Rattle.tables.specs.Stations.{correct_in}
use Rattle.wire.specs.Wires.{frame_at}

-- What is left once the station and the frame are known.
abbrev rest : {Q : Type 0} → Plan → ℕ → Contents Q → ℕ → Said → Result Effect Fault
rest p end c j said = refuse (misnamed p said) WrongSender (room_for p end (hears p c j (heard said)))

-- By the places that are left on the wire.
by_room : (p : Plan) (end : ℕ) (e : Effect) (x : Told) (b : Bool) → x ≡ told e → b ≡ ltb p.wire (end + length x.frames) → room_for p end e ≡ refuse b WireFull (Ok e)
by_room p end e x b tells full =
    let long : length x.frames ≡ length e.says = ap (λ y. length y.frames) tells ∙ length-map e.says frame in
    ap (λ b. refuse b WireFull (Ok e)) (sym (full ∙ ap (λ n. ltb p.wire (end + n)) long))

-- The station and the frame are known, and the frame is rightly named.
module _ {Q : Type 0} (refused : ℕ → Option Fault) (p : Plan) (end : ℕ) (c : Contents Q) (i k j : ℕ) (said : Said) (m b : Bool) (x : Told)
    (at : Ok j ≡ correct_in p (lengths_in c) i) (read : Ok said ≡ frame_at refused p end c.wire k) (is : m ≡ misnamed p said) (own : m ≡ false)
    (tells : x ≡ told (hears p c j (heard said))) (full : b ≡ ltb p.wire (end + length x.frames)) where
  after_room : delivery refused p end c i k ≡ refuse b WireFull (Ok (hears p c j (heard said)))
  after_room =
      let next : ℕ → Result Effect Fault = λ j. then (frame_at refused p end c.wire k) (rest p end c j) in
      ap (λ r. then r next) (sym at)
      ∙ ap (λ r. then r (rest p end c j)) (sym read)
      ∙ ap (λ b. refuse b WrongSender (room_for p end (hears p c j (heard said)))) (sym is ∙ own)
      ∙ by_room p end (hears p c j (heard said)) x b tells full

  pub wire_full : (e : Fault) → b ≡ true → e ≡ fault WireFull 0 → ◌≡◌ {A = Result Told Fault} (Err e) (seen_as told (delivery refused p end c i k))
  wire_full e holds ee = ap Err ee ∙ sym (ap (seen_as told) (after_room ∙ ap (λ b. refuse b WireFull (Ok (hears p c j (heard said)))) holds))

  pub delivered : b ≡ false → ◌≡◌ {A = Result Told Fault} (Ok x) (seen_as told (delivery refused p end c i k))
  delivered left = ap Ok tells ∙ sym (ap (seen_as told) (after_room ∙ ap (λ b. refuse b WireFull (Ok (hears p c j (heard said)))) left))
