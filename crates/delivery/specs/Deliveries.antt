-- What the delivery of a frame does at a station.
use Rattle.std.specs.Prelude.{ℕ, ◌+◌, ◌-◌, ◌*◌, Bool, false, cond, not, ◌&&◌, List, [], ◌∷◌, ◌++◌, length, take, drop, Some, None, Ok, Option, Result, ◌==◌, nat_eq, nat_lt, slice_index_or, slice_set}
use Rattle.delivery.specs.declared.outcome.Outcome.{Outcome}
use Rattle.delivery.specs.declared.outcome.Outcome.TheVariants.{Taken, Known, TwoFaced}
use Rattle.frames.specs.Said as said
use Rattle.frames.specs.Said.{Said}
use Rattle.model.specs.Decided.{certified_by}
use Rattle.model.specs.Quorums.{held, meant, stations}
use Rattle.model.specs.declared.fault.Fault.{Fault}
use Rattle.model.specs.declared.fault.Reason.TheVariants.{WireFull, WrongSender}
use Rattle.order.specs.Rows.{read, standing}
use Rattle.order.specs.declared.standing.Standing.{Standing}
use Rattle.order.specs.declared.standing.Standing.TheVariants.{Newer, Inconsistent}
use Rattle.order.specs.declared.standing.Standing.TheVariants as stands
use Rattle.rows.specs.Caps.{capped_at}
use Rattle.tables.specs.Contents.{Contents}
use Rattle.tables.specs.Plans.{Plan}
use Rattle.tables.specs.Reading.{first_place}
use Rattle.tables.specs.Refusing.{refuse, then}
use Rattle.tables.specs.Runs.{lengths_in}
use Rattle.tables.specs.Stations.{correct_in}
use Rattle.wire.specs.Wires.{frame_at, same_list}

-- ---- what is heard

-- A speaker's word on a topic, or a speaker's row. A topic is an origin's sequence, the first votes on a number, or the commits on it.
pub data Heard : Type 0 where
  word : (origin sequence speaker operation : ℕ) → Heard
  vote : (number speaker : ℕ) (matrix : List ℕ) → Heard
  commit : (number speaker : ℕ) (matrix : List ℕ) → Heard
  row : (speaker : ℕ) (entries : List ℕ) → Heard

-- A request is the origin's word on its sequence, an ack another's; a proposal is the leader's first vote, a prepare another's.
abbrev pub heard : Said → Heard
heard (said.request s f q u) = word s q s u
heard (said.ack s f q o u) = word o q s u
heard (said.summary s f a) = row s a
heard (said.proposal s f q m) = vote q s m
heard (said.prepare s f q m) = vote q s m
heard (said.commit s f q m) = commit q s m

-- A proposal that is not the leader's, a prepare that is, an ack that is its origin's.
abbrev pub misnamed : Plan → Said → Bool
misnamed p (said.request s f q u) = false
misnamed p (said.ack s f q o u) = s == o
misnamed p (said.summary s f a) = false
misnamed p (said.proposal s f q m) = not (s == p.leader)
misnamed p (said.prepare s f q m) = s == p.leader
misnamed p (said.commit s f q m) = false

-- ---- places

-- Where the places of a number begin at a station, among the first votes or the commits.
abbrev pub first_vote : Plan → ℕ → ℕ → ℕ
first_vote p i n = (i * p.limit + (n - 1)) * stations p.faults

-- These places, speaker by speaker, as they are read: an entry above the watch length as the watch length.
abbrev pub votes_at : Plan → List (Option (List ℕ)) → ℕ → ℕ → List (Option (List ℕ))
votes_at p votes i n = held (capped_at p.limit) (take (stations p.faults) (drop (first_vote p i n) votes))

-- The proposal for which the station is prepared: the leader's place holds it, and at least 2f others hold the same.
abbrev pub prepared_at : Plan → List (Option (List ℕ)) → ℕ → ℕ → Option (List ℕ)
prepared_at p votes i n = certified_by same_list p.faults (votes_at p votes i n) p.leader

-- An empty place takes a word, a place with the same word knows it, and another word there shows the speaker to be two-faced.
abbrev pub meets : {V : Type 0} → (V → V → Bool) → Option V → V → Outcome
meets same None v = Taken
meets same (Some w) v = cond (same w v) Known TwoFaced

-- A row that is more up-to-date than the kept one is taken, one that is equal or older is known, any other is inconsistent.
abbrev pub ranks : Standing → Outcome
ranks Newer = Taken
ranks stands.Known = Known
ranks Inconsistent = TwoFaced

-- ---- what is sent

-- A station that took the opener's word on a topic, and is not the opener, says the same.
abbrev pub echoes : ℕ → ℕ → ℕ → Said → List Said
echoes i opener speaker says = cond (speaker == opener && not (i == opener)) (says ∷ []) []

-- A station that was not prepared, and now is, sends a commit.
abbrev pub commits : ℕ → ℕ → ℕ → Option (List ℕ) → Option (List ℕ) → List Said
commits i f n None (Some x) = said.commit i f n x ∷ []
commits i f n None None = []
commits i f n (Some w) after = []

-- ---- what is changed

-- Nothing, one place, one kept row, or the station's accusation set.
pub data Change : Type 0 where
  nothing : Change
  place : (at operation : ℕ) → Change
  first : (at : ℕ) (matrix : List ℕ) → Change
  second : (at : ℕ) (matrix : List ℕ) → Change
  keep : (at : ℕ) (entries : List ℕ) → Change
  accuse : (speaker : ℕ) → Change

-- What a delivery answers, changes and sends.
pub record Effect : Type 0 where
  pub outcome : Outcome
  pub change : Change
  pub says : List Said

-- By its outcome: a taken word makes this change and says this, a known one nothing, another accuses the speaker.
abbrev pub effect : Outcome → ℕ → Change → List Said → Effect
effect Taken speaker change says = record { outcome = Taken; change = change; says = says }
effect Known speaker change says = record { outcome = Known; change = nothing; says = [] }
effect TwoFaced speaker change says = record { outcome = TwoFaced; change = accuse speaker; says = [] }

-- What hearing this does at station i.
abbrev pub hears : {Q : Type 0} → Plan → Contents Q → ℕ → Heard → Effect
hears p c i (word o q j u) =
    let at = first_place (stations p.faults) p.limit i o q + j in
    effect (meets nat_eq (slice_index_or c.words at None) u) j (place at u) (echoes i o j (said.ack i p.faults q o u))
hears p c i (vote n j m) =
    let at = first_vote p i n + j in
    effect (meets same_list (meant (capped_at p.limit) (slice_index_or c.votes at None)) m) j (first at m)
    (echoes i p.leader j (said.prepare i p.faults n m)
    ++ commits i p.faults n (prepared_at p c.votes i n) (prepared_at p (slice_set c.votes at (Some m)) i n))
hears p c i (commit n j m) =
    let at = first_vote p i n + j in
    effect (meets same_list (meant (capped_at p.limit) (slice_index_or c.commits at None)) m) j (second at m) []
hears p c i (row j a) =
    let at = i * stations p.faults + j in
    effect (ranks (standing (stations p.faults) (read p.limit a) (read p.limit (slice_index_or c.kept at [])))) j (keep at a) []

-- The effect, if the wire has places for what is sent.
abbrev pub room_for : Plan → ℕ → Effect → Result Effect Fault
room_for p end e = refuse (nat_lt p.wire (end + length e.says)) WireFull (Ok e)

-- What the delivery of the frame at a place of the wire, which ends at `end`, does at station i.
abbrev pub delivery : {Q : Type 0} → (ℕ → Option Fault) → Plan → ℕ → Contents Q → ℕ → ℕ → Result Effect Fault
delivery refused p end c i k =
    then (correct_in p (lengths_in c) i) (λ i.
    then (frame_at refused p end c.wire k) (λ said.
    refuse (misnamed p said) WrongSender
    (room_for p end (hears p c i (heard said)))))
