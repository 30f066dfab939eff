-- What a link sends of a queue that has room in its cycle is the queue in order.
use Rattle.std.proofs.Common.{◌≡◌, ℕ, ◌+◌, ◌*◌, ◌<◌, ◌≤◌, Bool, true, false, cond, List, map, refl, sym, ap, ◌∙◌, arith, Contains, sum_by, lt-ltb, le-leb}
use Rattle.std.specs.Prelude.{[], ◌∷◌, ◌++◌, Some, nat_le, nat_lt}
use Rattle.std.specs.List.{flat_map}
use Rattle.std.proofs.lemmas.Bool.{and_from}
use Rattle.std.proofs.lemmas.List.Sums.{sum_by-cons}
use Rattle.cqf_lists.proofs.Members.{contains_here, contains_later}
use Rattle.cqf_units.specs.Timing.{slot_of}
use Rattle.cqf_units.proofs.Times.{slot_parts}
use Rattle.cqf_model.specs.declared.frames.Sent.{Sent}
use Rattle.cqf_model.specs.Network.{QueuedFrame}
use Rattle.cqf_laws_instants.specs.Instants.{in_turn_from}
use Rattle.cqf_relay.specs.declared.log.ArrivedFrame.{ArrivedFrame}
use Rattle.cqf_relay.specs.declared.wire.Wire.{Wire}
use Rattle.cqf_relay.specs.Sending.{has_room_on, sends_of, sent_at, time_on}

-- the time that a queued frame takes with its gap, in nanoseconds
abbrev pub taken : ℕ → QueuedFrame → ℕ
taken octet_time x = slot_of x.arrival.octets octet_time

-- a frame as a port sees it, with an instant and a class
abbrev pub frame_with : ℕ → ℕ → ArrivedFrame → QueuedFrame
frame_with at class came =
    record { arrival = record { at = record { 0 = at }; class = class; octets = came.octets; frame = came.frame }; stream = Some came.row }

-- the frame is queued in this way
pub record IsQueuedAs (came : ArrivedFrame) (queued : List QueuedFrame) : Type 0 where
  pub at : ℕ
  pub class : ℕ
  pub is : queued ≡ frame_with at class came ∷ []

-- a frame that has room is sent, and the next one starts after it
sent_first : (sent : Sent) (rest : ℕ → List Sent) (b : Bool) (offset next : ℕ) → b ≡ true →
    cond b (sent ∷ rest (cond b next offset)) (rest (cond b next offset)) ≡ sent ∷ rest next
sent_first sent rest true offset next is = refl
sent_first sent rest false offset next is = absurd cc

-- a frame has room if its time on the wire ends before the guard band, which is longer than the delay
has_room : (wire : Wire) (guard offset octets others : ℕ) → octets ≤ 65535 → wire.delay < guard →
    offset + (slot_of octets wire.octet_time + others) + guard ≤ wire.cycle_time → has_room_on wire offset octets ≡ true
has_room wire guard offset octets others small short within =
    let early : offset + time_on wire octets < wire.cycle_time = omega (arith, short, within, slot_parts octets wire.octet_time) in
    and_from (nat_le octets 65535) (nat_lt (offset + time_on wire octets) wire.cycle_time) (le-leb octets 65535 small)
    (lt-ltb (offset + time_on wire octets) wire.cycle_time early)

module _ {X : Type 0} (wire : Wire) (cycle guard : ℕ) (came : X → ArrivedFrame) (queued : X → List QueuedFrame) (short : wire.delay < guard) where
  -- each frame of a list is queued, and none is longer than the bound
  abbrev pub AreQueued : List X → Type 0
  AreQueued xs = (x : X) → Contains xs x → IsQueuedAs (came x) (queued x) × ((came x).octets ≤ 65535)

  -- what the link sends of the list is the queue in order
  pub sends_in_turn : (xs : List X) (offset start : ℕ) → AreQueued xs → start ≡ cycle * wire.cycle_time + offset →
      offset + sum_by (taken wire.octet_time) (flat_map queued xs) + guard ≤ wire.cycle_time →
      sends_of wire cycle offset (map came xs) ≡ in_turn_from start wire.octet_time (flat_map queued xs)
  sends_in_turn [] offset start are at within = refl
  sends_in_turn (x ∷ xs) offset start are at within =
      let here = are x (contains_here x xs) in
      let rest = flat_map queued xs in
      let frame = frame_with here.0.at here.0.class (came x) in
      let octets = (came x).octets in
      let takes = slot_of octets wire.octet_time in
      let taken_each = taken wire.octet_time in
      let whole : queued x ++ rest ≡ frame ∷ rest = ap (λ (ys : List QueuedFrame). ys ++ rest) here.0.is in
      let sum : sum_by taken_each (queued x ++ rest) ≡ takes + sum_by taken_each rest = ap (sum_by taken_each) whole ∙ sum_by-cons taken_each frame rest in
      let left : offset + (takes + sum_by taken_each rest) + guard ≤ wire.cycle_time = omega (arith, within, sum) in
      let room = has_room wire guard offset octets (sum_by taken_each rest) here.1 short left in
      let later : start + takes ≡ cycle * wire.cycle_time + (offset + takes) = omega (arith, at) in
      sent_first (sent_at wire cycle offset (came x)) (λ next. sends_of wire cycle next (map came xs)) (has_room_on wire offset octets) offset
      (offset + takes) room
      ∙ ap (λ (t : ℕ). record { start = record { 0 = t }; frame = (came x).frame; stream = (came x).row; octets = octets }
      ∷ sends_of wire cycle (offset + takes) (map came xs)) (sym at)
      ∙ ap (λ (ys : List Sent). record { start = record { 0 = start }; frame = (came x).frame; stream = (came x).row; octets = octets } ∷ ys)
      (sends_in_turn xs (offset + takes) (start + takes) (λ y c. are y (contains_later x xs y c)) later (omega (arith, left)))
      ∙ ap (in_turn_from start wire.octet_time) (sym whole)
