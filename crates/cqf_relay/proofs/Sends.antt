-- What a link sends of the frames that wait for it, one after the other.
use Rattle.std.proofs.Common.{◌≡◌, ℕ, suc, ◌+◌, ◌*◌, ◌-◌, ◌<◌, ◌≤◌, ◌^◌, ◌++◌, Bool, true, false, cond, List, [], ◌∷◌, length, map, take, get_or, min, sym, ap, ap₂, ◌∙◌, arith, refl, subst}
use Rattle.std.proofs.Common.{append_assoc, leb, ltb}
use Rattle.std.specs.List.Sorted.{IsNonDecreasingBy, IsPermutation}
use Rattle.std.proofs.lemmas.Bool.{and_parts, cond-true, leb-true, ltb-true}
use Rattle.std.proofs.lemmas.List.{append-nil, map-append, take_all, take_more}
use Rattle.cqf_model.specs.declared.frames.Sent.{Sent}
use Rattle.cqf_units.specs.Timing.{ending_of, slot_of, time_of}
use Rattle.cqf_units.proofs.Times.{slot_joins}
use Rattle.cqf_trace.specs.declared.trace.Mark.{Mark}
use Rattle.cqf_trace.specs.Traces.{mark_of_sent}
use Rattle.cqf_relay.specs.declared.inlet.Inlet.{Inlet}
use Rattle.cqf_relay.specs.declared.leads.Leads.{Leads}
use Rattle.cqf_relay.specs.declared.log.ArrivedFrame.{ArrivedFrame}
use Rattle.cqf_relay.specs.declared.log.SourceLog.{SourceLog}
use Rattle.cqf_relay.specs.declared.moving.Moving.{Moving}
use Rattle.cqf_relay.specs.declared.outlet.Outlet.{Outlet}
use Rattle.cqf_relay.specs.declared.queue.Queued.{Queued}
use Rattle.cqf_relay.specs.declared.wire.Wire.{Wire}
use Rattle.cqf_relay.specs.Queues.{AreByCycle, AreLeads, key_of_queued, queue_of}
use Rattle.cqf_relay.specs.Sending.{Adds, Hands, IsSameLink, SendsCycles, SendsMore, SendsOne, SendsOneCycle, SendsQueue, base_with, came_of, has_room_on, moving_on}
use Rattle.cqf_relay.specs.Sending.{next_offset, sends_of, sent_at, time_on, waits_for}

-- the offset at which the next frame may start after some
abbrev pub offset_after : Wire → ℕ → List ArrivedFrame → ℕ
offset_after wire offset [] = offset
offset_after wire offset (x ∷ xs) = offset_after wire (next_offset wire offset x) xs

-- after two lists it is the offset after the second, starting after the first
pub offset_after-append : (wire : Wire) (offset : ℕ) (xs ys : List ArrivedFrame) →
    offset_after wire offset (xs ++ ys) ≡ offset_after wire (offset_after wire offset xs) ys
offset_after-append wire offset [] ys = refl
offset_after-append wire offset (x ∷ xs) ys = offset_after-append wire (next_offset wire offset x) xs ys

-- an optional first element of two lists end to end
choice_append : {X : Type 0} (b : Bool) (x : X) (xs ys : List X) → cond b (x ∷ (xs ++ ys)) (xs ++ ys) ≡ cond b (x ∷ xs) xs ++ ys
choice_append true x xs ys = refl
choice_append false x xs ys = refl

-- what is sent of the second list follows what is sent of the first
pub sends_of-append : (wire : Wire) (cycle offset : ℕ) (xs ys : List ArrivedFrame) →
    sends_of wire cycle offset (xs ++ ys) ≡ sends_of wire cycle offset xs ++ sends_of wire cycle (offset_after wire offset xs) ys
sends_of-append wire cycle offset [] ys = refl
sends_of-append wire cycle offset (x ∷ xs) ys =
    let b = has_room_on wire offset x.octets in
    let next = next_offset wire offset x in
    ap (λ (rest : List Sent). cond b (sent_at wire cycle offset x ∷ rest) rest) (sends_of-append wire cycle next xs ys)
    ∙ choice_append b (sent_at wire cycle offset x) (sends_of wire cycle next xs) (sends_of wire cycle (offset_after wire next xs) ys)

-- being the same link is reflexive and transitive
pub same_link : (outlet : Outlet) → IsSameLink outlet outlet
same_link outlet = record { wire = refl; leads = refl; link = refl; background = refl }

pub same_link_again : (a b e : Outlet) → IsSameLink a b → IsSameLink b e → IsSameLink a e
same_link_again a b e one two = record {
  wire = two.wire ∙ one.wire;
  leads = two.leads ∙ one.leads;
  link = two.link ∙ one.link;
  background = two.background ∙ one.background;
}

-- a link that sends nothing stays as it is
pub adds_nothing : (cycle : ℕ) (outlet : Outlet) → Adds cycle [] outlet outlet
adds_nothing cycle outlet = record {
  same = same_link outlet;
  reported = refl;
  marked = sym (append-nil outlet.trace.starts.items);
  base = λ onward. refl;
  pends = λ onward. sym (append-nil outlet.pending.frames.items);
  ends = λ ends. refl;
}

-- what is sent first determines the base of the cycle counts, and what is sent later keeps it
base_stays : (frames : List Moving) (base cycle : ℕ) (s t : List Sent) (between : ℕ) (f : Sent → Moving) → between ≡ base_with frames base cycle s →
    base_with (frames ++ map f s) between cycle t ≡ base_with frames base cycle (s ++ t)
base_stays frames base cycle [] t between f is = ap₂ (λ (xs : List Moving) (n : ℕ). base_with xs n cycle t) (append-nil frames) is
base_stays frames base cycle (x ∷ s) [] between f is = is
base_stays [] base cycle (x ∷ s) (y ∷ t) between f is = is
base_stays (m ∷ frames) base cycle (x ∷ s) (y ∷ t) between f is = is

-- so what was handed on is counted from there too
counted_so : (wire : Wire) (frames : List Moving) (cycle : ℕ) (s t : List Sent) (between after : ℕ) →
    after ≡ base_with (frames ++ map (moving_on wire between cycle) s) between cycle t →
    map (moving_on wire between cycle) s ≡ map (moving_on wire after cycle) s
counted_so wire frames cycle [] t between after is = refl
counted_so wire frames cycle (x ∷ s) [] between after is = ap (λ (n : ℕ). map (moving_on wire n cycle) (x ∷ s)) (sym is)
counted_so wire [] cycle (x ∷ s) (y ∷ t) between after is = ap (λ (n : ℕ). map (moving_on wire n cycle) (x ∷ s)) (sym is)
counted_so wire (m ∷ frames) cycle (x ∷ s) (y ∷ t) between after is = ap (λ (n : ℕ). map (moving_on wire n cycle) (x ∷ s)) (sym is)

module _ (cycle : ℕ) (s t : List Sent) (a b e : Outlet) (one : Adds cycle s a b) (two : Adds cycle t b e) where
  -- the base after the second, from what the first handed on
  base_between : a.wire.onward ≡ true →
      e.pending.base ≡ base_with (a.pending.frames.items ++ map (moving_on a.wire b.pending.base cycle) s) b.pending.base cycle t
  base_between onward =
      two.base (ap (λ (w : Wire). w.onward) one.same.wire ∙ onward)
      ∙ ap (λ (xs : List Moving). base_with xs b.pending.base cycle t) (one.pends onward)

  -- what both handed on
  both_pend : a.wire.onward ≡ true →
      e.pending.frames.items ≡ a.pending.frames.items ++ map (moving_on a.wire e.pending.base cycle) (s ++ t)
  both_pend onward =
      let first = map (moving_on a.wire e.pending.base cycle) s in
      let second = map (moving_on a.wire e.pending.base cycle) t in
      let again = counted_so a.wire a.pending.frames.items cycle s t b.pending.base e.pending.base (base_between onward) in
      two.pends (ap (λ (w : Wire). w.onward) one.same.wire ∙ onward)
      ∙ ap₂ (λ (xs ys : List Moving). xs ++ ys) (one.pends onward ∙ ap (λ (xs : List Moving). a.pending.frames.items ++ xs) again)
      (ap (λ (w : Wire). map (moving_on w e.pending.base cycle) t) one.same.wire)
      ∙ append_assoc a.pending.frames.items first second
      ∙ ap (λ (xs : List Moving). a.pending.frames.items ++ xs) (sym (map-append (moving_on a.wire e.pending.base cycle) s t))

  -- frames that are sent list by list are sent as one list
  pub adds_both : Adds cycle (s ++ t) a e
  adds_both = record {
    same = same_link_again a b e one.same two.same;
    reported = two.reported ∙ one.reported;
    marked = two.marked
        ∙ ap (λ (xs : List Mark). xs ++ map mark_of_sent t) one.marked
        ∙ append_assoc a.trace.starts.items (map mark_of_sent s) (map mark_of_sent t)
        ∙ ap (λ (xs : List Mark). a.trace.starts.items ++ xs) (sym (map-append mark_of_sent s t));
    base = λ onward.
        base_between onward
        ∙ base_stays a.pending.frames.items a.pending.base cycle s t b.pending.base (moving_on a.wire b.pending.base cycle) (one.base onward);
    pends = both_pend;
    ends = λ ends. two.ends (ap (λ (w : Wire). w.onward) one.same.wire ∙ ends) ∙ one.ends ends;
  }

-- a link has sent the first `many` frames of a queue, and the next one may start at an offset
pub record HasSent (cycle : ℕ) (queue : List Queued) (many offset : ℕ) (before now : Outlet) : Type 0 where
  pub adds : Adds cycle (sends_of before.wire cycle 0 (map came_of (take many queue))) before now
  pub as_far : now.sent ≡ before.sent
  pub following : offset ≡ offset_after before.wire 0 (map came_of (take many queue))
  pub small : offset < 2 ^ 40

-- at first none
pub sent_none : (cycle : ℕ) (queue : List Queued) (before : Outlet) → HasSent cycle queue 0 0 before before
sent_none cycle queue before = record { adds = adds_nothing cycle before; as_far = refl; following = refl; small = omega arith }

module _ (cycle : ℕ) (queue : List Queued) (many offset next : ℕ) (before now after : Outlet) (so : HasSent cycle queue many offset before now)
    (inside : many < length queue) (x : ArrivedFrame) where
  -- and then one more
  pub sent_more : ((d : Queued) → x ≡ came_of (get_or queue many d)) → SendsOne cycle offset x now after next →
      HasSent cycle queue (many + 1) next before after
  sent_more is one =
      let d : Queued = record { source = 0; came = x } in
      let front = map came_of (take many queue) in
      let start = offset_after before.wire 0 front in
      let more : map came_of (take (many + 1) queue) ≡ front ++ x ∷ [] =
      ap (map came_of) (take_more queue many d inside)
      ∙ map-append came_of (take many queue) (get_or queue many d ∷ [])
      ∙ ap (λ (y : ArrivedFrame). front ++ y ∷ []) (sym (is d)) in
      let adds : Adds cycle (sends_of before.wire cycle start (x ∷ [])) now after =
      subst (λ (o : ℕ). Adds cycle (sends_of before.wire cycle o (x ∷ [])) now after) so.following
      (subst (λ (w : Wire). Adds cycle (sends_of w cycle offset (x ∷ [])) now after) so.adds.same.wire one.adds) in
      let both = adds_both cycle (sends_of before.wire cycle 0 front) (sends_of before.wire cycle start (x ∷ [])) before now after so.adds adds in
      record {
        adds = subst (λ (xs : List Sent). Adds cycle xs before after)
            (sym (ap (sends_of before.wire cycle 0) more ∙ sends_of-append before.wire cycle 0 front (x ∷ []))) both;
        as_far = one.as_far ∙ so.as_far;
        following = one.next_is
            ∙ ap₂ (λ (w : Wire) (o : ℕ). next_offset w o x) so.adds.same.wire so.following
            ∙ sym (ap (offset_after before.wire 0) more ∙ offset_after-append before.wire 0 front (x ∷ []));
        small = one.small;
      }

-- and at last all
pub sent_all : (cycle : ℕ) (queue : List Queued) (many offset : ℕ) (before now : Outlet) → HasSent cycle queue many offset before now →
    length queue ≤ many → SendsQueue cycle queue before now
sent_all cycle queue many offset before now so end = record {
  adds = subst (λ (xs : List Queued). Adds cycle (sends_of before.wire cycle 0 (map came_of xs)) before now) (take_all many queue end) so.adds;
  as_far = so.as_far;
}

-- a frame that has room is whole within the cycle
pub whole_in_time : (wire : Wire) (offset octets : ℕ) → has_room_on wire offset octets ≡ true →
    (octets ≤ 65535) × (offset + time_on wire octets < wire.cycle_time)
whole_in_time wire offset octets room =
    let both = and_parts (leb octets 65535) (ltb (offset + time_on wire octets) wire.cycle_time) room in
    (leb-true octets 65535 both.0, ltb-true (offset + time_on wire octets) wire.cycle_time both.1)

-- with the gap after it, it takes little longer
pub soon_after : (wire : Wire) (offset octets : ℕ) → offset + time_on wire octets < wire.cycle_time → wire.cycle_time < 2 ^ 32 →
    wire.octet_time < 2 ^ 32 → offset + slot_of octets wire.octet_time < 2 ^ 40
soon_after wire offset octets whole cycle small = omega (arith, whole, cycle, small, slot_joins octets wire.octet_time)

-- the instant at which a frame is whole, from the beginning of its cycle
pub whole_from_cycle : (begins offset octets octet_time delay : ℕ) →
    offset + (time_of (octets + 8) octet_time + delay) ≡ ending_of (begins + offset) octets octet_time + delay - begins
whole_from_cycle begins offset octets octet_time delay = numbers (time_of (octets + 8) octet_time)
  where
    numbers : (sent : ℕ) → offset + (sent + delay) ≡ begins + offset + sent + delay - begins
    numbers sent = omega arith

-- a frame on the trace, and on its way
abbrev pub mark_at : ArrivedFrame → ℕ → Mark
mark_at came at = record { start = record { 0 = at }; frame = came.frame; octets = came.octets }

abbrev pub moving_at : ArrivedFrame → ℕ → ℕ → Moving
moving_at came at after = record { at = at; frame = came.frame; row = came.row; octets = came.octets; after = after }

module _ (cycle offset : ℕ) (came : ArrivedFrame) (before after : Outlet) (wire : after.wire ≡ before.wire) (leads : after.leads ≡ before.leads)
    (sent : after.sent ≡ before.sent) (reported : after.reported ≡ before.reported) where
  -- a frame that has room is on the trace, and is to be handed on if its link ends in another bridge
  pub sends_one : (begins time taken : ℕ) → begins ≡ cycle * before.wire.cycle_time → time ≡ time_on before.wire came.octets →
      taken ≡ slot_of came.octets before.wire.octet_time → has_room_on before.wire offset came.octets ≡ true →
      before.wire.cycle_time < 2 ^ 32 → before.wire.octet_time < 2 ^ 32 → after.trace.link ≡ before.trace.link → after.trace.background.items ≡ before.trace.background.items →
      after.trace.starts.items ≡ before.trace.starts.items ++ mark_at came (begins + offset) ∷ [] →
      (before.wire.onward ≡ true → Hands cycle (moving_at came (offset + time) 0) before.pending after.pending) →
      (before.wire.onward ≡ false → after.pending ≡ before.pending) → SendsOne cycle offset came before after (offset + taken)
  sends_one begins time taken begins_is time_is taken_is room long few link background marked handed left =
      let frame = sent_at before.wire cycle offset came in
      let is : frame ∷ [] ≡ sends_of before.wire cycle offset (came ∷ []) =
      sym (cond-true (has_room_on before.wire offset came.octets) (frame ∷ []) [] room) in
      let next : offset + taken ≡ offset + slot_of came.octets before.wire.octet_time = ap (λ (n : ℕ). offset + n) taken_is in
      let begins_at = cycle * before.wire.cycle_time in
      let whole : offset + time ≡ ending_of (begins_at + offset) came.octets before.wire.octet_time + before.wire.delay - begins_at =
      ap (λ (n : ℕ). offset + n) time_is ∙ whole_from_cycle begins_at offset came.octets before.wire.octet_time before.wire.delay in
      let moves : before.wire.onward ≡ true →
      after.pending.frames.items ≡ before.pending.frames.items ++ moving_on before.wire after.pending.base cycle frame ∷ [] = λ onward.
      (handed onward).frames
      ∙ ap (λ (n : ℕ). before.pending.frames.items ++ moving_at came n (min (cycle - after.pending.base) 65535) ∷ []) whole in
      record {
        adds = subst (λ (xs : List Sent). Adds cycle xs before after) is (record {
          same = record { wire = wire; leads = leads; link = link; background = background };
          reported = reported;
          marked = marked ∙ ap (λ (n : ℕ). before.trace.starts.items ++ mark_at came (n + offset) ∷ []) begins_is;
          base = λ onward. (handed onward).base;
          pends = moves;
          ends = left;
        });
        as_far = sent;
        next_is = next ∙ sym (cond-true (has_room_on before.wire offset came.octets) (offset + slot_of came.octets before.wire.octet_time) offset room);
        small = omega (
          arith,
          next,
          soon_after before.wire offset came.octets (whole_in_time before.wire offset came.octets room).1 long few,
        );
      }

-- nothing waits for the first cycle, and for another one what arrived in the cycle before it waits
pub waits_first : (leads : Leads) (inlets : List Inlet) (edge : SourceLog) (cycle : ℕ) → cycle ≡ 0 → waits_for leads inlets edge cycle ≡ []
waits_first leads inlets edge cycle first = ap (waits_for leads inlets edge) first

pub waits_later : (leads : Leads) (inlets : List Inlet) (edge : SourceLog) (cycle before : ℕ) → cycle ≡ before + 1 →
    waits_for leads inlets edge cycle ≡ queue_of leads inlets edge before
waits_later leads inlets edge cycle before next =
    let again : cycle ≡ suc before = omega (arith, next) in
    ap (waits_for leads inlets edge) again

-- a link that has sent what waits for it, in order, has sent one more cycle
pub sent_cycle : (inlets : List Inlet) (edge : SourceLog) (before now : Outlet) (waits sorted : List Queued) →
    (AreByCycle inlets edge → AreLeads before.leads → waits ≡ waits_for before.leads inlets edge before.sent) → IsPermutation waits sorted →
    IsNonDecreasingBy key_of_queued sorted → SendsQueue before.sent sorted before now → before.sent < 2 ^ 32 - 1 →
    SendsOneCycle inlets edge before (record now { sent = now.sent + 1 })
sent_cycle inlets edge before now waits sorted is moved rises sends early = record {
  early = early;
  sorted = sorted;
  is_queue = λ by_cycle leads. subst (λ (xs : List Queued). IsPermutation xs sorted) (is by_cycle leads) moved;
  in_order = rises;
  adds = record {
    same = record {
      wire = sends.adds.same.wire;
      leads = sends.adds.same.leads;
      link = sends.adds.same.link;
      background = sends.adds.same.background;
    };
    reported = sends.adds.reported;
    marked = sends.adds.marked;
    base = sends.adds.base;
    pends = sends.adds.pends;
    ends = sends.adds.ends;
  };
  as_far = ap (λ (n : ℕ). n + 1) sends.as_far;
}

-- a link has sent up to a cycle, on the way to the last one
pub record HasSentTo (until upto : ℕ) (inlets : List Inlet) (edge : SourceLog) (before now : Outlet) : Type 0 where
  pub sends : SendsMore (upto - before.sent) inlets edge before now
  pub as_far : now.sent ≡ upto
  pub within : upto - before.sent ≤ until - before.sent

-- at first as far as before
pub sent_to_none : (until : ℕ) (inlets : List Inlet) (edge : SourceLog) (before : Outlet) → HasSentTo until before.sent inlets edge before before
sent_to_none until inlets edge before = record {
  sends = let none : 0 ≡ before.sent - before.sent = omega arith in
      let same : before ≡ before = refl in
      subst (λ (n : ℕ). SendsMore n inlets edge before before) none same;
  as_far = refl;
  within = omega arith;
}

module _ (until upto : ℕ) (inlets : List Inlet) (edge : SourceLog) (before now : Outlet) (so : HasSentTo until upto inlets edge before now)
    (following : before.sent ≤ upto) where
  -- and then one cycle more
  pub sent_to_more : (after : Outlet) → upto < until → SendsOneCycle inlets edge now after → HasSentTo until (upto + 1) inlets edge before after
  sent_to_more after early one = record {
    sends = let more : suc (upto - before.sent) ≡ upto + 1 - before.sent = omega (arith, following) in
        let further : SendsMore (suc (upto - before.sent)) inlets edge before after = (now, so.sends, one) in
        subst (λ (n : ℕ). SendsMore n inlets edge before after) more further;
    as_far = one.as_far ∙ ap (λ (n : ℕ). n + 1) so.as_far;
    within = omega (arith, following, early);
  }

  -- and in the end as far as it should
  pub sent_to_all : until ≤ upto → SendsCycles until inlets edge before now
  sent_to_all end =
      let same : upto - before.sent ≡ until - before.sent = omega (arith, so.within, end) in
      subst (λ (n : ℕ). SendsMore n inlets edge before now) same so.sends
