-- Relays whose links hand on what they sent, or take it back.
use Rattle.std.proofs.Common.{◌≡◌, ◌∙◌, ℕ, ◌+◌, ◌-◌, ◌<◌, ◌≤◌, true}
use Rattle.std.proofs.Common.{List, [], ◌++◌, Some, All, length, map, set, set-set, option_map}
use Rattle.std.proofs.Common.{refl, sym, ap, subst, arith}
use Rattle.std.specs.Prelude.{slice_get}
use Rattle.std.specs.Arc.{arc_value}
use Rattle.std.specs.Global.{Global}
use Rattle.std.specs.declared.vec.Vec.{Vec}
use Rattle.std.proofs.lemmas.List.{map-set}
use Rattle.std.proofs.lemmas.List.Elements.{All-contains, All-set}
use Rattle.std.proofs.lemmas.Option.{same_Some, slice_get-map, slice_get_within}
use Rattle.cqf_lists.specs.Lists.{each_below}
use Rattle.cqf_lists.proofs.Members.{contains_at}
use Rattle.cqf_lists.proofs.Written.{map_kept, slice_get-set_same}
use Rattle.cqf_model.specs.declared.frames.Sent.{Sent}
use Rattle.cqf_model.specs.declared.topology.Row.{Row}
use Rattle.cqf_model.specs.Domain.{Domain}
use Rattle.cqf_trace.specs.declared.trace.Trace.{Trace}
use Rattle.cqf_relay.specs.declared.edge.Edge.{Edge}
use Rattle.cqf_relay.specs.declared.inlet.Inlet.{Inlet}
use Rattle.cqf_relay.specs.declared.leads.Leads.{Leads}
use Rattle.cqf_relay.specs.declared.log.ArrivedFrame.{ArrivedFrame}
use Rattle.cqf_relay.specs.declared.moving.Segment.{Segment}
use Rattle.cqf_relay.specs.declared.outlet.Outlet.{Outlet}
use Rattle.cqf_relay.specs.declared.relay.Relay.{Relay}
use Rattle.cqf_relay.specs.declared.wire.Wire.{Wire}
use Rattle.cqf_relay.specs.Segments.{IsNextSegment, IsSegmentOf, Sendings, batch_at, frames_of, moving_between, moving_in}
use Rattle.cqf_relay.specs.Logs.{ByCycle, came_by_segment}
use Rattle.cqf_relay.specs.Sending.{IsSameLink, IsTidy, KeepsSegmentBack, TakesPending}
use Rattle.cqf_relay.specs.Standing.{AreKnown, Come, HandsOn, HasGoneOnBy, IsEdgeOf, IsInletOf, IsOutletOf, IsSameButLinks, IsWithin, KeepsBack, KnowsRows}
use Rattle.cqf_agenda.specs.Links.{links_from, links_into}
use Rattle.cqf_relay.specs.Standing.{StandsSo, StaysAs, link_in, link_out}
use Rattle.cqf_relay.specs.Standing.{reported_by, wire_on, wire_out}
use Rattle.cqf_relay.proofs.Tidy.{back_tidy, hands_tidy}

-- a property of all elements holds of the element at an index
pub all_at : {X : Type 0} (P : X → Type 0) (xs : List X) (k : ℕ) (x : X) → All P xs → slice_get xs k ≡ Some x → P x
all_at P xs k x each is = All-contains P xs x each (contains_at xs k x is)

-- ---- links that leave the bridge

-- nothing is on its way between a cycle and itself
pub none_between : (d : Domain) (m : ℕ) (sends : List (List Sent)) (first begin upto : ℕ) → begin ≡ upto → moving_between d m sends first begin upto ≡ []
none_between d m sends first begin upto same =
    let none : upto - begin ≡ 0 = omega (arith, same) in
    ap (each_below (λ (k : ℕ). map (moving_in d m first (begin + k)) (batch_at sends (begin + k)))) none

-- what is on its way between the same cycles is the same
pub same_between : (d : Domain) (sends : List (List Sent)) (l m first base begin reported upto sent : ℕ) → l ≡ m → first ≡ base → begin ≡ reported → upto ≡ sent →
    moving_between d l sends first begin upto ≡ moving_between d m sends base reported sent
same_between d sends l m first base begin reported upto sent link from begins ends =
    ap (λ (i : ℕ). moving_between d i sends first begin upto) link
    ∙ ap (λ (i : ℕ). moving_between d m sends i begin upto) from
    ∙ ap (λ (i : ℕ). moving_between d m sends base i upto) begins
    ∙ ap (λ (i : ℕ). moving_between d m sends base reported i) ends

-- a link that is the same knows the same rows
pub knows_same : (tables : List (List Row)) (before after : Outlet) → IsSameLink before after → KnowsRows before.trace.link tables before.leads →
    KnowsRows after.trace.link tables after.leads
knows_same tables before after same knows =
    subst (λ (l : ℕ). KnowsRows l tables after.leads) (sym same.link) (subst (λ (known : Leads). KnowsRows before.trace.link tables known) (sym same.leads) knows)

-- a link that hands on what it sent is in the same state, with nothing more to hand on
pub outlet_hands : (d : Domain) (bridge : ℕ) (come : Come) (sends : List (List Sent)) (before after : Outlet) (segment : Segment) →
    TakesPending before after segment → IsOutletOf d bridge come sends before → IsOutletOf d bridge come sends after
outlet_hands d bridge come sends before after segment takes stands = record {
  wire = takes.same.wire ∙ stands.wire ∙ ap (wire_on d) (sym takes.same.link);
  knows = knows_same come.tables before after takes.same stands.knows;
  as_far = takes.as_far ∙ stands.as_far;
  handed = omega (arith, takes.reported, takes.as_far);
  pends = λ onward. takes.none ∙ sym (none_between d after.trace.link sends after.pending.base after.reported after.sent (takes.reported ∙ sym takes.as_far));
  counts = λ onward cycle from upto some. absurd (omega (arith, from, upto, takes.reported, takes.as_far));
  marked = ap (λ (trace : Trace). trace.starts.items) takes.trace ∙ stands.marked;
  no_background = ap (λ (trace : Trace). trace.background.items) takes.trace ∙ stands.no_background;
  gone = subst (λ (l : ℕ). HasGoneOnBy d bridge come l sends) (sym takes.same.link) stands.gone;
}

-- a link that takes back what it handed on is in the state before that
pub outlet_again : (d : Domain) (bridge : ℕ) (come : Come) (sends : List (List Sent)) (older before after : Outlet) (reported : ℕ) (segment : Segment) →
    TakesPending older before segment → KeepsSegmentBack reported segment before after → reported ≡ older.reported → IsOutletOf d bridge come sends older →
    IsOutletOf d bridge come sends after
outlet_again d bridge come sends older before after reported segment takes keeps by_then stands =
    let link : after.trace.link ≡ older.trace.link = keeps.same.link ∙ takes.same.link in
    let wire : after.wire ≡ older.wire = keeps.same.wire ∙ takes.same.wire in
    let base : after.pending.base ≡ older.pending.base = keeps.base ∙ takes.from in
    let reported_is : after.reported ≡ older.reported = keeps.reported_by_then ∙ by_then in
    let sent_is : after.sent ≡ older.sent = keeps.as_far ∙ takes.as_far in
    let trace : after.trace ≡ older.trace = keeps.trace ∙ takes.trace in
    let on : after.wire.onward ≡ true → older.wire.onward ≡ true = λ (yes : after.wire.onward ≡ true). ap (λ (w : Wire). w.onward) (sym wire) ∙ yes in
    record {
      wire = wire ∙ stands.wire ∙ ap (wire_on d) (sym link);
      knows = knows_same come.tables before after keeps.same (knows_same come.tables older before takes.same stands.knows);
      as_far = sent_is ∙ stands.as_far;
      handed = omega (arith, reported_is, sent_is, stands.handed);
      pends = λ onward.
          keeps.frames
          ∙ takes.frames
          ∙ stands.pends (on onward)
          ∙ sym (same_between d sends after.trace.link older.trace.link after.pending.base older.pending.base after.reported older.reported after.sent older.sent link
          base reported_is sent_is);
      counts = λ onward cycle from upto some.
          let counted = stands.counts (on onward) cycle (omega (arith, from, reported_is)) (omega (arith, upto, sent_is)) some in
          (omega (arith, counted.0, base), omega (arith, counted.1, base));
      marked = ap (λ (trace : Trace). trace.starts.items) trace ∙ stands.marked;
      no_background = ap (λ (trace : Trace). trace.background.items) trace ∙ stands.no_background;
      gone = subst (λ (l : ℕ). HasGoneOnBy d bridge come l sends) (sym link) stands.gone;
    }

-- what a link hands on is what it sent
pub outlet_gives : (d : Domain) (bridge : ℕ) (come : Come) (sends : List (List Sent)) (before after : Outlet) (segment : Segment) → TakesPending before after segment →
    IsOutletOf d bridge come sends before → before.wire.onward ≡ true → IsSegmentOf d before.trace.link sends before.reported segment × (segment.upto ≡ length sends)
outlet_gives d bridge come sends before after segment takes stands onward =
    let ends : segment.upto ≡ length sends = takes.upto ∙ stands.as_far in
    let is : IsSegmentOf d before.trace.link sends before.reported segment = record {
      following = omega (arith, takes.upto, stands.handed);
      within = omega (arith, ends);
      counts = λ cycle from upto some.
          let counted = stands.counts onward cycle from (omega (arith, upto, takes.upto)) some in
          omega (arith, takes.from, counted.0);
      carries = takes.frames
          ∙ stands.pends onward
          ∙ sym (same_between d sends before.trace.link before.trace.link segment.from before.pending.base before.reported before.reported segment.upto before.sent refl takes.from
          refl takes.upto);
    } in
    (is, ends)

-- and may come next at its end
pub outlet_gives_next : (before after : Outlet) (segment : Segment) → TakesPending before after segment → IsTidy before → IsNextSegment before.reported segment
outlet_gives_next before after segment takes tidy =
    let frames : frames_of segment ≡ map (came_by_segment before.pending.base) before.pending.frames.items =
    ap (λ (from : ℕ). map (came_by_segment from) segment.frames.items) takes.from ∙ ap (map (came_by_segment before.pending.base)) takes.frames in
    record {
      following = omega (arith, takes.upto, tidy.handed);
      by_cycle = subst ByCycle (sym frames) tidy.by_cycle;
      within = subst (λ (upto : ℕ). All (λ (came : ArrivedFrame). (before.reported ≤ came.cycle) × (came.cycle < upto)) (frames_of segment)) (sym takes.upto)
          (subst (All (λ (came : ArrivedFrame). (before.reported ≤ came.cycle) × (came.cycle < before.sent))) (sym frames) tidy.within);
    }

-- ---- relays with one changed link

-- being the same but for the links is transitive
pub same_but_twice : (older before after : Relay) → IsSameButLinks older before → IsSameButLinks before after → IsSameButLinks older after
same_but_twice older before after early late = record {
  domain = late.domain ∙ early.domain;
  number = late.number ∙ early.number;
  cycles = late.cycles ∙ early.cycles;
  tables = late.tables ∙ early.tables;
  inlets = late.inlets ∙ early.inlets;
  edge = late.edge ∙ early.edge;
  known = late.known ∙ early.known;
}

-- if one link is in an allowed state, has sent as much and knows the same rows, the bridge is in the same state
pub relay_with : (d : Domain) (come : Come) (sends : Sendings) (before after : Relay) (index : ℕ) (old new : Outlet) → IsSameButLinks before after →
    slice_get before.outlets.items index ≡ Some old → after.outlets.items ≡ set before.outlets.items index new → new.trace.link ≡ old.trace.link →
    new.leads ≡ old.leads → new.sent ≡ old.sent →
    (IsOutletOf d before.number come (sends old.trace.link) old → IsOutletOf d before.number come (sends old.trace.link) new) → StandsSo d come sends before →
    StandsSo d come sends after
relay_with d come sends before after index old new same was is link known sent one stands =
    let room : All (λ (outlet : Outlet). length outlet.leads.rows.items ≤ before.known) after.outlets.items =
    subst (All (λ (outlet : Outlet). length outlet.leads.rows.items ≤ before.known)) (sym is)
    (All-set (λ (outlet : Outlet). length outlet.leads.rows.items ≤ before.known) before.outlets.items index new
    (subst (λ (leads : Leads). length leads.rows.items ≤ before.known) (sym known)
    (all_at (λ (outlet : Outlet). length outlet.leads.rows.items ≤ before.known) before.outlets.items index old stands.rows.room was))
    stands.rows.room) in
    let rows : AreKnown come.tables before.known after.outlets.items = record { below = stands.rows.below; last = stands.rows.last; room = room } in
    record {
      of_domain = ap arc_value same.domain ∙ stands.of_domain;
      tables_taken = same.tables ∙ stands.tables_taken;
      offers_taken = stands.offers_taken;
      into = ap (λ (inlets : Vec Inlet Global). map link_in inlets.items) same.inlets ∙ stands.into ∙ ap (links_into d) (sym same.number);
      from = ap (map link_out) is ∙ map_kept link_out before.outlets.items index old new was link ∙ stands.from ∙ ap (links_from d) (sym same.number);
      rows = subst (λ (known : ℕ). AreKnown come.tables known after.outlets.items) (sym same.known) rows;
      least = stands.least;
      early = subst (All (λ (outlet : Outlet). stands.least ≤ outlet.sent - 1)) (sym is)
          (All-set (λ (outlet : Outlet). stands.least ≤ outlet.sent - 1) before.outlets.items index new
          (subst (λ (cycle : ℕ). stands.least ≤ cycle - 1) (sym sent)
          (all_at (λ (outlet : Outlet). stands.least ≤ outlet.sent - 1) before.outlets.items index old stands.early was))
          stands.early);
      inlets = subst (λ (inlets : Vec Inlet Global). All (IsInletOf come stands.least) inlets.items) (sym same.inlets) stands.inlets;
      edge = subst (λ (bridge : ℕ). IsEdgeOf d bridge come stands.least after.edge) (sym same.number)
          (subst (λ (edge : Edge). IsEdgeOf d before.number come stands.least edge) (sym same.edge) stands.edge);
      outlets = subst (λ (bridge : ℕ). All (λ (outlet : Outlet). IsOutletOf d bridge come (sends outlet.trace.link) outlet) after.outlets.items) (sym same.number)
          (subst (All (λ (outlet : Outlet). IsOutletOf d before.number come (sends outlet.trace.link) outlet)) (sym is)
          (All-set (λ (outlet : Outlet). IsOutletOf d before.number come (sends outlet.trace.link) outlet) before.outlets.items index new
          (subst (λ (l : ℕ). IsOutletOf d before.number come (sends l) new) (sym link)
          (one (all_at (λ (outlet : Outlet). IsOutletOf d before.number come (sends outlet.trace.link) outlet) before.outlets.items index old stands.outlets was)))
          stands.outlets));
    }

-- a property of each link still holds if it holds of the changed one
pub all_with : (P : Outlet → Type 0) (before after : List Outlet) (index : ℕ) (new : Outlet) → after ≡ set before index new → P new → All P before →
    All P after
all_with P before after index new is one each = subst (All P) (sym is) (All-set P before index new one each)

-- a bridge stays the same when one of its links hands on what it sent
pub stays_handing : (index : ℕ) (before after : Relay) (old new : Outlet) (segment : Segment) → IsSameButLinks before after →
    slice_get before.outlets.items index ≡ Some old → after.outlets.items ≡ set before.outlets.items index new → TakesPending old new segment →
    StaysAs before after
stays_handing index before after old new segment same was is takes = record {
  domain = same.domain;
  number = same.number;
  cycles = same.cycles;
  links_in = ap (λ (inlets : Vec Inlet Global). map link_in inlets.items) same.inlets;
  links_out = ap (map link_out) is ∙ map_kept link_out before.outlets.items index old new was takes.same.link;
  wires = ap (map wire_out) is ∙ map_kept wire_out before.outlets.items index old new was takes.same.wire;
  tidy = all_with IsTidy before.outlets.items after.outlets.items index new is (hands_tidy old new segment takes);
  within = λ within.
      all_with (IsWithin before.cycles) before.outlets.items after.outlets.items index new is
      (omega (arith, takes.as_far, all_at (IsWithin before.cycles) before.outlets.items index old within was)) within;
}

-- and has handed it on
pub relay_hands_on : (index : ℕ) (before after : Relay) (old new : Outlet) (segment : Segment) → IsSameButLinks before after →
    slice_get before.outlets.items index ≡ Some old → after.outlets.items ≡ set before.outlets.items index new → TakesPending old new segment →
    HandsOn index before after segment
relay_hands_on index before after old new segment same was is takes = record {
  same = same;
  stays = stays_handing index before after old new segment same was is takes;
  outlet = old;
  was = was;
  handed = new;
  is = is;
  takes = takes;
  reported = ap (map (λ (outlet : Outlet). outlet.reported)) is
      ∙ map-set (λ (outlet : Outlet). outlet.reported) before.outlets.items index new
      ∙ ap (λ (reported : ℕ). set (reported_by before) index reported) (takes.reported ∙ sym takes.upto);
  stands = λ d come sends stands.
      relay_with d come sends before after index old new same was is takes.same.link takes.same.leads takes.as_far
      (outlet_hands d before.number come (sends old.trace.link) old new segment takes) stands;
  is_segment = λ d come sends outlet stands there.
      subst
      (λ (it : Outlet). it.wire.onward ≡ true → IsSegmentOf d it.trace.link (sends it.trace.link) it.reported segment × (segment.upto ≡ length (sends it.trace.link)))
      (same_Some old outlet (sym was ∙ there))
      (outlet_gives d before.number come (sends old.trace.link) old new segment takes
      (all_at (λ (it : Outlet). IsOutletOf d before.number come (sends it.trace.link) it) before.outlets.items index old stands.outlets was));
  is_next = outlet_gives_next old new segment takes;
}

module _ (index reported : ℕ) (segment : Segment) (older before after : Relay) (old new : Outlet) (same : IsSameButLinks before after)
    (was : slice_get before.outlets.items index ≡ Some old) (is : after.outlets.items ≡ set before.outlets.items index new)
    (keeps : KeepsSegmentBack reported segment old new) (hands : HandsOn index older before segment) (by_then : slice_get (reported_by older) index ≡ Some reported) where
  -- what a bridge's link takes back is what that link handed on
  back_to_it : KeepsSegmentBack reported segment hands.handed new
  back_to_it =
      let inside : index < length older.outlets.items = slice_get_within older.outlets.items index hands.outlet hands.was in
      let there : slice_get before.outlets.items index ≡ Some hands.handed =
      ap (λ (xs : List Outlet). slice_get xs index) hands.is ∙ slice_get-set_same older.outlets.items index hands.handed inside in
      subst (λ (it : Outlet). KeepsSegmentBack reported segment it new) (same_Some old hands.handed (sym was ∙ there)) keeps

  -- no other link has changed since
  set_since : after.outlets.items ≡ set older.outlets.items index new
  set_since = is ∙ ap (λ (xs : List Outlet). set xs index new) hands.is ∙ set-set older.outlets.items index hands.handed new

  -- before that it had handed on up to the same cycle
  reported_then : reported ≡ hands.outlet.reported
  reported_then =
      let reported_at : slice_get (reported_by older) index ≡ Some hands.outlet.reported =
      slice_get-map (λ (outlet : Outlet). outlet.reported) older.outlets.items index ∙ ap (option_map (λ (outlet : Outlet). outlet.reported)) hands.was in
      same_Some reported hands.outlet.reported (sym by_then ∙ reported_at)

  -- so the bridge is in the state before that
  pub stands_again : (d : Domain) (come : Come) (sends : Sendings) → StandsSo d come sends older → StandsSo d come sends after
  stands_again d come sends =
      relay_with d come sends older after index hands.outlet new (same_but_twice older before after hands.same same) hands.was set_since
      (back_to_it.same.link ∙ hands.takes.same.link)
      (back_to_it.same.leads ∙ hands.takes.same.leads)
      (back_to_it.as_far ∙ hands.takes.as_far)
      (outlet_again d older.number come (sends hands.outlet.trace.link) hands.outlet hands.handed new reported segment hands.takes back_to_it reported_then)

  -- and its links are tidy if they were so then
  pub tidy_again : All IsTidy older.outlets.items → All IsTidy after.outlets.items
  tidy_again tidy =
      all_with IsTidy older.outlets.items after.outlets.items index new set_since
      (back_tidy hands.outlet hands.handed new reported segment hands.takes back_to_it reported_then
      (all_at IsTidy older.outlets.items index hands.outlet tidy hands.was)) tidy

-- a bridge with one link that takes back what it handed on
pub relay_keeps_back : (index reported : ℕ) (segment : Segment) (before after : Relay) (old new : Outlet) → IsSameButLinks before after →
    slice_get before.outlets.items index ≡ Some old → after.outlets.items ≡ set before.outlets.items index new → KeepsSegmentBack reported segment old new →
    KeepsBack index reported segment before after
relay_keeps_back index reported segment before after old new same was is keeps = record {
  same = same;
  links = ap (map link_out) is ∙ map_kept link_out before.outlets.items index old new was keeps.same.link;
  wires = ap (map wire_out) is ∙ map_kept wire_out before.outlets.items index old new was keeps.same.wire;
  outlet = old;
  was = was;
  kept = new;
  is = is;
  keeps = keeps;
  reported_by_then = ap (map (λ (outlet : Outlet). outlet.reported)) is
      ∙ map-set (λ (outlet : Outlet). outlet.reported) before.outlets.items index new
      ∙ ap (λ (reported : ℕ). set (reported_by before) index reported) keeps.reported_by_then;
  again = λ older. stands_again index reported segment older before after old new same was is keeps;
  tidy_again = λ older. tidy_again index reported segment older before after old new same was is keeps;
}

-- ---- what is sent, taken from the links one by one

-- the traces so far, with those of the links to come, are those of all
pub record AreTracesUpTo (traces : List Trace) (rest all : List Outlet) : Type 0 where
  pub parts : traces ++ map (λ (outlet : Outlet). outlet.trace) rest ≡ map (λ (outlet : Outlet). outlet.trace) all
