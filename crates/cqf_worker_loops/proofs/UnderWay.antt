-- A bridge on its thread stays under way at every step.
use Rattle.std.proofs.Common.{◌≡◌, ◌∙◌, ℕ, ◌<◌, ◌≤◌, true, List, [], All, Contains}
use Rattle.std.proofs.Common.{length, map, sym, ap, subst, arith, inl, inr}
use Rattle.std.specs.Prelude.{filter, if◌then◌else◌, nat_lt}
use Rattle.std.specs.Arc.{arc_value}
use Rattle.std.proofs.lemmas.Bool.{cases_lt, cond-false, le-ltb}
use Rattle.std.proofs.lemmas.List.Elements.{All-contains}
use Rattle.cqf_lists.proofs.Members.{all_from_members, contains_at, index_of_member}
use Rattle.cqf_model.specs.declared.frames.Sent.{Sent}
use Rattle.cqf_relay.specs.declared.log.ArrivedFrame.{ArrivedFrame}
use Rattle.cqf_relay.specs.declared.outlet.Outlet.{Outlet}
use Rattle.cqf_relay.specs.declared.relay.Relay.{Relay}
use Rattle.cqf_relay.specs.declared.wire.Wire.{Wire}
use Rattle.cqf_relay.specs.Segments.{AreNextSegments, Sendings, all_frames, batch_at, came_in}
use Rattle.cqf_relay.specs.Logs.{is_in}
use Rattle.cqf_relay.specs.Standing.{Come, IsWithin, MayBeTables, StaysAs}
use Rattle.cqf_relay.specs.Standing.{is_onward, link_out, reported_by, wire_out}
use Rattle.cqf_worker_loops.specs.declared.worker.Worker.{Worker}
use Rattle.cqf_worker_loops.specs.Stepping.{HasComeSoFar, HasHandedOn, IsUnderWay}
use Rattle.cqf_worker_loops.specs.Stops.{AreItems}
use Rattle.cqf_worker_loops.specs.Workers.{HasItsOffers, HasPut, MayHaveComeTo, Offering, SegmentPort, come_by, come_to, items_in, link_of, segments_at}
use Rattle.cqf_worker_loops.proofs.Ports.{alike_at}
use Rattle.cqf_worker_loops.proofs.Ports.{partner}
use Rattle.cqf_worker_loops.proofs.Stopping.{CarriesItems}

-- ---- links of a bridge that doesn't change

-- the former state of a link that has changed
pub record WasOutlet (before : List Outlet) (outlet : Outlet) : Type 0 where
  pub was : Outlet
  pub there : Contains before was
  pub link : outlet.trace.link ≡ was.trace.link
  pub reported : outlet.reported ≡ was.reported
  pub wire : outlet.wire ≡ was.wire

module _ (before after : Relay) (same : StaysAs before after) (reported : reported_by after ≡ reported_by before) where
  -- each link was one that has passed on the same cycles
  pub was_outlet : (outlet : Outlet) → Contains after.outlets.items outlet → WasOutlet before.outlets.items outlet
  was_outlet outlet held =
      let at = index_of_member after.outlets.items outlet held in
      let p = partner link_out link_out after.outlets.items before.outlets.items at.0 outlet same.links_out at.1 in
      record {
        was = p.other;
        there = contains_at before.outlets.items at.0 p.other p.there;
        link = sym p.alike;
        reported = alike_at (λ (o : Outlet). o.reported) (λ (o : Outlet). o.reported) after.outlets.items before.outlets.items at.0 outlet p.other reported at.1 p.there;
        wire = alike_at wire_out wire_out after.outlets.items before.outlets.items at.0 outlet p.other same.wires at.1 p.there;
      }

-- what went through the port of a link: what the link sent in the cycles that it has passed on
abbrev pub IsHandedAt : Offering → List SegmentPort → Sendings → ℕ → ℕ → Type 0
IsHandedAt t outs sends l reported = (cycle : ℕ) → is_onward t.domain l ≡ true →
    filter (is_in cycle) (all_frames (segments_at outs l)) ≡ (if nat_lt cycle reported then map (came_in t.domain l cycle) (batch_at (sends l) cycle) else [])

-- it is so if the link has sent the same in these cycles
same_handed : (t : Offering) (outs : List SegmentPort) (sends more : Sendings) (l reported : ℕ) →
    ((cycle : ℕ) → cycle < reported → batch_at (more l) cycle ≡ batch_at (sends l) cycle) → IsHandedAt t outs sends l reported → IsHandedAt t outs more l reported
same_handed t outs sends more l reported same handed cycle onward =
    let made : List Sent → List ArrivedFrame = λ batch. map (came_in t.domain l cycle) batch in
    handed cycle onward ∙ (elim (cases_lt cycle reported) as (λ _.
    (if nat_lt cycle reported then made (batch_at (sends l) cycle) else []) ≡ (if nat_lt cycle reported then made (batch_at (more l) cycle) else [])) [
      | inl early ↦ ap (λ (batch : List Sent). if nat_lt cycle reported then made batch else []) (sym (same cycle early))
      | inr late ↦
          cond-false (nat_lt cycle reported) (made (batch_at (sends l) cycle)) [] (le-ltb cycle reported late)
          ∙ sym (cond-false (nat_lt cycle reported) (made (batch_at (more l) cycle)) [] (le-ltb cycle reported late))
    ])

module _ (t : Offering) (before after : Worker) (same : StaysAs before.relay after.relay) (reported : reported_by after.relay ≡ reported_by before.relay)
    (outs : after.outs.items ≡ before.outs.items) where
  -- if no link passes on more, what was put is still what they have passed on
  pub handed_still : (sends more : Sendings) →
      ((outlet : Outlet) → Contains before.relay.outlets.items outlet → (cycle : ℕ) → cycle < outlet.reported →
      batch_at (more outlet.trace.link) cycle ≡ batch_at (sends outlet.trace.link) cycle) →
      All (HasHandedOn t before sends) before.relay.outlets.items → All (HasHandedOn t after more) after.relay.outlets.items
  handed_still sends more as_sent handed = all_from_members (HasHandedOn t after more) after.relay.outlets.items (λ outlet held.
      let was = was_outlet before.relay after.relay same reported outlet held in
      let old = All-contains (HasHandedOn t before sends) before.relay.outlets.items was.was handed was.there in
      let at_was : IsHandedAt t before.outs.items more was.was.trace.link was.was.reported =
      same_handed t before.outs.items sends more was.was.trace.link was.was.reported (as_sent was.was was.there) old.each in
      let at_link : IsHandedAt t before.outs.items more outlet.trace.link outlet.reported =
      subst (λ (l : ℕ). IsHandedAt t before.outs.items more l outlet.reported) (sym was.link)
      (subst (λ (n : ℕ). IsHandedAt t before.outs.items more was.was.trace.link n) (sym was.reported) at_was) in
      record { each = subst (λ (ports : List SegmentPort). IsHandedAt t ports more outlet.trace.link outlet.reported) (sym outs) at_link })

  -- and each port carried what its link has passed on
  pub put_still : ((port : SegmentPort) (outlet : Outlet) → Contains before.outs.items port → Contains before.relay.outlets.items outlet →
      port.link ≡ outlet.trace.link → HasPut outlet.reported port) → (port : SegmentPort) (outlet : Outlet) → Contains after.outs.items port →
      Contains after.relay.outlets.items outlet → port.link ≡ outlet.trace.link → HasPut outlet.reported port
  put_still put port outlet held there link =
      let was = was_outlet before.relay after.relay same reported outlet there in
      subst (λ (n : ℕ). HasPut n port) (sym was.reported)
      (put port was.was (subst (λ (ports : List SegmentPort). Contains ports port) outs held) was.there (link ∙ was.link))

  -- each wire says whether its link ends in a bridge
  pub wires_still : All (λ (outlet : Outlet). outlet.wire.onward ≡ is_onward t.domain outlet.trace.link) before.relay.outlets.items →
      All (λ (outlet : Outlet). outlet.wire.onward ≡ is_onward t.domain outlet.trace.link) after.relay.outlets.items
  wires_still wires =
      all_from_members (λ (outlet : Outlet). outlet.wire.onward ≡ is_onward t.domain outlet.trace.link) after.relay.outlets.items (λ outlet held.
      let was = was_outlet before.relay after.relay same reported outlet held in
      ap (λ (wire : Wire). wire.onward) was.wire
      ∙ All-contains (λ (it : Outlet). it.wire.onward ≡ is_onward t.domain it.trace.link) before.relay.outlets.items was.was wires was.there
      ∙ ap (is_onward t.domain) (sym was.link))

-- what a worker takes while no link passes on more
pub record TakesOnly (before after : Worker) : Type 0 where
  pub stays : StaysAs before.relay after.relay
  pub reported : reported_by after.relay ≡ reported_by before.relay
  pub outs : after.outs.items ≡ before.outs.items
  pub agenda : after.agenda ≡ before.agenda
  pub links_in : map link_of after.ins.items ≡ map link_of before.ins.items
  pub tables : AreItems before.tables.items → AreItems after.tables.items
  pub taken : before.relay.tables ≡ length (items_in before.tables.items) → after.relay.tables ≡ length (items_in after.tables.items)
  pub early : after.relay.tables ≤ before.relay.cycles
  pub ins : All CarriesItems before.ins.items → All CarriesItems after.ins.items

-- it stays under way if its bridge is in the state that follows from what has arrived
pub takes_under_way : (t : Offering) (number : ℕ) (before after : Worker) → TakesOnly before after → IsUnderWay t number before →
    (MayHaveComeTo t after → HasComeSoFar t number after) → IsUnderWay t number after
takes_under_way t number before after only under_way come = record {
  good_offers = under_way.good_offers;
  is_agenda = subst (HasItsOffers t number) (sym only.agenda) under_way.is_agenda;
  of_domain = ap arc_value only.stays.domain ∙ under_way.of_domain;
  number_is = only.stays.number ∙ under_way.number_is;
  few = omega (arith, only.stays.cycles, under_way.few);
  tables = only.tables under_way.tables;
  tables_taken = only.taken under_way.tables_taken;
  early = omega (arith, only.early, only.stays.cycles);
  links_in = only.links_in ∙ under_way.links_in;
  inlets = only.stays.links_in ∙ under_way.inlets;
  ins = only.ins under_way.ins;
  links_out = ap (map link_of) only.outs ∙ under_way.links_out;
  outlets = only.stays.links_out ∙ under_way.outlets;
  wires = wires_still t before after only.stays only.reported only.outs under_way.wires;
  tidy = only.stays.tidy under_way.tidy;
  within = subst (λ (cycles : ℕ). All (IsWithin cycles) after.relay.outlets.items) (sym only.stays.cycles) (only.stays.within under_way.within);
  outs = put_still t before after only.stays only.reported only.outs under_way.outs;
  come = come;
}

-- ---- what arrives

module _ (before after : Worker) (agenda : after.agenda ≡ before.agenda) (tables : after.tables.items ≡ before.tables.items)
    (ins : after.ins.items ≡ before.ins.items) where
  -- if nothing more was taken, the same has arrived
  pub come_same : come_to after ≡ come_to before
  come_same = λ i. come_by (items_in (tables i)) (agenda i) (ins i)

  -- and it may arrive
  pub may_same : (t : Offering) → MayHaveComeTo t after → MayHaveComeTo t before
  may_same t may = record {
    segments = subst (λ (ports : List SegmentPort). (l : ℕ) → AreNextSegments 0 (segments_at ports l)) ins may.segments;
    tables = subst (λ (come : Come). MayBeTables t.domain come.tables) come_same may.tables;
  }
