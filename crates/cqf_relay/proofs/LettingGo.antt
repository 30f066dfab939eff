-- Relays that remove what arrived in cycles that none of their links needs any more.
use Rattle.std.proofs.Common.{◌≡◌, ◌∙◌, ℕ, ◌+◌, ◌-◌, ◌<◌, ◌≤◌, max}
use Rattle.std.proofs.Common.{List, Some, All, filter, get_or, length, map, set}
use Rattle.std.proofs.Common.{sym, ap, subst, inl, inr, arith, take, take_all}
use Rattle.std.specs.Prelude.{slice_get}
use Rattle.std.specs.Arc.{arc_value}
use Rattle.std.specs.Global.{Global}
use Rattle.std.specs.declared.vec.Vec.{Vec}
use Rattle.std.proofs.lemmas.Bool.{cases_order}
use Rattle.std.proofs.lemmas.List.{length-map}
use Rattle.std.proofs.lemmas.List.Elements.{All-contains}
use Rattle.std.proofs.lemmas.Option.{same_Some, slice_get-get_or, slice_get_within}
use Rattle.cqf_lists.proofs.Members.{all_from_members}
use Rattle.cqf_model.specs.Domain.{Domain}
use Rattle.cqf_relay.specs.declared.edge.Edge.{Edge}
use Rattle.cqf_relay.specs.declared.edge.Used.{Used}
use Rattle.cqf_relay.specs.declared.inlet.Inlet.{Inlet}
use Rattle.cqf_relay.specs.declared.log.ArrivedFrame.{ArrivedFrame}
use Rattle.cqf_relay.specs.declared.outlet.Outlet.{Outlet}
use Rattle.cqf_relay.specs.declared.relay.Relay.{Relay}
use Rattle.cqf_relay.specs.Segments.{Sendings}
use Rattle.cqf_relay.specs.Logs.{KeepsFrom, is_in}
use Rattle.cqf_relay.specs.Offering.{CountsUpto}
use Rattle.cqf_relay.specs.Sending.{IsTidy}
use Rattle.cqf_relay.specs.Standing.{AreKnown, Come, IsEdgeOf, IsInletOf, IsOutletOf, IsWithin}
use Rattle.cqf_agenda.specs.Links.{links_from, links_into}
use Rattle.cqf_relay.specs.Standing.{LetsGo, MayHaveCome, StandsSo, link_in, link_out, wire_out}
use Rattle.cqf_lists.proofs.Written.{map_kept, slice_get-set_other, slice_get-set_same}

-- a log that keeps what arrived from a cycle on may still be what has arrived
pub held_still : (least upto : ℕ) (before after : List ArrivedFrame) → KeepsFrom least before after → MayHaveCome upto before → MayHaveCome upto after
held_still least upto before after kept held = record {
  by_cycle = kept.by_cycle held.by_cycle;
  within = all_from_members (λ (came : ArrivedFrame). came.cycle < upto) after
      (λ came here. All-contains (λ (came : ArrivedFrame). came.cycle < upto) before came held.within (kept.no_more came here));
}

-- an inlet that has removed what arrived before a cycle
pub record IsLetGo (least : ℕ) (before after : Inlet) : Type 0 where
  pub link : after.link ≡ before.link
  pub upto : after.upto ≡ before.upto
  pub log : KeepsFrom least before.log.frames.items after.log.frames.items

-- from that cycle on its state holds as before
pub inlet_lets_go : (come : Come) (least old new : ℕ) (before after : Inlet) → least ≤ new → old ≤ new → IsLetGo least before after →
    IsInletOf come old before → IsInletOf come new after
inlet_lets_go come least old new before after least_in old_in go stands = record {
  upto = go.upto ∙ stands.upto ∙ ap come.upto (sym go.link);
  may = subst (λ (l : ℕ). MayHaveCome (come.upto l) (come.brought l)) (sym go.link) stands.may;
  held = subst (λ (upto : ℕ). MayHaveCome upto after.log.frames.items) (sym go.upto)
      (held_still least before.upto before.log.frames.items after.log.frames.items go.log stands.held);
  holds = λ cycle later.
      go.log.kept cycle (omega (arith, later, least_in))
      ∙ stands.holds cycle (omega (arith, later, old_in))
      ∙ ap (λ (l : ℕ). filter (is_in cycle) (come.brought l)) (sym go.link);
}

-- this many of the inlets have removed it
pub record HaveLetGo (least count : ℕ) (before now : List Inlet) : Type 0 where
  pub links : map link_in now ≡ map link_in before
  pub gone : (k : ℕ) (was is : Inlet) → k < count → slice_get before k ≡ Some was → slice_get now k ≡ Some is → IsLetGo least was is
  pub rest : (k : ℕ) → count ≤ k → slice_get now k ≡ slice_get before k

-- one more has
pub one_let_go : (least count : ℕ) (before now : List Inlet) (old new : Inlet) → HaveLetGo least count before now → slice_get now count ≡ Some old →
    IsLetGo least old new → HaveLetGo least (count + 1) before (set now count new)
one_let_go least count before now old new so_far at one = record {
  links = map_kept link_in now count old new at one.link ∙ so_far.links;
  gone = λ k was is soon there here. elim (cases_order k count) [
    | inl e ↦
        let was_old : old ≡ was = same_Some old was (sym at ∙ so_far.rest count (omega arith) ∙ ap (slice_get before) (sym e) ∙ there) in
        let is_new : new ≡ is =
        same_Some new is
        (sym (slice_get-set_same now count new (slice_get_within now count old at)) ∙ ap (slice_get (set now count new)) (sym e) ∙ here) in
        subst (λ (it : Inlet). IsLetGo least it is) was_old (subst (λ (it : Inlet). IsLetGo least old it) is_new one)
    | inr o ↦ elim o [
      | inl less ↦
          so_far.gone k was is less there (sym (slice_get-set_other now count k new (λ same. omega (arith, same, less))) ∙ here)
      | inr more ↦ absurd (omega (arith, soon, more))
    ]
  ];
  rest = λ k from. slice_get-set_other now count k new (λ same. omega (arith, same, from)) ∙ so_far.rest k (omega (arith, from));
}

-- there are as many inlets as before
pub many_kept : (least count : ℕ) (before now : List Inlet) → HaveLetGo least count before now → length now ≡ length before
many_kept least count before now gone = sym (length-map now link_in) ∙ ap length gone.links ∙ length-map before link_in

-- the state of all inlets that have removed it holds as before from that cycle on
pub all_let_go : (come : Come) (least old new : ℕ) (before now : List Inlet) → least ≤ new → old ≤ new → HaveLetGo least (length before) before now →
    All (IsInletOf come old) before → All (IsInletOf come new) now
all_let_go come least old new before now least_in old_in gone stand k d below =
    let inside : k < length before = omega (arith, below, many_kept least (length before) before now gone) in
    inlet_lets_go come least old new (get_or before k d) (get_or now k d) least_in old_in
    (gone.gone k (get_or before k d) (get_or now k d) inside (slice_get-get_or before k d inside) (slice_get-get_or now k d below))
    (stand k d inside)

-- a bridge at which this many inlets have removed it, and nothing else has changed
pub record IsLettingGo (least count : ℕ) (before now : Relay) : Type 0 where
  pub domain : now.domain ≡ before.domain
  pub number : now.number ≡ before.number
  pub cycles : now.cycles ≡ before.cycles
  pub tables : now.tables ≡ before.tables
  pub known : now.known ≡ before.known
  pub outlets : now.outlets ≡ before.outlets
  pub edge : now.edge ≡ before.edge
  pub inlets : HaveLetGo least count before.inlets.items now.inlets.items

-- a property of all elements so far holds of all in the end
pub all_taken : {X : Type 0} (P : X → Type 0) (n : ℕ) (xs ys : List X) → xs ≡ ys → length xs ≤ n → All P (take n xs) → All P ys
all_taken P n xs ys same over each = subst (All P) (take_all n xs over ∙ same) each

-- a bridge removes what arrived before a cycle up to which all its links have sent
pub record LetsGoFrom (least : ℕ) (before after : Relay) : Type 0 where
  pub domain : after.domain ≡ before.domain
  pub number : after.number ≡ before.number
  pub cycles : after.cycles ≡ before.cycles
  pub tables : after.tables ≡ before.tables
  pub known : after.known ≡ before.known
  pub outlets : after.outlets ≡ before.outlets
  pub early : All (λ (outlet : Outlet). least ≤ outlet.sent - 1) before.outlets.items
  pub inlets : HaveLetGo least (length before.inlets.items) before.inlets.items after.inlets.items
  pub edge_number : after.edge.number ≡ before.edge.number
  pub used : after.edge.used ≡ before.edge.used
  pub drops : after.edge.drops ≡ before.edge.drops
  pub log : KeepsFrom least before.edge.log.frames.items after.edge.log.frames.items

-- the offers from that cycle on are still there
pub edge_lets_go : (d : Domain) (bridge : ℕ) (come : Come) (least old new : ℕ) (before after : Edge) → least ≤ new → old ≤ new →
    after.number ≡ before.number → after.used ≡ before.used → KeepsFrom least before.log.frames.items after.log.frames.items →
    IsEdgeOf d bridge come old before → IsEdgeOf d bridge come new after
edge_lets_go d bridge come least old new before after least_in old_in number used log stands = record {
  number = number ∙ stands.number;
  held = held_still least (length come.tables) before.log.frames.items after.log.frames.items log stands.held;
  holds = λ cycle later. log.kept cycle (omega (arith, later, least_in)) ∙ stands.holds cycle (omega (arith, later, old_in));
  counted = subst (λ (used : Vec Used Global). CountsUpto (length come.tables) used.items) (sym used) stands.counted;
}

-- then its state holds as before
pub relay_lets_go : (d : Domain) (come : Come) (sends : Sendings) (least : ℕ) (before after : Relay) → LetsGoFrom least before after →
    StandsSo d come sends before → StandsSo d come sends after
relay_lets_go d come sends least before after go stands =
    let new = max stands.least least in
    let least_in : least ≤ new = omega arith in
    let old_in : stands.least ≤ new = omega arith in
    record {
      of_domain = ap arc_value go.domain ∙ stands.of_domain;
      tables_taken = go.tables ∙ stands.tables_taken;
      offers_taken = stands.offers_taken;
      into = go.inlets.links ∙ stands.into ∙ ap (links_into d) (sym go.number);
      from = ap (λ (outlets : Vec Outlet Global). map link_out outlets.items) go.outlets ∙ stands.from ∙ ap (links_from d) (sym go.number);
      rows = subst (λ (known : ℕ). AreKnown come.tables known after.outlets.items) (sym go.known)
          (subst (λ (outlets : Vec Outlet Global). AreKnown come.tables before.known outlets.items) (sym go.outlets) stands.rows);
      least = new;
      early = subst (λ (outlets : Vec Outlet Global). All (λ (outlet : Outlet). new ≤ outlet.sent - 1) outlets.items) (sym go.outlets)
          (λ k d inside. both (stands.early k d inside) (go.early k d inside));
      inlets = all_let_go come least stands.least new before.inlets.items after.inlets.items least_in old_in go.inlets stands.inlets;
      edge = subst (λ (bridge : ℕ). IsEdgeOf d bridge come new after.edge) (sym go.number)
          (edge_lets_go d before.number come least stands.least new before.edge after.edge least_in old_in go.edge_number go.used go.log stands.edge);
      outlets = subst (λ (bridge : ℕ). All (λ (outlet : Outlet). IsOutletOf d bridge come (sends outlet.trace.link) outlet) after.outlets.items) (sym go.number)
          (subst (λ (outlets : Vec Outlet Global). All (λ (outlet : Outlet). IsOutletOf d before.number come (sends outlet.trace.link) outlet) outlets.items)
          (sym go.outlets) stands.outlets);
    }
  where
    -- the larger of two numbers within a bound is within it
    both : {a b c : ℕ} → a ≤ c → b ≤ c → max a b ≤ c
    both one two = omega (arith, one, two)

-- so it removes them
pub lets_go : (least : ℕ) (before after : Relay) → LetsGoFrom least before after → LetsGo before after
lets_go least before after go = record {
  same = record {
    domain = go.domain;
    number = go.number;
    cycles = go.cycles;
    links_in = go.inlets.links;
    links_out = ap (λ (outlets : Vec Outlet Global). map link_out outlets.items) go.outlets;
    wires = ap (λ (outlets : Vec Outlet Global). map wire_out outlets.items) go.outlets;
    tidy = subst (λ (outlets : Vec Outlet Global). All IsTidy outlets.items) (sym go.outlets);
    within = subst (λ (outlets : Vec Outlet Global). All (IsWithin before.cycles) outlets.items) (sym go.outlets);
  };
  tables_same = go.tables;
  drops_same = go.drops;
  outlets_same = go.outlets;
  stands = λ d come sends. relay_lets_go d come sends least before after go;
}
