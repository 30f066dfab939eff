-- The state of a bridge that has done nothing.
use Rattle.std.proofs.Common.{ℕ, ◌≡◌, ◌∙◌, ◌+◌, ◌-◌, ◌<◌, ◌≤◌, ◌==◌, Bool, true, false, List, [], ◌∷◌, ◌++◌, length}
use Rattle.std.proofs.Common.{add-one, refl, sym, ap, subst, inl, arith, Option, Some, map, append-nil}
use Rattle.std.specs.Prelude.{All, filter, slice_get, if◌then◌else◌}
use Rattle.std.specs.Arc.{arc_value}
use Rattle.std.specs.List.{list_any}
use Rattle.std.specs.Option.{option_map_or}
use Rattle.std.proofs.lemmas.List.{map_push}
use Rattle.std.proofs.lemmas.List.Elements.{All-contains, All-nil, All-push}
use Rattle.std.proofs.lemmas.List.Sorted.{IsNonDecreasingBy-short}
use Rattle.cqf_lists.specs.Lists.{each_below}
use Rattle.cqf_lists.proofs.Members.{all_from_members, contains_none}
use Rattle.cqf_model.specs.declared.topology.Link.{Link}
use Rattle.cqf_model.specs.Domain.{Domain, enters, leaves, node_is}
use Rattle.cqf_units.specs.Timing.{ticks_of_octet}
use Rattle.cqf_relay.specs.declared.inlet.Inlet.{Inlet}
use Rattle.cqf_relay.specs.declared.leads.By.{By}
use Rattle.cqf_relay.specs.declared.log.ArrivedFrame.{ArrivedFrame}
use Rattle.cqf_relay.specs.declared.outlet.Outlet.{Outlet}
use Rattle.cqf_relay.specs.declared.relay.Relay.{Relay}
use Rattle.cqf_relay.specs.declared.wire.Wire.{Wire}
use Rattle.cqf_relay.specs.Segments.{batch_at, moving_in}
use Rattle.cqf_relay.specs.Leading.{by_at}
use Rattle.cqf_relay.specs.Logs.{cycle_of_came, is_in}
use Rattle.cqf_relay.specs.Offering.{CountsUpto}
use Rattle.cqf_relay.specs.Sending.{IsNewOutlet, IsTidy}
use Rattle.cqf_relay.specs.Standing.{AreNewInlets, AreNewOutlets, IsInletOf, IsNewInlet, IsNewOutletOf, IsOutletOf}
use Rattle.cqf_relay.specs.Standing.{KnowsRows, MayHaveCome, StandsSo, is_bridge, is_onward, link_in, link_out, nothing_yet, wire_on}
use Rattle.cqf_relay.proofs.Tidy.{nothing_tidy}

-- the numbers below a bound that pass a test
abbrev kept : (ℕ → Bool) → ℕ → List ℕ
kept test n = each_below (λ l. if test l then l ∷ [] else []) n

-- and below the next
kept_more : (test : ℕ → Bool) (n : ℕ) (b : Bool) → test n ≡ b → kept test (n + 1) ≡ kept test n ++ (if b then n ∷ [] else [])
kept_more test n b is = ap (kept test) (add-one n) ∙ ap (λ (x : Bool). kept test n ++ (if x then n ∷ [] else [])) is

-- the links below a number that end in a bridge, and have brought nothing
pub record NewInletsBelow (d : Domain) (bridge n : ℕ) (inlets : List Inlet) : Type 0 where
  pub links : map link_in inlets ≡ kept (λ l. enters d l bridge) n
  pub new : All IsNewInlet inlets

-- below none there is none
pub no_inlets_below : (d : Domain) (bridge : ℕ) → NewInletsBelow d bridge 0 []
no_inlets_below d bridge = record { links = refl; new = All-nil IsNewInlet }

-- one more that ends in the bridge is there
pub inlets_more : (d : Domain) (bridge n : ℕ) (link : Link) (inlets : List Inlet) (inlet : Inlet) → slice_get d.links n ≡ Some link →
    node_is link.to bridge ≡ true → IsNewInlet inlet → inlet.link ≡ n → NewInletsBelow d bridge n inlets →
    NewInletsBelow d bridge (n + 1) (inlets ++ inlet ∷ [])
inlets_more d bridge n link inlets inlet at there new is below = record {
  links =
      map_push link_in inlets inlet ∙ (λ i. below.links i ++ is i ∷ [])
      ∙ sym (kept_more (λ l. enters d l bridge) n true
      (ap (λ (found : Option Link). option_map_or (λ (it : Link). node_is it.to bridge) found false) at ∙ there));
  new = All-push IsNewInlet inlets inlet below.new new;
}

-- and one that doesn't end there isn't
pub inlets_same : (d : Domain) (bridge n : ℕ) (link : Link) (inlets : List Inlet) → slice_get d.links n ≡ Some link →
    node_is link.to bridge ≡ false → NewInletsBelow d bridge n inlets → NewInletsBelow d bridge (n + 1) inlets
inlets_same d bridge n link inlets at elsewhere below = record {
  links =
      below.links ∙ sym (append-nil (kept (λ l. enters d l bridge) n))
      ∙ sym (kept_more (λ l. enters d l bridge) n false
      (ap (λ (found : Option Link). option_map_or (λ (it : Link). node_is it.to bridge) found false) at ∙ elsewhere));
  new = below.new;
}

-- the links below a number that leave a bridge, that have sent nothing
pub record NewOutletsBelow (d : Domain) (bridge n : ℕ) (outlets : List Outlet) : Type 0 where
  pub links : map link_out outlets ≡ kept (λ l. leaves d l bridge) n
  pub new : All (IsNewOutletOf d) outlets

-- likewise
pub no_outlets_below : (d : Domain) (bridge : ℕ) → NewOutletsBelow d bridge 0 []
no_outlets_below d bridge = record { links = refl; new = All-nil (IsNewOutletOf d) }

-- one more leaves the bridge
pub outlets_more : (d : Domain) (bridge n : ℕ) (link : Link) (onward : Bool) (outlets : List Outlet) (outlet : Outlet) →
    slice_get d.links n ≡ Some link → (link.from == bridge) ≡ true → onward ≡ is_bridge link.to → IsNewOutlet d.cycle_time n link onward outlet →
    NewOutletsBelow d bridge n outlets → NewOutletsBelow d bridge (n + 1) (outlets ++ outlet ∷ [])
outlets_more d bridge n link onward outlets outlet at there goes new below = record {
  links =
      map_push link_out outlets outlet ∙ (λ i. below.links i ++ new.link_is i ∷ [])
      ∙ sym (kept_more (λ l. leaves d l bridge) n true
      (ap (λ (found : Option Link). option_map_or (λ (it : Link). it.from == bridge) found false) at ∙ there));
  new = All-push (IsNewOutletOf d) outlets outlet below.new
      (let on : is_onward d n ≡ onward = ap (λ (found : Option Link). option_map_or (λ (it : Link). is_bridge it.to) found false) at ∙ sym goes in
      record {
        link = link;
        is_link = ap (slice_get d.links) new.link_is ∙ at;
        new = subst (λ (l : ℕ). IsNewOutlet d.cycle_time l link (is_onward d l) outlet) (sym new.link_is)
            (subst (λ (b : Bool). IsNewOutlet d.cycle_time n link b outlet) (sym on) new);
      });
}

-- and one that leaves another doesn't
pub outlets_same : (d : Domain) (bridge n : ℕ) (link : Link) (outlets : List Outlet) → slice_get d.links n ≡ Some link →
    (link.from == bridge) ≡ false → NewOutletsBelow d bridge n outlets → NewOutletsBelow d bridge (n + 1) outlets
outlets_same d bridge n link outlets at elsewhere below = record {
  links =
      below.links ∙ sym (append-nil (kept (λ l. leaves d l bridge) n))
      ∙ sym (kept_more (λ l. leaves d l bridge) n false
      (ap (λ (found : Option Link). option_map_or (λ (it : Link). it.from == bridge) found false) at ∙ elsewhere));
  new = below.new;
}

-- no frames have arrived
none_came : (upto : ℕ) → MayHaveCome upto []
none_came upto =
    record { by_cycle = IsNonDecreasingBy-short cycle_of_came [] (omega arith); within = All-nil (λ (came : ArrivedFrame). came.cycle < upto) }

-- a link that has brought nothing
new_inlet_stands : (inlet : Inlet) → IsNewInlet inlet → IsInletOf nothing_yet 0 inlet
new_inlet_stands inlet new = record {
  upto = new.upto;
  may = none_came 0;
  held = subst (MayHaveCome inlet.upto) (sym new.log) (none_came inlet.upto);
  holds = λ cycle _. ap (filter (is_in cycle)) new.log;
}

-- the wire of a link of a domain
wire_of_link : (d : Domain) (l : ℕ) (link : Link) → slice_get d.links l ≡ Some link →
    wire_on d l ≡ record { octet_time = ticks_of_octet link.rate; delay = link.delay; cycle_time = d.cycle_time; onward = is_onward d l }
wire_of_link d l link at = let wire : Option Link → Wire = λ found. record {
  octet_time = option_map_or (λ (it : Link). ticks_of_octet it.rate) found 0;
  delay = option_map_or (λ (it : Link). it.delay) found 0;
  cycle_time = d.cycle_time;
  onward = is_onward d l;
} in ap wire at

-- a link that knows no row
knows_none : (l : ℕ) (outlet : Outlet) → outlet.leads.rows.items ≡ [] → outlet.leads.needs.items ≡ [] → KnowsRows l [] outlet.leads
knows_none l outlet no_rows no_needs = record {
  rows = λ number. ap (λ (rows : List By). by_at rows number) no_rows;
  needs = λ m. ap (list_any (λ it. it == m)) no_needs;
  fits = record { unused = λ _ number. ap (λ (rows : List By). by_at rows number) no_rows; unneeded = λ _. no_needs };
}

-- a link that has sent nothing
new_outlet_stands : (d : Domain) (bridge : ℕ) (outlet : Outlet) → IsNewOutletOf d outlet → IsOutletOf d bridge nothing_yet [] outlet
new_outlet_stands d bridge outlet is = record {
  wire = is.new.wire ∙ sym (wire_of_link d outlet.trace.link is.link is.is_link);
  knows = knows_none outlet.trace.link outlet is.new.no_rows is.new.no_needs;
  as_far = is.new.sent;
  handed = omega (arith, is.new.reported, is.new.sent);
  pends = λ _.
      let none : outlet.sent - outlet.reported ≡ 0 = omega (arith, is.new.reported, is.new.sent) in
      is.new.pending
      ∙ sym (ap (each_below (λ k. map (moving_in d outlet.trace.link outlet.pending.base (outlet.reported + k)) (batch_at [] (outlet.reported + k)))) none);
  counts = λ _ cycle _ early _. absurd (omega (arith, early, is.new.sent));
  marked = is.new.starts;
  no_background = is.new.background;
  gone = record { first = refl; next = λ cycle early. absurd (omega (arith, early)) };
}

-- links that have sent nothing have nothing to hand on
pub new_tidy : (d : Domain) (bridge : ℕ) (outlets : List Outlet) → AreNewOutlets d bridge outlets → All IsTidy outlets
new_tidy d bridge outlets are = all_from_members IsTidy outlets (λ outlet there.
    let new = (All-contains (IsNewOutletOf d) outlets outlet are.new there).new in
    nothing_tidy outlet (omega (arith, new.reported, new.sent)) new.pending)

-- a bridge that has done nothing
pub new_stands : (d : Domain) (new : Relay) → arc_value new.domain ≡ d → new.tables ≡ 0 → AreNewInlets d new.number new.inlets.items →
    AreNewOutlets d new.number new.outlets.items → new.known ≡ 0 → new.edge.number ≡ new.number → new.edge.used.items ≡ [] →
    new.edge.log.frames.items ≡ [] → StandsSo d nothing_yet (λ l. []) new
new_stands d new of_domain tables into from known number used log = record {
  of_domain = of_domain;
  tables_taken = tables;
  offers_taken = refl;
  into = into.links;
  from = from.links;
  rows = record {
    below = λ row there. absurd (contains_none row there);
    last = inl known;
    room = all_from_members (λ (outlet : Outlet). length outlet.leads.rows.items ≤ new.known) new.outlets.items (λ outlet there.
        let is = All-contains (IsNewOutletOf d) new.outlets.items outlet from.new there in
        let none : length outlet.leads.rows.items ≡ 0 = ap length is.new.no_rows in
        omega (arith, none));
  };
  least = 0;
  early = all_from_members (λ (outlet : Outlet). 0 ≤ outlet.sent - 1) new.outlets.items (λ outlet _. omega arith);
  inlets = all_from_members (IsInletOf nothing_yet 0) new.inlets.items (λ inlet there.
      new_inlet_stands inlet (All-contains IsNewInlet new.inlets.items inlet into.new there));
  edge = record {
    number = number;
    held = subst (MayHaveCome 0) (sym log) (none_came 0);
    holds = λ cycle _. ap (filter (is_in cycle)) log;
    counted = subst (CountsUpto 0) (sym used) (λ number cycle _. none_used (0 == cycle) 0);
  };
  outlets = all_from_members (λ (outlet : Outlet). IsOutletOf d new.number nothing_yet [] outlet) new.outlets.items (λ outlet there.
      new_outlet_stands d new.number outlet (All-contains (IsNewOutletOf d) new.outlets.items outlet from.new there));
}
  where
    -- nothing in both cases
    none_used : (b : Bool) (n : ℕ) → (if b then n else n) ≡ n
    none_used true n = refl
    none_used false n = refl
