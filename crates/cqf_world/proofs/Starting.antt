-- A world at its beginning.
use Rattle.std.proofs.Common.{◌≡◌, ℕ, ◌-◌, ◌<◌, ◌≤◌, List, length, map, get_or, sym, ap, ◌∙◌, arith, refl, inl, inr, subst, false}
use Rattle.std.specs.Prelude.{[], nat_lt, replicate}
use Rattle.std.proofs.lemmas.Bool.{cases_lt, le-ltb}
use Rattle.std.proofs.lemmas.List.{get_or-map, get_or-replicate, get_or_past, length-map, length-replicate, same_lists}
use Rattle.std.proofs.lemmas.Option.{slice_get_cases, slice_get_within}
use Rattle.cqf_lists.proofs.EachBelow.{filter_none}
use Rattle.cqf_model.proofs.Represented.{few_bridges}
use Rattle.cqf_model.specs.declared.frames.Background.{Background}
use Rattle.cqf_model.specs.declared.frames.Offer.{Offer}
use Rattle.cqf_model.specs.declared.frames.Page.{Page}
use Rattle.cqf_model.specs.Domain.{Domain, IsAccepted, bridge_of}
use Rattle.cqf_model.specs.History.{IsLegalHistory, seals}
use Rattle.cqf_model.specs.Network.{Network, compiled_lists}
use Rattle.cqf_model.specs.Run.{AreBackground, AreOffers}
use Rattle.cqf_laws_network.specs.NetworkLaws.{LegalNetworkExists}
use Rattle.cqf_laws_cycle.specs.BridgeCycle.{IsCompiledNetwork}
use Rattle.cqf_admission.specs.Admission.{Administration}
use Rattle.cqf_admission.specs.Tables.{CycleTable}
use Rattle.cqf_book.specs.Pages.{ArePosted, Posted, page_count, pages_of}
use Rattle.cqf_bridge.specs.BridgeState.{BridgeState}
use Rattle.cqf_agenda.specs.Links.{links_into}
use Rattle.cqf_bridge.specs.Cycles.{NewBridgeFollows}
use Rattle.cqf_bridge.specs.Follows.{FollowsTheNetwork, batch_of}
use Rattle.cqf_agenda.proofs.LinkNumbers.{link_ending}
use Rattle.cqf_world.specs.declared.parts.Line.{Line}
use Rattle.cqf_world.specs.declared.parts.WorldBridge.{WorldBridge}
use Rattle.cqf_world.specs.Beginning.{AreNewLines, AreNewDriven, IsNewDriven, new_world, no_pages}
use Rattle.cqf_world.specs.Parts.{IsLine, IsRunningWorld, IsDriven, IsWorld, given_of, links_taken, sent_of_driven, taken_of, under_way}
use Rattle.cqf_world.specs.World.{WorldState, cycle_of_bridge, sealed_run, sent_by_driven, taken_from}

-- a count that is 0 for each is 0 at each index
none_of_each : {X : Type 0} (count : X → ℕ) (xs : List X) (n : ℕ) → length xs ≡ n → ((k : ℕ) (x : X) → k < n → count (get_or xs k x) ≡ 0) →
    map count xs ≡ replicate n 0
none_of_each {X} count xs n many none = same_lists (map count xs) (replicate n 0) (length-map xs count ∙ many ∙ sym (length-replicate n 0))
    (λ k d inside. of_index k d (omega (arith, inside, length-map xs count)))
  where
    -- at an index
    of_index : (k d : ℕ) → k < length xs → get_or (map count xs) k d ≡ get_or (replicate n 0) k d
    of_index k d inside =
        let within : k < n = omega (arith, inside, many) in
        elim (slice_get_cases xs k).1 [
          | inl x ↦ get_or-map count xs k x.0 d inside ∙ none k x.0 within ∙ sym (get_or-replicate n k 0 d within)
          | inr x ↦ absurd (omega (arith, x.0, inside))
        ]

-- an element of a list of equal elements, even past its end
same_at : {X : Type 0} (n k : ℕ) (x : X) → get_or (replicate n x) k x ≡ x
same_at n k x = elim (cases_lt k n) [
  | inl l ↦ get_or-replicate n k x x l
  | inr g ↦ get_or_past (replicate n x) k x (omega (arith, g, length-replicate n x))
]

-- no bridge has a page
no_page : (bridges cycles bridge : ℕ) → pages_of (no_pages bridges cycles) bridge ≡ []
no_page bridges cycles bridge = same_at bridges bridge []

-- so pages are posted in order
none_posted : (bridges cycles : ℕ) → bridges ≤ 1024 → cycles ≤ 100000 → ArePosted (no_pages bridges cycles)
none_posted bridges cycles few_bridges few_cycles = record {
  few_bridges = few_bridges;
  few_cycles = few_cycles;
  each_bridge = length-replicate bridges [];
  in_cycles = λ bridge. omega (arith, ap (λ (ps : List Page). length ps) (no_page bridges cycles bridge));
  in_place = λ bridge cycle page there. absurd (omega (
    arith,
    slice_get_within (pages_of (no_pages bridges cycles) bridge) cycle page there,
    ap (λ (ps : List Page). length ps) (no_page bridges cycles bridge),
  ));
}

module _ (w : WorldState) (driven : List WorldBridge) (lines : List Line) (accepted : IsAccepted w.domain) (no_seal : seals w.entries ≡ 0)
    (pages : w.pages ≡ no_pages (length w.domain.bridges) w.cycles)
    (given : w.given ≡ map given_of driven) (sent : w.sent ≡ map sent_of_driven driven) (taken : w.taken ≡ map taken_of lines)
    (new : AreNewDriven w.domain w.offers w.background (length w.domain.bridges) driven) (new_lines : AreNewLines (length w.domain.links) lines) where
  -- nothing was given, sent or taken
  pub none_given : w.given ≡ replicate (length w.domain.bridges) 0
  none_given = given ∙ none_of_each given_of driven (length w.domain.bridges) new.one_each (λ k s inside. (new.each k s inside).no_table)

  pub none_sent : w.sent ≡ replicate (length w.domain.bridges) 0
  none_sent = sent ∙ none_of_each sent_of_driven driven (length w.domain.bridges) new.one_each (λ k s inside. (new.each k s inside).none_sent)

  pub none_taken : w.taken ≡ replicate (length w.domain.links) 0
  none_taken = taken ∙ none_of_each taken_of lines (length w.domain.links) new_lines.one_each new_lines.none_taken

  in_cycle_0 : (bridge : ℕ) → cycle_of_bridge w bridge ≡ 0
  in_cycle_0 bridge =
      ap (λ (p : Posted). page_count p bridge) pages ∙ ap (λ (ps : List Page). length ps) (no_page (length w.domain.bridges) w.cycles bridge)

  sent_none : (bridge : ℕ) → sent_by_driven w bridge ≡ 0
  sent_none bridge = ap (λ (ns : List ℕ). get_or ns bridge 0) none_sent ∙ same_at (length w.domain.bridges) bridge 0

  taken_none : (link : ℕ) → taken_from w link ≡ 0
  taken_none link = ap (λ (ns : List ℕ). get_or ns link 0) none_taken ∙ same_at (length w.domain.links) link 0

  -- a bridge has taken no batch
  no_link : (bridge : ℕ) → links_taken w bridge ≡ []
  no_link bridge = filter_none (λ l. nat_lt (cycle_of_bridge w bridge) (taken_from w l)) (links_into w.domain bridge)
      (λ l held. le-ltb (cycle_of_bridge w bridge) (taken_from w l) (omega (arith, taken_none l)))

  -- each bridge follows the network
  driven_begins : (net : Network) → NewBridgeFollows → (bridge : ℕ) (s : WorldBridge) → bridge < length w.domain.bridges →
      IsNewDriven w.domain w.offers w.background bridge s → IsDriven (sealed_run w) (seals w.entries) net bridge (cycle_of_bridge w bridge)
      (links_taken w bridge) s
  driven_begins net follows bridge s inside is = record {
    in_cycle = is.none_posted ∙ sym (in_cycle_0 bridge);
    not_after = omega (arith, is.none_posted);
    with_table = omega (arith, is.none_sent);
    not_ahead = omega (arith, is.no_table);
    closed = omega (arith, is.no_table);
    number = ap (λ (b : BridgeState). b.number) is.new;
    received = ap (λ (b : BridgeState). b.received) is.new ∙ sym is.none_posted;
    follows = λ e. subst (FollowsTheNetwork (sealed_run w) net) (sym is.new) (follows (sealed_run w) net bridge inside);
    has_sent = λ e. absurd (omega (arith, e, is.none_sent));
    starts = λ e. absurd (omega (arith, e, is.none_sent));
    taken = is.none_taken ∙ ap (map (batch_of w.domain net.carried s.posted)) (sym (no_link bridge));
    incoming = is.links;
    agenda = is.own;
  }

  -- and no batch is under way
  line_begins : (net : Network) (link bridge : ℕ) (x : Line) → link < length w.domain.links → (get_or lines link x).taken ≡ 0 →
      (get_or lines link x).waiting.items ≡ [] →
      IsLine w.domain net link (cycle_of_bridge w bridge) (sent_by_driven w bridge) (sent_by_driven w (bridge_of w.domain link)) (get_or lines link x)
  line_begins net link bridge x inside counted waits =
      let from = bridge_of w.domain link in
      let none : sent_by_driven w from - (get_or lines link x).taken ≡ 0 = omega (arith, sent_none from) in
      record {
        at_least = omega (arith, in_cycle_0 bridge);
        at_most = omega (arith, counted);
        not_more = omega (arith, counted);
        waiting = waits ∙ ap (under_way w.domain net link (get_or lines link x).taken) (sym none);
      }

  module _ (legal : IsLegalHistory w.domain w.entries) (offers : AreOffers w.domain w.offers) (background : AreBackground w.domain w.background)
      (few_cycles : w.cycles ≤ 100000) (goes_on : w.stopped ≡ false) (exists : LegalNetworkExists) (follows : NewBridgeFollows) where
    -- the network of a run of no cycles
    some : (net : Network) × IsCompiledNetwork (sealed_run w) (seals w.entries) net
    some =
        let n = exists (sealed_run w) (compiled_lists w.domain) (seals w.entries) in
        (n.0, record { accepted = accepted; legal = n.1 })

    begins_running : IsRunningWorld w [] driven lines
    begins_running = record {
      net = some.0;
      compiled = some.1;
      within_run = omega (arith, no_seal);
      all_tables = sym no_seal;
      table = λ cycle x inside. absurd (omega (arith, inside));
      all_driven = new.one_each;
      given_are = given;
      sent_are = sent;
      bridge_driven = λ bridge s inside.
          (let within : bridge < length w.domain.bridges = omega (arith, inside, new.one_each) in
          driven_begins some.0 follows bridge (get_or driven bridge s) within (new.each bridge s within));
      all_lines = new_lines.one_each;
      taken_are = taken;
      line = λ link bridge x ends.
          (let inside : link < length w.domain.links = link_ending w.domain bridge link ends in
          line_begins some.0 link bridge x inside (new_lines.none_taken link x inside) (new_lines.none_waiting link x inside));
    }

    -- so it is a world
    pub begins : IsWorld w [] driven lines
    begins = record {
      given = record {
        accepted = accepted;
        legal = legal;
        offers = offers;
        background = background;
        few_cycles = few_cycles;
        of_bridges = ap (λ (p : Posted). p.bridges) pages;
        of_cycles = ap (λ (p : Posted). p.cycles) pages;
        in_order = subst ArePosted (sym pages) (none_posted (length w.domain.bridges) w.cycles (few_bridges w.domain accepted) few_cycles);
      };
      pages = λ bridge cycle page book there of_history. absurd (omega (arith, slice_get_within (pages_of w.pages bridge) cycle page there, in_cycle_0 bridge));
      sealed = λ bridge. omega (arith, in_cycle_0 bridge);
      running = λ still. begins_running;
    }

-- the world of an admission without Seals, which is for the plan's domain
module _ (a : Administration) (plan at : Domain) (offers : List Offer) (background : List Background) (cycles bridges : ℕ) (pages : Posted)
    (driven : List WorldBridge) (lines : List Line) (same : a.domain ≡ plan) (value : at ≡ plan) (accepted : IsAccepted plan) (no_seal : seals a.entries ≡ 0)
    (many : bridges ≡ length at.bridges) (posted : pages ≡ no_pages bridges cycles)
    (new : AreNewDriven plan offers background (length plan.bridges) driven) (new_lines : AreNewLines (length at.links) lines) where
  abbrev made : WorldState
  made = record {
    domain = a.domain;
    offers = offers;
    background = background;
    cycles = cycles;
    entries = a.entries;
    pages = pages;
    given = map given_of driven;
    sent = map sent_of_driven driven;
    taken = map taken_of lines;
    stopped = false;
  }

  own_accepted : IsAccepted a.domain
  own_accepted = subst IsAccepted (sym same) accepted

  pages_are : pages ≡ no_pages (length a.domain.bridges) cycles
  pages_are = posted ∙ ap (λ (n : ℕ). no_pages n cycles) (many ∙ ap (λ (d : Domain). length d.bridges) (value ∙ sym same))

  driven_are : AreNewDriven a.domain offers background (length a.domain.bridges) driven
  driven_are = subst (λ (d : Domain). AreNewDriven d offers background (length d.bridges) driven) (sym same) new

  lines_are : AreNewLines (length a.domain.links) lines
  lines_are = subst (λ (d : Domain). AreNewLines (length d.links) lines) (value ∙ sym same) new_lines

  -- it is the required world
  pub is_new : made ≡ new_world a offers background cycles
  is_new =
      let given = none_given made driven lines own_accepted no_seal pages_are refl refl refl driven_are lines_are in
      let sent = none_sent made driven lines own_accepted no_seal pages_are refl refl refl driven_are lines_are in
      let taken = none_taken made driven lines own_accepted no_seal pages_are refl refl refl driven_are lines_are in
      λ i. record {
        domain = a.domain;
        offers = offers;
        background = background;
        cycles = cycles;
        entries = a.entries;
        pages = pages_are i;
        given = given i;
        sent = sent i;
        taken = taken i;
        stopped = false;
      }

  -- and it satisfies the invariant
  pub is_world : IsLegalHistory a.domain a.entries → AreOffers plan offers → AreBackground plan background → cycles ≤ 100000 →
      LegalNetworkExists → NewBridgeFollows →
      (tables : List CycleTable) → tables ≡ [] → IsWorld made tables driven lines
  is_world legal are_offers are_background few exists follows tables none =
      subst (λ (ts : List CycleTable). IsWorld made ts driven lines) (sym none)
      (begins made driven lines own_accepted no_seal pages_are refl refl refl driven_are lines_are legal
      (subst (λ (d : Domain). AreOffers d offers) (sym same) are_offers) (subst (λ (d : Domain). AreBackground d background) (sym same) are_background)
      few refl exists follows)
