-- A bridge sends its cycle, and its batches are put on the links.
use Rattle.std.proofs.Common.{◌≡◌, ℕ, suc, ◌+◌, ◌-◌, ◌<◌, ◌≤◌, ◌++◌, Bool, List, flat_map, get_or, length, map, set}
use Rattle.std.proofs.Common.{sym, ap, ◌∙◌, arith, refl, inl, inr, subst, true, false, eq-eqb, ne_eqb, append-nil}
use Rattle.std.specs.Prelude.{◌∷◌, [], ◌==◌, filter, if◌then◌else◌, Option}
use Rattle.std.specs.Option.{option_map_or}
use Rattle.std.proofs.lemmas.Bool.{cases_eq, cond-true}
use Rattle.std.proofs.lemmas.List.{get_or-map, get_or-set_other, get_or-set_same, length-map, length-set, map-set}
use Rattle.std.proofs.lemmas.Option.{slice_get_cases}
use Rattle.cqf_lists.proofs.Filters.{filter-map}
use Rattle.cqf_lists.proofs.Made.{contains_if_there}
use Rattle.cqf_lists.proofs.Members.{contains_one}
use Rattle.cqf_lists.proofs.Picked.{filter_one}
use Rattle.cqf_model.specs.declared.frames.Backed.{Backed}
use Rattle.cqf_model.specs.declared.topology.Link.{Link}
use Rattle.cqf_model.specs.Domain.{Domain, bridge_of, enters, leaves}
use Rattle.cqf_model.specs.History.{seals}
use Rattle.cqf_model.specs.Network.{Network}
use Rattle.cqf_model.specs.Policing.{Carried}
use Rattle.cqf_laws_cycle.specs.Gathered.{backed_for}
use Rattle.cqf_admission.specs.Tables.{CycleTable}
use Rattle.cqf_bridge.specs.Batch.{LinkBatch}
use Rattle.cqf_agenda.specs.Links.{links_from}
use Rattle.cqf_bridge.specs.BridgeState.{AreBackedOf, IsNextToSend, SendsCycle}
use Rattle.cqf_bridge.specs.Cycles.{BackgroundIsOfTheBridge, GivesTheBatches, SendingFollows, starts_of_batch}
use Rattle.cqf_bridge.specs.Follows.{batch_of, batches_from}
use Rattle.cqf_agenda.proofs.LinkNumbers.{link_ending}
use Rattle.cqf_world.specs.declared.parts.Line.{Line}
use Rattle.cqf_world.specs.declared.parts.WorldBridge.{WorldBridge}
use Rattle.cqf_agenda.specs.Agenda.{background_at}
use Rattle.cqf_world.specs.Events.{MayStep}
use Rattle.cqf_world.specs.Parts.{AreComing, IsLine, IsRunningWorld, IsDriven, IsWorld, SendsItsCycle, SendsOut}
use Rattle.cqf_world.specs.Parts.{given_of, links_taken, sent_of_driven, taken_of, under_way}
use Rattle.cqf_world.specs.World.{WorldState, cycle_of_bridge, sealed_run, sent_by_driven}
use Rattle.cqf_world.proofs.Keeping.{given_counts}
use Rattle.cqf_world.proofs.Standing.{count_kept, each_with, given_at, sent_at, driven_at}

-- what a bridge sends on a link that leaves it
sent_on : (d : Domain) (carried : Carried) (bridge cycle l : ℕ) → l < length d.links →
    filter (λ (b : LinkBatch). b.link == l) (batches_from d carried bridge cycle) ≡ (if leaves d l bridge then batch_of d carried cycle l ∷ [] else [])
sent_on d carried bridge cycle l inside =
    let f = batch_of d carried cycle in
    let one : ℕ → List ℕ = λ m. if leaves d m bridge then m ∷ [] else [] in
    filter-map f (λ (b : LinkBatch). b.link == l) (links_from d bridge)
    ∙ ap (map f) (filter_one (λ m. m == l) one (length d.links) l inside
    (λ j x differ held. ap (λ (m : ℕ). m == l) (sym (contains_one j x (contains_if_there (leaves d j bridge) (j ∷ []) x held).1)) ∙ ne_eqb j l differ))
    ∙ last (leaves d l bridge)
  where
    -- of the link itself
    last : (b : Bool) → map (batch_of d carried cycle) (filter (λ m. m == l) (if b then l ∷ [] else [])) ≡ (if b then batch_of d carried cycle l ∷ [] else [])
    last true = ap (map (batch_of d carried cycle)) (cond-true (l == l) (l ∷ []) [] (eq-eqb l l refl))
    last false = refl

-- a link leaves one bridge only
leaves_one : (d : Domain) (l bridge : ℕ) → l < length d.links → leaves d l bridge ≡ (bridge_of d l == bridge)
leaves_one d l bridge inside = elim (slice_get_cases d.links l).1 [
  | inl w ↦
      ap (λ (o : Option Link). option_map_or (λ (link : Link). link.from == bridge) o false) w.2
      ∙ ap (λ (o : Option Link). option_map_or (λ (link : Link). link.from) o 0 == bridge) (sym w.2)
  | inr w ↦ absurd (omega (arith, w.0, inside))
]

-- one more batch under way
one_longer : (d : Domain) (net : Network) (link from upto : ℕ) → from ≤ upto →
    under_way d net link from (upto - from) ++ batch_of d net.carried upto link ∷ [] ≡ under_way d net link from (upto + 1 - from)
one_longer d net link from upto le =
    let e : from + (upto - from) ≡ upto = omega (arith, le) in
    let n : suc (upto - from) ≡ upto + 1 - from = omega (arith, le) in
    ap (λ (c : ℕ). under_way d net link from (upto - from) ++ batch_of d net.carried c link ∷ []) (sym e) ∙ ap (under_way d net link from) n

module _ (v : WorldState) (tables : List CycleTable) (driven : List WorldBridge) (lines : List Line) (is : IsRunningWorld v tables driven lines) (bridge : ℕ)
    (s : WorldBridge) (inside : bridge < length driven) (here : s ≡ get_or driven bridge s) where
  st : IsDriven (sealed_run v) (seals v.entries) is.net bridge (cycle_of_bridge v bridge) (links_taken v bridge) s
  st = driven_at v tables driven lines is bridge s inside here

  sent_is : sent_by_driven v bridge ≡ s.sent
  sent_is = sent_at v tables driven lines is bridge s inside here

  given_is : get_or v.given bridge 0 ≡ s.given
  given_is = given_at v tables driven lines is bridge s inside here

  -- a bridge may send its cycle if its counts say so
  pub may_step : (s.given ≡ s.posted → ⊥) → s.sent ≡ s.posted → MayStep v bridge
  may_step given sent = record {
    inside = omega (arith, inside, is.all_driven);
    has_table = omega (arith, given_is, given, sent, st.with_table, st.not_ahead, st.in_cycle);
    not_sent = omega (arith, sent_is, sent, st.in_cycle);
  }

  -- and its counts say so if it may
  pub counts_step : MayStep v bridge → (s.given ≡ s.posted + 1) × (s.sent ≡ s.posted)
  counts_step may = (omega (arith, given_is, may.has_table, st.in_cycle), omega (arith, sent_is, may.not_sent, st.in_cycle))

  module _ (may : MayStep v bridge) where
    -- the cycle is the next to be sent, with the cycle's background frames
    pub next : IsNextToSend s.bridge s.posted
    next = (sym st.received, (st.follows (counts_step may).1).turn)

    pub not_spent : s.bridge.spent ≡ false
    not_spent = (st.follows (counts_step may).1).of_run.not_spent

    pub early : v.cycles ≤ 100000 → s.posted < 100000
    early few = omega (arith, (counts_step may).0, st.closed, is.within_run, few)

    frames_are : background_at s.agenda s.posted ≡ backed_for v.domain v.background s.bridge.number s.posted
    frames_are = st.agenda.background_are s.posted ∙ ap (λ (b : ℕ). backed_for v.domain v.background b s.posted) (sym st.number)

    module _ (z : WorldBridge) (w : List Line) (out : SendsOut v.domain s z lines w) (sending : SendingFollows) where
      abbrev u : WorldBridge
      u = out.between

      abbrev batches : List LinkBatch
      batches = out.batches

      sends : SendsItsCycle s u batches
      sends = out.sends

      coming : AreComing v.domain batches lines w
      coming = out.coming

      z_is : z ≡ record s { bridge = u.bridge; starts = u.starts; sent = s.posted + 1 }
      z_is = out.counted ∙ ap (λ (k : WorldBridge). record k { sent = s.posted + 1 }) out.sends.same

      g : GivesTheBatches (sealed_run v) s.posted is.net s.bridge u.bridge [] batches
      g = sending (sealed_run v) (seals v.entries) s.posted is.net s.bridge u.bridge [] batches (record {
        compiled = is.compiled;
        follows = st.follows (counts_step may).1;
        next = next;
        within_run = omega (arith, (counts_step may).0, st.closed);
        sends = subst (λ (xs : List Backed). SendsCycle s.bridge u.bridge s.posted xs [] batches) frames_are sends.sends;
      })

      batches_are : batches ≡ batches_from v.domain is.net.carried bridge s.posted
      batches_are = g.batches ∙ ap (λ (b : ℕ). batches_from v.domain is.net.carried b s.posted) st.number

      abbrev driven_after : List WorldBridge
      driven_after = set driven bridge z

      abbrev after : WorldState
      after = record v { sent = map sent_of_driven driven_after }

      sent_here : sent_by_driven after bridge ≡ s.posted + 1
      sent_here =
          ap (λ (ns : List ℕ). get_or ns bridge 0) (map-set sent_of_driven driven bridge z)
          ∙ get_or-set_same (map sent_of_driven driven) bridge (sent_of_driven z) 0 (omega (arith, inside, length-map driven sent_of_driven))
          ∙ ap sent_of_driven z_is

      sent_there : (other : ℕ) → (other ≡ bridge → ⊥) → sent_by_driven after other ≡ sent_by_driven v other
      sent_there other differ =
          ap (λ (ns : List ℕ). get_or ns other 0) (map-set sent_of_driven driven bridge z)
          ∙ get_or-set_other (map sent_of_driven driven) bridge other (sent_of_driven z) 0 differ
          ∙ ap (λ (ns : List ℕ). get_or ns other 0) (sym is.sent_are)

      no_less : (other : ℕ) → sent_by_driven v other ≤ sent_by_driven after other
      no_less other = elim (cases_eq other bridge) [
        | inl e ↦ subst (λ (k : ℕ). sent_by_driven v k ≤ sent_by_driven after k) (sym e) (omega (arith, sent_here, sent_is, (counts_step may).1))
        | inr differ ↦ omega (arith, sent_there other differ)
      ]

      -- the bridge that sent
      driven_sent : IsDriven (sealed_run v) (seals v.entries) is.net bridge (cycle_of_bridge v bridge) (links_taken v bridge) z
      driven_sent =
          subst (IsDriven (sealed_run v) (seals v.entries) is.net bridge (cycle_of_bridge v bridge) (links_taken v bridge)) (sym z_is)
          (record {
            in_cycle = st.in_cycle;
            not_after = omega arith;
            with_table = omega (arith, (counts_step may).0);
            not_ahead = st.not_ahead;
            closed = st.closed;
            number = g.number ∙ st.number;
            received = g.cycle_same;
            follows = λ e. absurd (omega (arith, e));
            has_sent = λ e. g.has_sent;
            starts = λ e. sends.starts ∙ ap (flat_map starts_of_batch) batches_are;
            taken = st.taken;
            incoming = st.incoming;
            agenda = st.agenda;
          })

      -- a link
      line_coming : (link to : ℕ) (x : Line) → enters v.domain link to ≡ true →
          IsLine v.domain is.net link (cycle_of_bridge v to) (sent_by_driven after to) (sent_by_driven after (bridge_of v.domain link)) (get_or w link x)
      line_coming link to x ends =
          let li = is.line link to x ends in
          let from = bridge_of v.domain link in
          let before = get_or lines link x in
          let in_links = link_ending v.domain to link ends in
          let in_lines : link < length lines = omega (arith, in_links, is.all_lines) in
          let same_count : (get_or w link x).taken ≡ before.taken =
          sym (get_or-map taken_of w link x 0 (omega (arith, in_lines, coming.as_many)))
          ∙ ap (λ (ns : List ℕ). get_or ns link 0) coming.counts
          ∙ get_or-map taken_of lines link x 0 in_lines in
          let put = coming.following link to x ends ∙ ap (λ (ys : List LinkBatch). ys ++ filter (λ (b : LinkBatch). b.link == link) batches) li.waiting
          ∙ ap (λ (bs : List LinkBatch). under_way v.domain is.net link before.taken (sent_by_driven v from - before.taken)
          ++ filter (λ (b : LinkBatch). b.link == link) bs) batches_are
          ∙ ap (λ (bs : List LinkBatch). under_way v.domain is.net link before.taken (sent_by_driven v from - before.taken) ++ bs)
          (sent_on v.domain is.net.carried bridge s.posted link in_links
          ∙ ap (λ (b : Bool). if b then batch_of v.domain is.net.carried s.posted link ∷ [] else []) (leaves_one v.domain link bridge in_links)) in
          let waiting : (get_or w link x).waiting.items ≡ under_way v.domain is.net link before.taken (sent_by_driven after from - before.taken) =
          elim (cases_eq from bridge) [
            | inl e ↦
                let old : sent_by_driven v from ≡ s.posted = ap (sent_by_driven v) e ∙ sent_is ∙ (counts_step may).1 in
                let new : s.posted + 1 ≡ sent_by_driven after from = sym (ap (sent_by_driven after) e ∙ sent_here) in
                put
                ∙ ap (λ (b : Bool). under_way v.domain is.net link before.taken (sent_by_driven v from - before.taken)
                ++ (if b then batch_of v.domain is.net.carried s.posted link ∷ [] else []))
                (eq-eqb from bridge e)
                ∙ ap (λ (n : ℕ). under_way v.domain is.net link before.taken (n - before.taken) ++ batch_of v.domain is.net.carried s.posted link ∷ []) old
                ∙ one_longer v.domain is.net link before.taken s.posted (omega (arith, li.not_more, old))
                ∙ ap (λ (n : ℕ). under_way v.domain is.net link before.taken (n - before.taken)) new
            | inr differ ↦
                put
                ∙ ap (λ (b : Bool). under_way v.domain is.net link before.taken (sent_by_driven v from - before.taken)
                ++ (if b then batch_of v.domain is.net.carried s.posted link ∷ [] else []))
                (ne_eqb from bridge differ)
                ∙ append-nil (under_way v.domain is.net link before.taken (sent_by_driven v from - before.taken))
                ∙ ap (λ (n : ℕ). under_way v.domain is.net link before.taken (n - before.taken)) (sym (sent_there from differ))
          ] in
          record {
            at_least = omega (arith, same_count, li.at_least);
            at_most = omega (arith, same_count, li.at_most, no_less to);
            not_more = omega (arith, same_count, li.not_more, no_less from);
            waiting = waiting ∙ ap (λ (n : ℕ). under_way v.domain is.net link n (sent_by_driven after from - n)) (sym same_count);
          }

      -- the world goes on
      pub sent_goes_on : IsRunningWorld after tables driven_after w
      sent_goes_on = record {
        net = is.net;
        compiled = is.compiled;
        within_run = is.within_run;
        all_tables = is.all_tables;
        table = is.table;
        all_driven = length-set driven bridge z ∙ is.all_driven;
        given_are = is.given_are ∙ sym (count_kept given_of driven bridge s z here (ap given_of z_is));
        sent_are = refl;
        bridge_driven = each_with (λ k. IsDriven (sealed_run v) (seals v.entries) is.net k (cycle_of_bridge v k) (links_taken v k)) driven bridge z inside
            driven_sent (λ other d in_driven differ. is.bridge_driven other d in_driven);
        all_lines = coming.as_many ∙ is.all_lines;
        taken_are = is.taken_are ∙ sym coming.counts;
        line = line_coming;
      }

module _ (v : WorldState) (tables : List CycleTable) (driven : List WorldBridge) (lines : List Line) (old : WorldState) (old_same : v ≡ old)
    (world : IsWorld v tables driven lines) (old_on : old.stopped ≡ false) (bridge index : ℕ) (s : WorldBridge) (old_may : MayStep old bridge) (at : index ≡ bridge)
    (at_index : s ≡ get_or driven index s) where
  on : v.stopped ≡ false
  on = subst (λ (w : WorldState). w.stopped ≡ false) (sym old_same) old_on

  run : IsRunningWorld v tables driven lines
  run = world.running on

  may_v : MayStep v bridge
  may_v = subst (λ (w : WorldState). MayStep w bridge) (sym old_same) old_may

  inside_v : bridge < length driven
  inside_v = omega (arith, may_v.inside, run.all_driven)

  here_v : s ≡ get_or driven bridge s
  here_v = at_index ∙ ap (λ (k : ℕ). get_or driven k s) at

  -- the bridge's sending may be called
  pub next_so : IsNextToSend s.bridge s.posted
  next_so = next v tables driven lines run bridge s inside_v here_v may_v

  pub goes_on_so : s.bridge.spent ≡ false
  goes_on_so = not_spent v tables driven lines run bridge s inside_v here_v may_v

  pub early_so : s.posted < 100000
  early_so = early v tables driven lines run bridge s inside_v here_v may_v world.given.few_cycles

  pub backed_so : BackgroundIsOfTheBridge → AreBackedOf s.bridge.domain s.bridge.number s.posted (background_at s.agenda s.posted)
  backed_so of_bridge =
      let c = counts_step v tables driven lines run bridge s inside_v here_v may_v in
      let x = driven_at v tables driven lines run bridge s inside_v here_v in
      subst (AreBackedOf s.bridge.domain s.bridge.number s.posted) (sym (frames_are v tables driven lines run bridge s inside_v here_v may_v))
      (of_bridge s.bridge.domain (sealed_run v) s.bridge.number s.posted (x.follows c.1).of_run.domain world.given.background)

  module _ (z : WorldBridge) (w : List Line) (out : SendsOut v.domain s z lines w) (sending : SendingFollows) where
    abbrev world_sent : WorldState
    world_sent = record v {
      given = map given_of (set driven bridge z);
      sent = map sent_of_driven (set driven bridge z);
      taken = map taken_of w;
      stopped = false;
    }

    runs_on : IsRunningWorld (record v { sent = map sent_of_driven (set driven bridge z) }) tables (set driven bridge z) w
    runs_on = sent_goes_on v tables driven lines run bridge s inside_v here_v may_v z w out sending

    is_after : record v { sent = map sent_of_driven (set driven bridge z) } ≡ world_sent
    is_after = λ i. record v { given = runs_on.given_are i; sent = map sent_of_driven (set driven bridge z); taken = runs_on.taken_are i; stopped = on i }

    -- so it is still a world
    pub sent_world : IsWorld world_sent tables (set driven bridge z) w
    sent_world = record {
      given = given_counts v _ _ _ false world.given;
      pages = world.pages;
      sealed = world.sealed;
      running = λ still. subst (λ (k : WorldState). IsRunningWorld k tables (set driven bridge z) w) is_after runs_on;
    }

    -- and it is the same except for what was sent
    pub sent_alone : world_sent ≡ record old { sent = set old.sent bridge (cycle_of_bridge old bridge + 1) }
    sent_alone =
        let x = driven_at v tables driven lines run bridge s inside_v here_v in
        let is_sent : sent_of_driven z ≡ cycle_of_bridge v bridge + 1 =
        ap sent_of_driven (z_is v tables driven lines run bridge s inside_v here_v may_v z w out sending) ∙ ap (λ (n : ℕ). n + 1) x.in_cycle in
        let now_sent : map sent_of_driven (set driven bridge z) ≡ set v.sent bridge (cycle_of_bridge v bridge + 1) =
        map-set sent_of_driven driven bridge z ∙ (λ i. set (sym run.sent_are i) bridge (is_sent i)) in
        subst (λ (k : WorldState). world_sent ≡ record k { sent = set k.sent bridge (cycle_of_bridge k bridge + 1) }) old_same
        (sym is_after ∙ (λ i. record v { sent = now_sent i }))

  -- if the sending fails, no count changes
  pub unsent_alone : (z : WorldBridge) (w : List Line) → z.given ≡ s.given → z.sent ≡ s.sent → map taken_of w ≡ map taken_of lines →
      record v { given = map given_of (set driven bridge z); sent = map sent_of_driven (set driven bridge z); taken = map taken_of w; stopped = true }
      ≡ record old { stopped = true }
  unsent_alone z w given sent counts =
      subst (λ (k : WorldState). record v {
        given = map given_of (set driven bridge z);
        sent = map sent_of_driven (set driven bridge z);
        taken = map taken_of w;
        stopped = true;
      }
      ≡ record k { stopped = true }) old_same
      (λ i. record v {
        given = (count_kept given_of driven bridge s z here_v given ∙ sym run.given_are) i;
        sent = (count_kept sent_of_driven driven bridge s z here_v sent ∙ sym run.sent_are) i;
        taken = (counts ∙ sym run.taken_are) i;
        stopped = true;
      })
