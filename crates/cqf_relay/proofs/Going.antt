-- How a bridge's links go on: from what they have sent so far to what they have sent afterwards.
use Rattle.std.proofs.Common.{◌≡◌, ℕ, zero, suc, ◌+◌, ◌-◌, ◌<◌, ◌≤◌, Bool, true, false, cond, List, length, map, filter, take, min, inl, inr, refl, sym}
use Rattle.std.proofs.Common.{ap, ap₂, ◌∙◌, subst, arith, Contains, All, AllPairs, append_assoc, append-nil, get_or, set}
use Rattle.std.specs.Prelude.{[], ◌∷◌, ◌++◌, ◌==◌, ◌&&◌, ◌⊎◌, Option, Some, None, slice_get, slice_set, if◌then◌else◌}
use Rattle.std.specs.Arc.{arc_value}
use Rattle.std.specs.Global.{Global}
use Rattle.std.specs.List.{flat_map, list_any}
use Rattle.std.specs.List.Sorted.{IsPermutation}
use Rattle.std.specs.Option.{option_map_or}
use Rattle.std.specs.declared.vec.Vec.{Vec}
use Rattle.std.proofs.lemmas.Bool.{cases_Bool, cases_eq, cases_lt, cases_order, cond-false, cond-true, eq-eqb, ne_eqb, true≢false}
use Rattle.std.proofs.lemmas.List.{get_or_append_left, get_or_push, get_or-map, get_or-set_other, get_or-set_same, length-map, length-set, length_push, map-append}
use Rattle.std.proofs.lemmas.List.{nil_from_length}
use Rattle.std.proofs.lemmas.List.Concat.{flat_map-append}
use Rattle.std.proofs.lemmas.List.Elements.{All-contains, All-more, All-set, All-weaker}
use Rattle.std.proofs.lemmas.List.Folds.{flat_map-map}
use Rattle.std.proofs.lemmas.List.Sorted.{length_permutation}
use Rattle.std.proofs.lemmas.Option.{get_or_from_slice_get, slice_get_read, slice_get_within}
use Rattle.cqf_lists.specs.Lists.{each_below}
use Rattle.cqf_lists.proofs.EachBelow.{contains_below, contains_from_below, none_below, same_below}
use Rattle.cqf_lists.proofs.Filters.{filter_alike}
use Rattle.cqf_lists.proofs.Made.{flat_map_same, if_contains, map_same}
use Rattle.cqf_lists.proofs.Members.{contains_at, contains_from_map, contains_here, contains_map, contains_none}
use Rattle.cqf_lists.proofs.Numbers.{made_of_kept, numbers_ascend}
use Rattle.cqf_model.specs.declared.frames.Sent.{Sent}
use Rattle.cqf_model.specs.declared.topology.Link.{Link}
use Rattle.cqf_model.specs.declared.topology.Row.{Row}
use Rattle.cqf_model.specs.Domain.{Domain, enters, leaves, node_is}
use Rattle.cqf_model.specs.Table.{row_of}
use Rattle.cqf_trace.specs.declared.trace.Mark.{Mark}
use Rattle.cqf_trace.specs.Traces.{mark_of_sent}
use Rattle.cqf_relay.specs.declared.edge.Edge.{Edge}
use Rattle.cqf_relay.specs.declared.inlet.Inlet.{Inlet}
use Rattle.cqf_relay.specs.declared.leads.By.{By}
use Rattle.cqf_relay.specs.declared.leads.By.TheVariants as ingress
use Rattle.cqf_relay.specs.declared.leads.Leads.{Leads}
use Rattle.cqf_relay.specs.declared.log.ArrivedFrame.{ArrivedFrame}
use Rattle.cqf_relay.specs.declared.log.SourceLog.{SourceLog}
use Rattle.cqf_relay.specs.declared.moving.Moving.{Moving}
use Rattle.cqf_relay.specs.declared.outlet.Outlet.{Outlet}
use Rattle.cqf_relay.specs.declared.pending.Pending.{Pending}
use Rattle.cqf_relay.specs.declared.queue.Queued.{Queued}
use Rattle.cqf_relay.specs.declared.relay.Relay.{Relay}
use Rattle.cqf_relay.specs.declared.wire.Wire.{Wire}
use Rattle.cqf_relay.specs.Segments.{Sendings, batch_at, moving_between, moving_in}
use Rattle.cqf_relay.specs.Leading.{by_at, by_row, leads, same_by}
use Rattle.cqf_relay.specs.Logs.{is_in}
use Rattle.cqf_relay.specs.Offering.{came_of_going}
use Rattle.cqf_relay.specs.Queues.{AreByCycle, goes_from, queue_of, queued, queued_by, that_go}
use Rattle.cqf_relay.specs.Sending.{IsSameLink, IsTidy, SendsCycles, SendsMore, SendsOneCycle, base_with, came_of, most_after, most_of, moving_on, sends_of, waits_for, with_after}
use Rattle.cqf_relay.specs.Standing.{Come, GoesOnAlone, GoesOnBy, HasGoneOnBy, HaveSentMore, IsEdgeOf, IsInletOf, IsOutletOf, KnowsRows}
use Rattle.cqf_relay.specs.Standing.{IsSameButLinks, IsWithin, LetsGo, MayReach, SendsOn, StandsSo, StaysAs, all_rows, comes_by, comes_to, covered_in, link_in, link_out}
use Rattle.cqf_agenda.specs.Links.{links_from, links_into}
use Rattle.cqf_relay.specs.Standing.{reported_by, that_go_on, wire_on, wire_out}
use Rattle.cqf_relay.proofs.Tidy.{tidy_sends}

-- what a link sent in a cycle stays the same when one more cycle is appended
pub batch_before : (sends : List (List Sent)) (sents : List Sent) (cycle : ℕ) → cycle < length sends → batch_at (sends ++ sents ∷ []) cycle ≡ batch_at sends cycle
batch_before sends sents cycle less = get_or_append_left sends (sents ∷ []) [] cycle less

-- and the appended cycle has what was sent in it
pub batch_after : (sends : List (List Sent)) (sents : List Sent) (cycle : ℕ) → cycle ≡ length sends → batch_at (sends ++ sents ∷ []) cycle ≡ sents
batch_after sends sents cycle e = get_or_push sends sents [] cycle (sym e)

-- within 256 cycles of the first one, the cycle count of a frame on its way is exact
pub moving_same : (d : Domain) (l first cycle : ℕ) (sent : Sent) → cycle < first + 256 →
    moving_on (wire_on d l) first cycle sent ≡ moving_in d l first cycle sent
moving_same d l first cycle sent near =
    let e : min (cycle - first) 65535 ≡ cycle - first = omega arith in
    ap (with_after (moving_in d l first cycle sent)) e

-- and so it is for all frames that a cycle sends, if it sends any
pub all_moving_same : (d : Domain) (l first cycle : ℕ) (sents : List Sent) → ((sents ≡ [] → ⊥) → cycle < first + 256) →
    map (moving_on (wire_on d l) first cycle) sents ≡ map (moving_in d l first cycle) sents
all_moving_same d l first cycle [] near = refl
all_moving_same d l first cycle (x ∷ xs) near =
    map_same (moving_on (wire_on d l) first cycle) (moving_in d l first cycle) (x ∷ xs) (λ sent c. moving_same d l first cycle sent (near (λ e. cc)))

-- what is on its way with one cycle more
pub moving_more : (d : Domain) (l base reported : ℕ) (sends : List (List Sent)) (sents : List Sent) → reported ≤ length sends →
    moving_between d l (sends ++ sents ∷ []) base reported (length sends + 1)
    ≡ moving_between d l sends base reported (length sends) ++ map (moving_in d l base (length sends)) sents
moving_more d l base reported sends sents far =
    let of_cycle = λ (list : List (List Sent)) (c : ℕ). map (moving_in d l base c) (batch_at list c) in
    let count : length sends + 1 - reported ≡ suc (length sends - reported) = omega arith in
    let last : reported + (length sends - reported) ≡ length sends = omega arith in
    ap (each_below (λ (k : ℕ). of_cycle (sends ++ sents ∷ []) (reported + k))) count
    ∙ ap₂ (λ (xs ys : List Moving). xs ++ ys)
    (same_below (λ (k : ℕ). of_cycle (sends ++ sents ∷ []) (reported + k)) (λ (k : ℕ). of_cycle sends (reported + k)) (length sends - reported)
    (λ k less. ap (map (moving_in d l base (reported + k))) (batch_before sends sents (reported + k) (omega (arith, less)))))
    (ap (of_cycle (sends ++ sents ∷ [])) last ∙ ap (map (moving_in d l base (length sends))) (batch_after sends sents (length sends) refl))

-- if nothing is on its way, nothing was sent
pub none_moving : (d : Domain) (l base reported : ℕ) (sends : List (List Sent)) (upto : ℕ) → moving_between d l sends base reported upto ≡ [] → (cycle : ℕ) →
    reported ≤ cycle → cycle < upto → batch_at sends cycle ≡ []
none_moving d l base reported sends upto none cycle from below = by_batch (batch_at sends cycle) refl
  where
    -- a frame that was sent would be on its way
    by_batch : (batch : List Sent) → batch_at sends cycle ≡ batch → batch_at sends cycle ≡ []
    by_batch [] is = is
    by_batch (x ∷ xs) is =
        let moving = moving_in d l base cycle x in
        let at : reported + (cycle - reported) ≡ cycle = omega (arith, from) in
        let inside : cycle - reported < upto - reported = omega (arith, from, below) in
        let sent : Contains (batch_at sends cycle) x = subst (λ (b : List Sent). Contains b x) (sym is) (contains_here x xs) in
        let there : Contains (map (moving_in d l base cycle) (batch_at sends cycle)) moving =
        contains_map (moving_in d l base cycle) (batch_at sends cycle) x sent in
        let here : Contains (map (moving_in d l base (reported + (cycle - reported))) (batch_at sends (reported + (cycle - reported)))) moving =
        subst (λ (c : ℕ). Contains (map (moving_in d l base c) (batch_at sends c)) moving) (sym at) there in
        let all : Contains (moving_between d l sends base reported upto) moving =
        contains_below (λ k. map (moving_in d l base (reported + k)) (batch_at sends (reported + k))) (upto - reported) (cycle - reported) moving inside here in
        absurd (contains_none moving (subst (λ (ms : List Moving). Contains ms moving) none all))

-- and if nothing was sent, nothing is on its way
pub moving_none : (d : Domain) (l base reported : ℕ) (sends : List (List Sent)) (upto : ℕ) →
    ((cycle : ℕ) → reported ≤ cycle → cycle < upto → batch_at sends cycle ≡ []) → moving_between d l sends base reported upto ≡ []
moving_none d l base reported sends upto none =
    none_below (λ k. map (moving_in d l base (reported + k)) (batch_at sends (reported + k))) (upto - reported)
    (λ k less. ap (map (moving_in d l base (reported + k))) (none (reported + k) (omega arith) (omega (arith, less))))

-- what is on its way was sent in some cycle
pub some_moving : (d : Domain) (l base reported : ℕ) (sends : List (List Sent)) (upto : ℕ) (moving : Moving) →
    Contains (moving_between d l sends base reported upto) moving →
    (cycle : ℕ) × (reported ≤ cycle) × (cycle < upto) × (batch_at sends cycle ≡ [] → ⊥)
some_moving d l base reported sends upto moving c =
    let w = contains_from_below (λ k. map (moving_in d l base (reported + k)) (batch_at sends (reported + k))) (upto - reported) moving c in
    let s = contains_from_map (moving_in d l base (reported + w.0)) (batch_at sends (reported + w.0)) moving w.2 in
    (reported + w.0, omega arith, omega (arith, w.1), λ e. contains_none s.0 (subst (λ (b : List Sent). Contains b s.0) e s.1))

-- what a link has sent up to its last cycle and hasn't handed on is pending, within 256 cycles
pub record IsPending (d : Domain) (l : ℕ) (sends : List (List Sent)) (reported sent base : ℕ) (frames : List Moving) : Type 0 where
  pub is : frames ≡ moving_between d l sends base reported sent
  pub near : (cycle : ℕ) → reported ≤ cycle → cycle < sent → (batch_at sends cycle ≡ [] → ⊥) → (base ≤ cycle) × (cycle < base + 256)

module _ (d : Domain) (l reported : ℕ) (sends : List (List Sent)) (sents : List Sent) (far : reported ≤ length sends) where
  -- this holds with one more cycle if the first counted cycle is near this one too
  pending_by : (base : ℕ) (frames after : List Moving) → IsPending d l sends reported (length sends) base frames →
      ((sents ≡ [] → ⊥) → (base ≤ length sends) × (length sends < base + 256)) →
      after ≡ frames ++ map (moving_on (wire_on d l) base (length sends)) sents →
      IsPending d l (sends ++ sents ∷ []) reported (length sends + 1) base after
  pending_by base frames after p here more = record {
    is = more
        ∙ ap₂ (λ (xs ys : List Moving). xs ++ ys) p.is (all_moving_same d l base (length sends) sents (λ some. (here some).1))
        ∙ sym (moving_more d l base reported sends sents far);
    near = λ cycle from below some. elim (cases_lt cycle (length sends)) [
      | inl less ↦ p.near cycle from less (λ e. some (batch_before sends sents cycle less ∙ e))
      | inr last ↦
          let same : cycle ≡ length sends = omega (arith, below, last) in
          let at = here (λ e. some (batch_after sends sents cycle same ∙ e)) in
          (omega (arith, at.0, same), omega (arith, at.1, same))
    ];
  }

  -- if nothing is pending, it holds from any cycle on
  pending_none : (base other : ℕ) → IsPending d l sends reported (length sends) base [] → IsPending d l sends reported (length sends) other []
  pending_none base other p =
      let none = none_moving d l base reported sends (length sends) (sym p.is) in
      record {
        is = sym (moving_none d l other reported sends (length sends) none);
        near = λ cycle from below some. absurd (some (none cycle from below));
      }

  -- if something is pending, the first counted cycle is one of those that were sent
  pending_some : (base : ℕ) (x : Moving) (xs : List Moving) → IsPending d l sends reported (length sends) base (x ∷ xs) → base ≤ length sends
  pending_some base x xs p =
      let c : Contains (moving_between d l sends base reported (length sends)) x = subst (λ (ms : List Moving). Contains ms x) p.is (contains_here x xs) in
      let w = some_moving d l base reported sends (length sends) x c in
      omega (arith, (p.near w.0 w.1 w.2 w.3).0, w.2)

-- what is pending, with one more cycle that isn't too far
pub pending_more : (d : Domain) (l reported : ℕ) (sends : List (List Sent)) (sents : List Sent) (base base_then : ℕ) (frames after : List Moving) →
    reported ≤ length sends → IsPending d l sends reported (length sends) base frames → length sends < most_after frames (length sends) base →
    base_then ≡ base_with frames base (length sends) sents → after ≡ frames ++ map (moving_on (wire_on d l) base_then (length sends)) sents →
    IsPending d l (sends ++ sents ∷ []) reported (length sends + 1) base_then after
pending_more d l reported sends [] base base_then frames after far p most counts more =
    pending_by d l reported sends [] far base_then frames after
    (subst (λ (b : ℕ). IsPending d l sends reported (length sends) b frames) (sym counts) p) (λ some. absurd (some refl)) more
pending_more d l reported sends (s ∷ ss) base base_then [] after far p most counts more =
    pending_by d l reported sends (s ∷ ss) far base_then [] after
    (pending_none d l reported sends (s ∷ ss) far base base_then p) (λ some. (omega (arith, counts), omega (arith, counts))) more
pending_more d l reported sends (s ∷ ss) base base_then (x ∷ xs) after far p most counts more =
    pending_by d l reported sends (s ∷ ss) far base_then (x ∷ xs) after
    (subst (λ (b : ℕ). IsPending d l sends reported (length sends) b (x ∷ xs)) (sym counts) p)
    (λ some. (omega (arith, counts, pending_some d l reported sends (s ∷ ss) far base x xs p), omega (arith, counts, most))) more

-- with one more cycle a link may send at least as far
pub most_more : (frames : List Moving) (base sent : ℕ) (sents : List Sent) (as_moving : Sent → Moving) →
    most_after frames sent base ≤ most_after (frames ++ map as_moving sents) (sent + 1) (base_with frames base sent sents)
most_more [] base sent [] as_moving = omega arith
most_more [] base sent (s ∷ ss) as_moving = omega arith
most_more (x ∷ xs) base sent [] as_moving = omega arith
most_more (x ∷ xs) base sent (s ∷ ss) as_moving = omega arith

-- and also if it hands on nothing
pub most_later : (frames : List Moving) (base sent : ℕ) → most_after frames sent base ≤ most_after frames (sent + 1) base
most_later [] base sent = omega arith
most_later (x ∷ xs) base sent = omega arith

-- a link that ends in a bridge is one of the domain's
pub entering_link : (d : Domain) (m bridge : ℕ) → enters d m bridge ≡ true → m < length d.links
entering_link d m bridge e = by_link (slice_get d.links m) refl
  where
    -- a link that the domain lacks ends nowhere
    by_link : (found : Option Link) → slice_get d.links m ≡ found → m < length d.links
    by_link (Some link) is = slice_get_within d.links m link is
    by_link None is =
        absurd (true≢false (sym e ∙ ap (λ (o : Option Link). option_map_or (λ (link : Link). node_is link.to bridge) o false) is))

-- two conditions, one inside the other
if_both : {X : Type 0} (a b : Bool) (xs : List X) → cond a (cond b xs []) [] ≡ cond (a && b) xs []
if_both true b xs = refl
if_both false b xs = refl

-- what one source brought in a cycle goes on as the link's known rows say
pub goes_as_rows_say : (known : List By) (rows : List Row) (l : ℕ) (by : By) (source cycle : ℕ) (frames cames : List ArrivedFrame) →
    ((number : ℕ) → by_at known number ≡ by_row l (row_of rows number)) → filter (is_in cycle) frames ≡ cames →
    goes_from known by source cycle frames ≡ that_go_on rows l by source cames
goes_as_rows_say known rows l by source cycle frames cames same held =
    ap (that_go known by source) held
    ∙ ap (map (queued source))
    (filter_alike (λ (came : ArrivedFrame). same_by (by_at known came.row) by) (λ (came : ArrivedFrame). same_by (by_row l (row_of rows came.row)) by) cames
    (λ came c. ap (λ (b : By). same_by b by) (same came.row)))

-- a link has gone on by this many cycles: its state holds with more sent, it knows the same rows, and it may still send as far
pub record HasGone (d : Domain) (bridge : ℕ) (come : Come) (until : ℕ) (sends : List (List Sent)) (count : ℕ) (before after : Outlet) : Type 0 where
  pub rest : List (List Sent)
  pub is : IsOutletOf d bridge come (sends ++ rest) after
  pub most : until ≤ most_of after
  pub as_far : after.sent ≡ before.sent + count
  pub leads : after.leads ≡ before.leads
  pub link : after.trace.link ≡ before.trace.link

-- a bridge at which this has arrived, and which has kept all from a cycle on
module _ (d : Domain) (bridge : ℕ) (come : Come) (least : ℕ) (inlets : List Inlet) (edge : Edge) (into : map link_in inlets ≡ links_into d bridge)
    (are_inlets : All (IsInletOf come least) inlets) (is_edge : IsEdgeOf d bridge come least edge) where
  -- what arrived by a link in a cycle and goes on by another one, if a row leads there
  abbrev brought_to : ℕ → ℕ → ℕ → List Queued
  brought_to l cycle m =
      if leads (all_rows come.tables) m l
      then that_go_on (all_rows come.tables) l (ingress.Link m) m (filter (is_in cycle) (come.brought m))
      else []

  module _ (l cycle : ℕ) (known : Leads) (knows : KnowsRows l come.tables known) (kept : least ≤ cycle) where
    -- what an inlet brought in a cycle, by the link's rows
    brought_by_inlet : (inlet : Inlet) → Contains inlets inlet → queued_by known cycle inlet ≡ brought_to l cycle inlet.link
    brought_by_inlet inlet c =
        let is = All-contains (IsInletOf come least) inlets inlet are_inlets c in
        ap₂ (λ (b : Bool) (xs : List Queued). cond b xs []) (knows.needs inlet.link)
        (goes_as_rows_say known.rows.items (all_rows come.tables) l (ingress.Link inlet.link) inlet.link cycle inlet.log.frames.items
        (filter (is_in cycle) (come.brought inlet.link)) knows.rows (is.holds cycle kept))

    -- what all inlets brought
    brought_by_inlets : flat_map (queued_by known cycle) inlets ≡ each_below (comes_by d bridge come (all_rows come.tables) l cycle) (length d.links)
    brought_by_inlets =
        let of_link = brought_to l cycle in
        flat_map_same (queued_by known cycle) (λ (inlet : Inlet). of_link inlet.link) inlets brought_by_inlet
        ∙ sym (flat_map-map of_link link_in inlets)
        ∙ ap (flat_map of_link) into
        ∙ made_of_kept (λ (m : ℕ). enters d m bridge) of_link (length d.links)
        ∙ same_below (λ (m : ℕ). if enters d m bridge then of_link m else []) (comes_by d bridge come (all_rows come.tables) l cycle) (length d.links)
        (λ m less. if_both (enters d m bridge) (leads (all_rows come.tables) m l)
        (that_go_on (all_rows come.tables) l (ingress.Link m) m (filter (is_in cycle) (come.brought m))))

    -- and the edge: all that arrived in the cycle and goes on by the link
    pub queue_is : queue_of known inlets edge.log cycle ≡ comes_to d bridge come (all_rows come.tables) l cycle
    queue_is =
        ap₂ (λ (xs ys : List Queued). xs ++ ys) brought_by_inlets
        (goes_as_rows_say known.rows.items (all_rows come.tables) l ingress.Edge 4096 cycle edge.log.frames.items
        (map (came_of_going d cycle) (covered_in d bridge come cycle)) knows.rows (is_edge.holds cycle kept))

  -- all that arrived is in order of cycle
  pub all_by_cycle : AreByCycle inlets edge.log
  all_by_cycle = record { links = λ k x inside. (are_inlets k x inside).held.by_cycle; offers = is_edge.held.by_cycle }

  -- a link that ends in the bridge is one of its inlets
  inlet_there : (m : ℕ) → enters d m bridge ≡ true → (inlet : Inlet) × Contains inlets inlet × (inlet.link ≡ m)
  inlet_there m e =
      let test = λ (k : ℕ). if enters d k bridge then k ∷ [] else [] in
      let here : Contains (test m) m = if_contains (enters d m bridge) (m ∷ []) m e (contains_here m []) in
      let there : Contains (links_into d bridge) m = contains_below test (length d.links) m m (entering_link d m bridge e) here in
      contains_from_map link_in inlets m (subst (λ (ms : List ℕ). Contains ms m) (sym into) there)

  module _ (until : ℕ) (tables : until ≤ length come.tables + 1) where
    -- what a link needs has arrived up to a cycle
    abbrev pub HasCome : Leads → Type 0
    HasCome known = All (λ (inlet : Inlet). list_any (λ it. it == inlet.link) known.needs.items ≡ true → until ≤ inlet.upto + 1) inlets

    module _ (sends : List (List Sent)) (before after : Outlet) (is : IsOutletOf d bridge come sends before) (goes : SendsOneCycle inlets edge.log before after)
        (less : before.sent < until) (early : least ≤ before.sent - 1) (come_so_far : HasCome before.leads) where
      -- what it sends
      abbrev sents : List Sent
      sents = sends_of before.wire before.sent 0 (map came_of goes.sorted)

      -- what it needs has arrived
      led_has_come : (m : ℕ) → enters d m bridge ≡ true → leads (all_rows come.tables) m before.trace.link ≡ true → before.sent ≤ come.upto m
      led_has_come m enter led =
          let w = inlet_there m enter in
          let needed = is.knows.needs w.0.link ∙ ap (λ (k : ℕ). leads (all_rows come.tables) k before.trace.link) w.2 ∙ led in
          let reached = All-contains
          (λ (inlet : Inlet). list_any (λ it. it == inlet.link) before.leads.needs.items ≡ true → until ≤ inlet.upto + 1) inlets w.0 come_so_far w.1 needed in
          let upto = (All-contains (IsInletOf come least) inlets w.0 are_inlets w.1).upto ∙ ap come.upto w.2 in
          omega (arith, reached, upto, less)

      -- what waited for it, after the first cycle
      waited : (cycle : ℕ) → before.sent ≡ cycle + 1 → IsPermutation (comes_to d bridge come (all_rows come.tables) before.trace.link cycle) goes.sorted
      waited cycle e =
          let next : before.sent ≡ suc cycle = omega (arith, e) in
          let kept : least ≤ cycle = omega (arith, early, e) in
          subst (λ (queue : List Queued). IsPermutation queue goes.sorted) (queue_is before.trace.link cycle before.leads is.knows kept)
          (subst (λ (n : ℕ). IsPermutation (waits_for before.leads inlets edge.log n) goes.sorted) next (goes.is_queue all_by_cycle is.knows.fits))

      -- in the first cycle nothing
      first_empty : before.sent ≡ 0 → sents ≡ []
      first_empty e =
          let nothing = subst (λ (n : ℕ). IsPermutation (waits_for before.leads inlets edge.log n) goes.sorted) e (goes.is_queue all_by_cycle is.knows.fits) in
          let none : goes.sorted ≡ [] = nil_from_length goes.sorted (length_permutation [] goes.sorted nothing) in
          ap (λ (queue : List Queued). sends_of before.wire before.sent 0 (map came_of queue)) none

      -- the link has gone on to the next cycle
      one_further : (cycle : ℕ) → before.sent ≡ cycle + 1 → GoesOnBy d bridge come before.trace.link cycle sents
      one_further cycle e = record {
        count = length come.tables;
        had_table = omega (arith, less, tables, e);
        within = omega arith;
        had = λ m enter led. omega (arith, led_has_come m enter led, e);
        sorted = goes.sorted;
        is_queue = waited cycle e;
        in_order = goes.in_order;
        sends = ap₂ (λ (wire : Wire) (n : ℕ). sends_of wire n 0 (map came_of goes.sorted)) is.wire e;
      }

      -- and so it has in all its cycles
      gone_further : HasGoneOnBy d bridge come before.trace.link (sends ++ sents ∷ [])
      gone_further = record {
        first = elim (cases_eq (length sends) 0) [
          | inl none ↦ batch_after sends sents 0 (sym none) ∙ first_empty (is.as_far ∙ none)
          | inr some ↦ batch_before sends sents 0 (omega (arith, some)) ∙ is.gone.first
        ];
        next = λ cycle below. elim (cases_lt (cycle + 1) (length sends)) [
          | inl inside ↦ subst (GoesOnBy d bridge come before.trace.link cycle) (sym (batch_before sends sents (cycle + 1) inside))
              (is.gone.next cycle inside)
          | inr last ↦
              let at : cycle + 1 ≡ length sends = omega (arith, last, below, length_push sends sents) in
              subst (GoesOnBy d bridge come before.trace.link cycle) (sym (batch_after sends sents (cycle + 1) at))
              (one_further cycle (is.as_far ∙ sym at))
        ];
      }

      -- what is pending for it afterwards
      pends_further : until ≤ most_of before → before.wire.onward ≡ true →
          IsPending d before.trace.link (sends ++ sents ∷ []) before.reported (length sends + 1) after.pending.base after.pending.frames.items
      pends_further most onward =
          let frames = before.pending.frames.items in
          let base = before.pending.base in
          let near : before.sent < most_of before = omega (arith, less, most) in
          let pending : IsPending d before.trace.link sends before.reported before.sent base frames =
          record { is = is.pends onward; near = is.counts onward } in
          pending_more d before.trace.link before.reported sends sents base after.pending.base frames after.pending.frames.items
          (omega (arith, is.handed, is.as_far))
          (subst (λ (n : ℕ). IsPending d before.trace.link sends before.reported n base frames) is.as_far pending)
          (subst (λ (n : ℕ). n < most_after frames n base) is.as_far near)
          (subst (λ (n : ℕ). after.pending.base ≡ base_with frames base n sents) is.as_far (goes.adds.base onward))
          (goes.adds.pends onward
          ∙ ap₂ (λ (wire : Wire) (n : ℕ). frames ++ map (moving_on wire after.pending.base n) sents) is.wire is.as_far)

      -- it still has what is pending if it hands on
      pends_as_it_is : until ≤ most_of before → after.wire.onward ≡ true →
          IsPending d after.trace.link (sends ++ sents ∷ []) after.reported after.sent after.pending.base after.pending.frames.items
      pends_as_it_is most onward =
          let same = goes.adds.same in
          let list = sends ++ sents ∷ [] in
          let base = after.pending.base in
          let frames = after.pending.frames.items in
          let onward_before = ap (λ (wire : Wire). wire.onward) (sym same.wire) ∙ onward in
          let as_far : length sends + 1 ≡ after.sent = omega (arith, goes.as_far, is.as_far) in
          subst (λ (k : ℕ). IsPending d k list after.reported after.sent base frames) (sym same.link)
          (subst (λ (n : ℕ). IsPending d before.trace.link list n after.sent base frames) (sym goes.adds.reported)
          (subst (λ (n : ℕ). IsPending d before.trace.link list before.reported n base frames) as_far (pends_further most onward_before)))

      -- the link's state holds with the additional cycle
      pub outlet_more : until ≤ most_of before → IsOutletOf d bridge come (sends ++ sents ∷ []) after
      outlet_more most =
          let same = goes.adds.same in
          let list = sends ++ sents ∷ [] in
          let flat = flat_map (λ (batch : List Sent). batch) in
          record {
            wire = same.wire ∙ is.wire ∙ ap (wire_on d) (sym same.link);
            knows = subst (λ (k : ℕ). KnowsRows k come.tables after.leads) (sym same.link)
                (subst (KnowsRows before.trace.link come.tables) (sym same.leads) is.knows);
            as_far = omega (arith, goes.as_far, is.as_far, length_push sends sents);
            handed = omega (arith, goes.adds.reported, goes.as_far, is.handed);
            pends = λ onward. (pends_as_it_is most onward).is;
            counts = λ onward. (pends_as_it_is most onward).near;
            marked = goes.adds.marked
                ∙ ap (λ (marks : List Mark). marks ++ map mark_of_sent sents) is.marked
                ∙ sym (map-append mark_of_sent (flat sends) sents)
                ∙ ap (λ (batch : List Sent). map mark_of_sent (flat sends ++ batch)) (sym (append-nil sents))
                ∙ ap (map mark_of_sent) (sym (flat_map-append (λ (batch : List Sent). batch) sends (sents ∷ [])));
            no_background = same.background ∙ is.no_background;
            gone = subst (λ (k : ℕ). HasGoneOnBy d bridge come k list) (sym same.link) gone_further;
          }

      -- and it may send at least as far
      pub most_further : until ≤ most_of before → until ≤ most_of after
      most_further most =
          let frames = before.pending.frames.items in
          let base = before.pending.base in
          elim (cases_Bool before.wire.onward) [
            | inl onward ↦
                let as_moving = moving_on before.wire after.pending.base before.sent in
                let now : most_of after ≡ most_after (frames ++ map as_moving sents) (before.sent + 1) (base_with frames base before.sent sents) =
                ap₂ (λ (ms : List Moving) (b : ℕ). most_after ms after.sent b) (goes.adds.pends onward) (goes.adds.base onward)
                ∙ ap (λ (n : ℕ). most_after (frames ++ map as_moving sents) n (base_with frames base before.sent sents)) goes.as_far in
                omega (arith, most, now, most_more frames base before.sent sents as_moving)
            | inr ends ↦
                let now : most_of after ≡ most_after frames (before.sent + 1) base =
                ap₂ (λ (p : Pending) (n : ℕ). most_after p.frames.items n p.base) (goes.adds.ends ends) goes.as_far in
                omega (arith, most, now, most_later frames base before.sent)
          ]

    -- what was sent in one more cycle follows what was sent after the first cycles
    sent_after : (sends rest : List (List Sent)) (last : List Sent) (outlet : Outlet) → IsOutletOf d bridge come ((sends ++ rest) ++ last ∷ []) outlet →
        IsOutletOf d bridge come (sends ++ (rest ++ last ∷ [])) outlet
    sent_after sends rest last outlet is =
        subst (λ (all : List (List Sent)). IsOutletOf d bridge come all outlet) (append_assoc sends rest (last ∷ [])) is

    -- the state of a link that goes on by this many cycles holds with what it sends in them
    pub goes_on_far : (count : ℕ) (sends : List (List Sent)) (before after : Outlet) → IsOutletOf d bridge come sends before →
        SendsMore count inlets edge.log before after → count ≤ until - before.sent → least ≤ before.sent - 1 → HasCome before.leads →
        until ≤ most_of before → HasGone d bridge come until sends count before after
    goes_on_far zero sends before after is goes room early come_so_far most =
        subst (HasGone d bridge come until sends zero before) (sym goes) (record {
          rest = [];
          is = subst (λ (list : List (List Sent)). IsOutletOf d bridge come list before) (sym (append-nil sends)) is;
          most = most;
          as_far = omega arith;
          leads = refl;
          link = refl;
        })
    goes_on_far (suc count) sends before after is goes room early come_so_far most =
        let between = goes.0 in
        let so_far = goes_on_far count sends before between is goes.1 (omega (arith, room)) early come_so_far most in
        let less : between.sent < until = omega (arith, so_far.as_far, room) in
        let early_then : least ≤ between.sent - 1 = omega (arith, so_far.as_far, early) in
        let come_then : HasCome between.leads = subst HasCome (sym so_far.leads) come_so_far in
        let list = sends ++ so_far.rest in
        let more = outlet_more list between after so_far.is goes.2 less early_then come_then so_far.most in
        let last = sents list between after so_far.is goes.2 less early_then come_then in
        record {
          rest = so_far.rest ++ last ∷ [];
          is = sent_after sends so_far.rest last after more;
          most = most_further list between after so_far.is goes.2 less early_then come_then so_far.most;
          as_far = omega (arith, so_far.as_far, goes.2.as_far);
          leads = goes.2.adds.same.leads ∙ so_far.leads;
          link = goes.2.adds.same.link ∙ so_far.link;
        }

-- replacing an element at an index doesn't change a map if the image of the element stays the same
map_set_same : {X Y : Type 0} (f : X → Y) (xs : List X) (index : ℕ) (x y : X) → slice_get xs index ≡ Some x → f y ≡ f x → map f (set xs index y) ≡ map f xs
map_set_same f [] index x y at same = refl
map_set_same {X} {Y} f (z ∷ xs) zero x y at same =
    let e : z ≡ x = cc in ap (λ (w : Y). w ∷ map f xs) (same ∙ ap f (sym e))
map_set_same {X} {Y} f (z ∷ xs) (suc index) x y at same = ap (λ (ws : List Y). f z ∷ ws) (map_set_same f xs index x y at same)

-- if elements ascend by their numbers, different indices have different numbers
apart_by_number : {X : Type 0} (f : X → ℕ) (xs : List X) (i j : ℕ) (d : X) → AllPairs (λ (a b : ℕ). a < b) (map f xs) → i < length xs → j < length xs →
    (i ≡ j → ⊥) → f (get_or xs i d) ≡ f (get_or xs j d) → ⊥
apart_by_number f xs i j d ascend i_inside j_inside apart same =
    let at_i = get_or-map f xs i d 0 i_inside in
    let at_j = get_or-map f xs j d 0 j_inside in
    let count = length-map xs f in
    elim (cases_order i j) [
      | inl e ↦ apart e
      | inr o ↦ elim o [
        | inl less ↦ omega (arith, ascend i j 0 less (omega (arith, count, j_inside)), at_i, at_j, same)
        | inr more ↦ omega (arith, ascend j i 0 more (omega (arith, count, i_inside)), at_i, at_j, same)
      ]
    ]

-- if one element of a list in order of number is replaced, a property of the others holds if it holds of all with other numbers
all_but_one : {X : Type 0} (P Q : X → Type 0) (f : X → ℕ) (xs : List X) (index : ℕ) (x y : X) → AllPairs (λ (a b : ℕ). a < b) (map f xs) →
    slice_get xs index ≡ Some x → All P xs → ((z : X) → (f z ≡ f x → ⊥) → P z → Q z) → Q y → All Q (set xs index y)
all_but_one P Q f xs index x y ascend at all others new k d inside =
    let index_inside = slice_get_within xs index x at in
    let k_inside : k < length xs = omega (arith, inside, length-set xs index y) in
    elim (cases_eq k index) [
      | inl e ↦
          let is : get_or (set xs index y) k d ≡ y = ap (λ (i : ℕ). get_or (set xs index y) i d) e ∙ get_or-set_same xs index y d index_inside in
          subst Q (sym is) new
      | inr differ ↦
          subst Q (sym (get_or-set_other xs index k y d differ))
          (others (get_or xs k d) (λ same. apart_by_number f xs k index d ascend k_inside index_inside differ
          (same ∙ ap f (sym (get_or_from_slice_get xs index x d at)))) (all k d k_inside))
    ]

-- what all links have sent, if one has sent more
abbrev pub with_sent : Sendings → ℕ → List (List Sent) → Sendings
with_sent sends l rest k = if k == l then sends k ++ rest else sends k

-- more that one link has sent is more
pub one_has_sent_more : (sends : Sendings) (l : ℕ) (rest : List (List Sent)) → HaveSentMore sends (with_sent sends l rest)
one_has_sent_more sends l rest k = elim (cases_Bool (k == l)) [
  | inl e ↦ (rest, cond-true (k == l) (sends k ++ rest) (sends k) e)
  | inr e ↦ ([], cond-false (k == l) (sends k ++ rest) (sends k) e ∙ sym (append-nil (sends k)))
]

-- and having sent more is transitive
pub more_after_more : (sends between more : Sendings) → HaveSentMore sends between → HaveSentMore between more → HaveSentMore sends more
more_after_more sends between more first second l =
    let a = first l in
    let b = second l in
    (a.0 ++ b.0, b.1 ∙ ap (λ (list : List (List Sent)). list ++ b.0) a.1 ∙ append_assoc (sends l) a.0 b.0)

module _ (index : ℕ) (before after : Relay) (goes : SendsOn index before after) (d : Domain) (come : Come) (sends : Sendings)
    (stands : StandsSo d come sends before) where
  -- the link that goes on, by number
  abbrev link : ℕ
  link = goes.outlet.trace.link

  -- its state before
  stood : IsOutletOf d before.number come (sends link) goes.outlet
  stood = All-contains (λ (outlet : Outlet). IsOutletOf d before.number come (sends outlet.trace.link) outlet) before.outlets.items goes.outlet
      stands.outlets (contains_at before.outlets.items index goes.outlet goes.was)

  -- how far it has gone on
  gone_far : HasGone d before.number come goes.until (sends link) (goes.until - goes.outlet.sent) goes.outlet goes.gone
  gone_far =
      goes_on_far d before.number come stands.least before.inlets.items before.edge stands.into stands.inlets stands.edge goes.until
      (omega (arith, goes.might.tables, stands.tables_taken)) (goes.until - goes.outlet.sent) (sends link) goes.outlet goes.gone stood goes.sends
      (omega arith)
      (All-contains (λ (outlet : Outlet). stands.least ≤ outlet.sent - 1) before.outlets.items goes.outlet stands.early
      (contains_at before.outlets.items index goes.outlet goes.was))
      (goes.might.needed goes.outlet goes.was) (goes.might.most goes.outlet goes.was)

  -- what all have sent afterwards
  abbrev then_sent : Sendings
  then_sent = with_sent sends link gone_far.rest

  -- the links ascend
  ascend : AllPairs (λ (a b : ℕ). a < b) (map link_out before.outlets.items)
  ascend = subst (AllPairs (λ (a b : ℕ). a < b)) (sym stands.from) (numbers_ascend (λ (l : ℕ). leaves d l before.number) (length d.links))

  -- the state of each link holds with what it has sent afterwards
  outlets_then : All (λ (outlet : Outlet). IsOutletOf d before.number come (then_sent outlet.trace.link) outlet) (set before.outlets.items index goes.gone)
  outlets_then =
      let so = λ (all : Sendings) (outlet : Outlet). IsOutletOf d before.number come (all outlet.trace.link) outlet in
      all_but_one (so sends) (so then_sent) link_out before.outlets.items index goes.outlet goes.gone ascend goes.was stands.outlets
      (λ outlet other is. subst (λ (list : List (List Sent)). IsOutletOf d before.number come list outlet)
      (sym (cond-false (outlet.trace.link == link) (sends outlet.trace.link ++ gone_far.rest) (sends outlet.trace.link)
      (ne_eqb outlet.trace.link link other))) is)
      (subst (λ (list : List (List Sent)). IsOutletOf d before.number come list goes.gone)
      (ap (λ (k : ℕ). sends k ++ gone_far.rest) (sym gone_far.link)
      ∙ sym (cond-true (goes.gone.trace.link == link) (sends goes.gone.trace.link ++ gone_far.rest) (sends goes.gone.trace.link)
      (eq-eqb goes.gone.trace.link link gone_far.link))) gone_far.is)

  -- the bridge's state holds with it
  stands_then : StandsSo d come then_sent after
  stands_then = record {
    of_domain = ap arc_value goes.same.domain ∙ stands.of_domain;
    tables_taken = goes.same.tables ∙ stands.tables_taken;
    offers_taken = stands.offers_taken;
    into = ap (λ (list : Vec Inlet Global). map link_in list.items) goes.same.inlets ∙ stands.into ∙ ap (links_into d) (sym goes.same.number);
    from = ap (map link_out) goes.is
        ∙ map_set_same link_out before.outlets.items index goes.outlet goes.gone goes.was gone_far.link
        ∙ stands.from
        ∙ ap (links_from d) (sym goes.same.number);
    rows = record {
      below = λ row c. omega (arith, stands.rows.below row c, goes.same.known);
      last = subst (λ (n : ℕ). (n ≡ 0) ⊎ ((row : Row) × Contains (all_rows come.tables) row × (row.no + 1 ≡ n))) (sym goes.same.known) stands.rows.last;
      room = subst (λ (list : List Outlet). All (λ (outlet : Outlet). length outlet.leads.rows.items ≤ after.known) list) (sym goes.is)
          (subst (λ (n : ℕ). All (λ (outlet : Outlet). length outlet.leads.rows.items ≤ n) (set before.outlets.items index goes.gone)) (sym goes.same.known)
          (All-set (λ (outlet : Outlet). length outlet.leads.rows.items ≤ before.known) before.outlets.items index goes.gone
          (subst (λ (known : Leads). length known.rows.items ≤ before.known) (sym gone_far.leads)
          (All-contains (λ (outlet : Outlet). length outlet.leads.rows.items ≤ before.known) before.outlets.items goes.outlet stands.rows.room
          (contains_at before.outlets.items index goes.outlet goes.was))) stands.rows.room));
    };
    least = stands.least;
    early = subst (All (λ (outlet : Outlet). stands.least ≤ outlet.sent - 1)) (sym goes.is)
        (All-set (λ (outlet : Outlet). stands.least ≤ outlet.sent - 1) before.outlets.items index goes.gone
        (omega (
          arith,
          gone_far.as_far,
          All-contains (λ (outlet : Outlet). stands.least ≤ outlet.sent - 1) before.outlets.items goes.outlet stands.early
              (contains_at before.outlets.items index goes.outlet goes.was),
        )) stands.early);
    inlets = subst (λ (list : Vec Inlet Global). All (IsInletOf come stands.least) list.items) (sym goes.same.inlets) stands.inlets;
    edge = subst (λ (n : ℕ). IsEdgeOf d n come stands.least after.edge) (sym goes.same.number)
        (subst (IsEdgeOf d before.number come stands.least) (sym goes.same.edge) stands.edge);
    outlets = subst (λ (n : ℕ). All (λ (outlet : Outlet). IsOutletOf d n come (then_sent outlet.trace.link) outlet) after.outlets.items)
        (sym goes.same.number)
        (subst (All (λ (outlet : Outlet). IsOutletOf d before.number come (then_sent outlet.trace.link) outlet)) (sym goes.is) outlets_then);
  }

  -- and it has sent more
  pub stands_with_more : (more : Sendings) × StandsSo d come more after × HaveSentMore sends more
  stands_with_more = (then_sent, stands_then, one_has_sent_more sends link gone_far.rest)

-- what stays of a bridge stays over two steps
pub stays_further : (first between after : Relay) → StaysAs first between → StaysAs between after → StaysAs first after
stays_further first between after a b = record {
  domain = b.domain ∙ a.domain;
  number = b.number ∙ a.number;
  cycles = b.cycles ∙ a.cycles;
  links_in = b.links_in ∙ a.links_in;
  links_out = b.links_out ∙ a.links_out;
  wires = b.wires ∙ a.wires;
  tidy = λ tidy. b.tidy (a.tidy tidy);
  within = λ within.
      subst (λ (cycles : ℕ). All (IsWithin cycles) after.outlets.items) a.cycles
      (b.within (subst (λ (cycles : ℕ). All (IsWithin cycles) between.outlets.items) (sym a.cycles) (a.within within)));
}

-- a link stays the same link, no matter how many cycles it sends
pub same_link_sends : (count : ℕ) (inlets : List Inlet) (edge : SourceLog) (before after : Outlet) → SendsMore count inlets edge before after →
    IsSameLink before after
same_link_sends zero inlets edge before after goes =
    subst (IsSameLink before) (sym goes) (record { wire = refl; leads = refl; link = refl; background = refl })
same_link_sends (suc count) inlets edge before after goes =
    let last = goes.2.adds.same in
    let so_far = same_link_sends count inlets edge before goes.0 goes.1 in
    record {
      wire = last.wire ∙ so_far.wire;
      leads = last.leads ∙ so_far.leads;
      link = last.link ∙ so_far.link;
      background = last.background ∙ so_far.background;
    }

-- a link sends one cycle after the other
sent_count : (count : ℕ) (inlets : List Inlet) (edge : SourceLog) (before after : Outlet) → SendsMore count inlets edge before after →
    after.sent ≡ before.sent + count
sent_count zero inlets edge before after goes = omega (arith, ap (λ (outlet : Outlet). outlet.sent) goes)
sent_count (suc count) inlets edge before after goes =
    omega (arith, sent_count count inlets edge before goes.0 goes.1, goes.2.as_far)

-- so if it sends up to a cycle within the run, it stays within the run
sends_within : (until cycles : ℕ) (inlets : List Inlet) (edge : SourceLog) (before after : Outlet) → until ≤ cycles → IsWithin cycles before →
    SendsCycles until inlets edge before after → IsWithin cycles after
sends_within until cycles inlets edge before after early within goes =
    omega (arith, sent_count (until - before.sent) inlets edge before after goes, within, early)

-- a bridge stays the same when one of its links goes on
pub sends_on_stays : (index : ℕ) (before after : Relay) → SendsOn index before after → StaysAs before after
sends_on_stays index before after goes =
    let outlets = before.outlets.items in
    let log = before.edge.log in
    let same = same_link_sends (goes.until - goes.outlet.sent) before.inlets.items log goes.outlet goes.gone goes.sends in
    record {
      domain = goes.same.domain;
      number = goes.same.number;
      cycles = goes.same.cycles;
      links_in = ap (λ (list : Vec Inlet Global). map link_in list.items) goes.same.inlets;
      links_out = ap (map link_out) goes.is ∙ map_set_same link_out outlets index goes.outlet goes.gone goes.was same.link;
      wires = ap (map wire_out) goes.is ∙ map_set_same wire_out outlets index goes.outlet goes.gone goes.was same.wire;
      tidy = λ tidy.
          let was = All-contains IsTidy outlets goes.outlet tidy (contains_at outlets index goes.outlet goes.was) in
          let gone = tidy_sends goes.until before.inlets.items log goes.outlet goes.gone was goes.sends in
          subst (All IsTidy) (sym goes.is) (All-set IsTidy outlets index goes.gone gone tidy);
      within = λ within.
          let was = All-contains (IsWithin before.cycles) outlets goes.outlet within (contains_at outlets index goes.outlet goes.was) in
          let gone = sends_within goes.until before.cycles before.inlets.items log goes.outlet goes.gone goes.might.cycles was goes.sends in
          subst (All (IsWithin before.cycles)) (sym goes.is) (All-set (IsWithin before.cycles) outlets index goes.gone gone within);
    }

-- and this hands on nothing
reported_sends : (count : ℕ) (inlets : List Inlet) (edge : SourceLog) (before after : Outlet) → SendsMore count inlets edge before after → after.reported ≡ before.reported
reported_sends zero inlets edge before after goes = ap (λ (outlet : Outlet). outlet.reported) goes
reported_sends (suc count) inlets edge before after goes = goes.2.adds.reported ∙ reported_sends count inlets edge before goes.0 goes.1

-- nor do its other links hand on anything
reported_stays : (index : ℕ) (before after : Relay) → SendsOn index before after → reported_by after ≡ reported_by before
reported_stays index before after goes =
    ap (map (λ (outlet : Outlet). outlet.reported)) goes.is
    ∙ map_set_same (λ (outlet : Outlet). outlet.reported) before.outlets.items index goes.outlet goes.gone goes.was
    (reported_sends (goes.until - goes.outlet.sent) before.inlets.items before.edge.log goes.outlet goes.gone goes.sends)

-- at first none of a bridge's links has gone on
pub none_goes_on : (before : Relay) → GoesOnAlone before before
none_goes_on before = record {
  same = record { domain = refl; number = refl; cycles = refl; links_in = refl; links_out = refl; wires = refl; tidy = λ tidy. tidy; within = λ within. within };
  reported_same = refl;
  tables_same = refl;
  drops_same = refl;
  stands = λ d come sends stands may. (sends, stands, λ l. ([], sym (append-nil (sends l))));
}

-- then one more link has
pub one_goes_on : (index : ℕ) (first between after : Relay) → GoesOnAlone first between → SendsOn index between after → GoesOnAlone first after
one_goes_on index first between after so_far goes = record {
  same = stays_further first between after so_far.same (sends_on_stays index between after goes);
  reported_same = reported_stays index between after goes ∙ so_far.reported_same;
  tables_same = goes.same.tables ∙ so_far.tables_same;
  drops_same = ap (λ (edge : Edge). edge.drops) goes.same.edge ∙ so_far.drops_same;
  stands = λ d come sends stands may.
      let a = so_far.stands d come sends stands may in
      let b = stands_with_more index between after goes d come a.0 a.1 in
      (b.0, b.1, more_after_more sends a.0 b.0 a.2 b.2);
}

-- and in the end what no link needs is removed
pub all_have_gone_on : (first between after : Relay) → GoesOnAlone first between → LetsGo between after → GoesOnAlone first after
all_have_gone_on first between after so_far lets = record {
  same = stays_further first between after so_far.same lets.same;
  reported_same = ap (λ (outlets : Vec Outlet Global). map (λ (outlet : Outlet). outlet.reported) outlets.items) lets.outlets_same ∙ so_far.reported_same;
  tables_same = lets.tables_same ∙ so_far.tables_same;
  drops_same = lets.drops_same ∙ so_far.drops_same;
  stands = λ d come sends stands may. let a = so_far.stands d come sends stands may in (a.0, lets.stands d come a.0 a.1, a.2);
}

-- the number of links that leave a bridge stays, no matter what it does
pub as_many_outlets : (before after : Relay) → StaysAs before after → length after.outlets.items ≡ length before.outlets.items
as_many_outlets before after same =
    sym (length-map after.outlets.items link_out) ∙ ap length same.links_out ∙ length-map before.outlets.items link_out

-- what a link needs has arrived up to a cycle, for the inlets so far
pub record HasComeSoFar (index upto : ℕ) (relay : Relay) (seen : List Inlet) : Type 0 where
  pub tables : upto ≤ relay.tables
  pub needed : (outlet : Outlet) → slice_get relay.outlets.items index ≡ Some outlet →
      All (λ (inlet : Inlet). list_any (λ it. it == inlet.link) outlet.leads.needs.items ≡ true → upto ≤ inlet.upto) seen

-- one more inlet has brought a cycle that isn't later, or isn't needed
pub has_come_more : (index have next : ℕ) (relay : Relay) (inlets : List Inlet) (k : ℕ) (inlet : Inlet) →
    HasComeSoFar index have relay (take k inlets) → k < length inlets → inlet ≡ get_or inlets k inlet → next ≤ have →
    ((outlet : Outlet) → slice_get relay.outlets.items index ≡ Some outlet → list_any (λ it. it == inlet.link) outlet.leads.needs.items ≡ true →
    next ≤ inlet.upto) → HasComeSoFar index next relay (take (k + 1) inlets)
has_come_more index have next relay inlets k inlet so_far inside is earlier here = record {
  tables = omega (arith, so_far.tables, earlier);
  needed = λ outlet at.
      let needs = λ (upto : ℕ) (it : Inlet). list_any (λ m. m == it.link) outlet.leads.needs.items ≡ true → upto ≤ it.upto in
      All-more (needs next) inlets k inlet inside
      (All-weaker (needs have) (needs next) (λ it come need. omega (arith, come need, earlier)) (take k inlets) (so_far.needed outlet at))
      (subst (needs next) is (here outlet at));
}

-- the link at an index is the one that was read there
pub link_read : (outlets : List Outlet) (index : ℕ) (read outlet : Outlet) → read ≡ get_or outlets index read → slice_get outlets index ≡ Some outlet →
    read ≡ outlet
link_read outlets index read outlet is at = is ∙ get_or_from_slice_get outlets index outlet read at

-- a link that the link at an index said it doesn't need isn't needed
pub not_needed : (outlets : List Outlet) (index : ℕ) (read outlet : Outlet) (said : Bool) (m : ℕ) → read ≡ get_or outlets index read →
    said ≡ list_any (λ it. it == m) read.leads.needs.items → said ≡ false → slice_get outlets index ≡ Some outlet →
    list_any (λ it. it == m) outlet.leads.needs.items ≡ true → ⊥
not_needed outlets index read outlet said m is says denied at needs =
    true≢false (sym needs
    ∙ ap (λ (o : Outlet). list_any (λ it. it == m) o.leads.needs.items) (sym (link_read outlets index read outlet is at))
    ∙ sym says
    ∙ denied)

-- a link that was read at its index and has sent this far has gone on
pub sends_on_from : (index until : ℕ) (before after : Relay) (read gone : Outlet) (inlets : List Inlet) → IsSameButLinks before after →
    MayReach index until before → index < length before.outlets.items → read ≡ get_or before.outlets.items index read →
    after.outlets.items ≡ slice_set before.outlets.items index gone → inlets ≡ before.inlets.items →
    SendsCycles until inlets before.edge.log read gone → SendsOn index before after
sends_on_from index until before after read gone inlets same might inside is put all cycles = record {
  same = same;
  until = until;
  might = might;
  outlet = read;
  was = slice_get_read before.outlets.items (length before.outlets.items) index read refl inside is;
  gone = gone;
  is = put;
  sends = subst (λ (list : List Inlet). SendsCycles until list before.edge.log read gone) all cycles;
}
