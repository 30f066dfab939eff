-- From cycle to cycle.
use Rattle.std.proofs.Common.{◌≡◌, ◌∙◌, ◌++◌, ◌∷◌, [], ◌<◌, ◌+◌, ◌-◌, ◌*◌, ◌^◌, ◌≤◌, ◌⊎◌, ℕ, zero, suc, List, map, ap}
use Rattle.std.proofs.Common.{ap₂, sym, subst, length, min, refl, arith, inl, inr, get_or, add-one, le_of_eq, mul-le-mul_left}
use Rattle.std.specs.Prelude.{◌/◌, Option, vec_capacity}
use Rattle.std.specs.Option.{option_map_or}
use Rattle.cqf_units.specs.Timing.{budget_of, ticks_of_octet}
use Rattle.cqf_model.specs.Domain.{budget}
use Rattle.cqf_instants.specs.Meaning.{received_of}
use Rattle.cqf_instants.proofs.Shorts.{queue_short}
use Rattle.cqf_instants.proofs.Sending.{all_links, room_in}
use Rattle.std.proofs.lemmas.Option.{slice_get_past, slice_get_read}
use Rattle.std.specs.Global.{Global}
use Rattle.std.specs.declared.vec.Vec.{Vec}
use Rattle.std.proofs.lemmas.Bool.{cases_lt}
use Rattle.std.proofs.lemmas.List.{get_or-append_right, get_or_default, get_or_past, get_or_append_left, length-append, length-map, map-append}
use Rattle.cqf_lists.specs.Lists.{each_below}
use Rattle.cqf_model.specs.declared.frames.Started.{Started}
use Rattle.cqf_model.specs.declared.topology.Link.{Link}
use Rattle.cqf_model.specs.Book.{batch, starts_in}
use Rattle.cqf_model.specs.Domain.{Domain, guard_by, guard_of}
use Rattle.cqf_laws_instants.specs.GatheredLaws.{gathered_of}
use Rattle.cqf_instants.specs.declared.queues.LaidHop.{LaidHop}
use Rattle.cqf_instants.specs.declared.queues.Waiting.{Waiting}
use Rattle.cqf_instants.specs.declared.offers.Entering.{Entering}
use Rattle.cqf_instants.specs.Entering.{CanPut, PutsOffers, offer_to}
use Rattle.cqf_instants.specs.Queues.{HasSpace, cap_at, caps_below, queue_at, queue_lists, sum_below}
use Rattle.cqf_instants.specs.Meaning.{CanSend, Feeds, Given, Holds, SendsAll, begin_of, came_below, most_sent}
use Rattle.cqf_instants.specs.Laws.{TheLaws}
use Rattle.cqf_instants.specs.Progress.{starts_of_cycle}
use Rattle.cqf_instants.specs.Reporting.{AreEmptyQueues, AreGuardsShort, CanReport, IsReadyFor, frames_at, frames_in, guard_at, room_at}
use Rattle.cqf_instants.proofs.Amounts.{sums_same}
use Rattle.cqf_instants.proofs.Enters.{holds_offers}
use Rattle.cqf_instants.proofs.Feeding.{holds_feeds, nothing_feeds}

-- no queues at all
pub empty_none : (links : List Link) (t g o : ℕ) (queues : List (Vec Waiting Global)) → queues ≡ [] → AreEmptyQueues links t g o 0 queues
empty_none links t g o queues e =
    subst (λ (ls : List (Vec Waiting Global)). AreEmptyQueues links t g o 0 ls) (sym e)
    (record { all = refl; none = λ l. refl; room = λ l below. absurd (omega (arith, below)) })

-- a single empty queue holds nothing
abbrev none_alone : List (List Waiting)
none_alone = [] ∷ []

single : (k : ℕ) → get_or none_alone k [] ≡ []
single zero = refl
single (suc k) = get_or_past none_alone (suc k) [] (omega arith)

-- one more empty queue
pub empty_more : (links : List Link) (t g o n : ℕ) (queues after : List (Vec Waiting Global)) (last : Vec Waiting Global) →
    AreEmptyQueues links t g o n queues → last.items ≡ [] → after ≡ queues ++ last ∷ [] → vec_capacity last ≡ room_at links t g o n →
    AreEmptyQueues links t g o (n + 1) after
empty_more links t g o n queues after last h empty is fits = record {
  all = ap length is ∙ length-append queues (last ∷ []) ∙ ap (λ (k : ℕ). k + 1) h.all;
  none = λ l. ap (λ (ls : List (List Waiting)). get_or ls l []) same ∙ by l (cases_lt l n);
  room = λ l below. elim (cases_lt l n) [
    | inl early ↦
        ap (λ (ls : List ℕ). get_or ls l 0) caps
        ∙ get_or_append_left (map (λ (v : Vec Waiting Global). vec_capacity v) queues) (vec_capacity last ∷ []) 0 l (omega (arith, early, cap_count))
        ∙ h.room l early
    | inr late ↦
        let here : l ≡ n = omega (arith, late, below) in
        ap (λ (ls : List ℕ). get_or ls l 0) caps
        ∙ get_or-append_right (map (λ (v : Vec Waiting Global). vec_capacity v) queues) (vec_capacity last ∷ []) n l 0 cap_count late
        ∙ ap (λ (k : ℕ). get_or (vec_capacity last ∷ []) k 0) (let e : l - n ≡ 0 = omega (arith, here) in e)
        ∙ fits ∙ ap (room_at links t g o) (sym here)
  ];
}
  where
    caps : map (λ (v : Vec Waiting Global). vec_capacity v) after ≡ map (λ (v : Vec Waiting Global). vec_capacity v) queues ++ vec_capacity last ∷ []
    caps = ap (map (λ (v : Vec Waiting Global). vec_capacity v)) is ∙ map-append (λ (v : Vec Waiting Global). vec_capacity v) queues (last ∷ [])

    cap_count : length (map (λ (v : Vec Waiting Global). vec_capacity v) queues) ≡ n
    cap_count = length-map queues (λ (v : Vec Waiting Global). vec_capacity v) ∙ h.all

    same : queue_lists after ≡ queue_lists queues ++ [] ∷ []
    same = ap queue_lists is ∙ map-append (λ (v : Vec Waiting Global). v.items) queues (last ∷ []) ∙ ap (λ (l : List Waiting). queue_lists queues ++ l ∷ []) empty

    count : length (queue_lists queues) ≡ n
    count = length-map queues (λ (v : Vec Waiting Global). v.items) ∙ h.all

    by : (l : ℕ) → (l < n) ⊎ (n ≤ l) → get_or (queue_lists queues ++ [] ∷ []) l [] ≡ []
    by l (inl below) = get_or_append_left (queue_lists queues) ([] ∷ []) [] l (omega (arith, below, count)) ∙ h.none l
    by l (inr past) = get_or-append_right (queue_lists queues) ([] ∷ []) n l [] count past ∙ single (l - n)

-- the budget of an existing link
pub frames_there : (links : List Link) (t g n : ℕ) (d : Link) → n < length links →
    frames_in t (guard_by g (get_or links n d)) (ticks_of_octet (get_or links n d).rate) ≡ frames_at links t g n
frames_there links t g n d below =
    let link = get_or links n d in
    ap (λ (o : Option Link). frames_in t (option_map_or (guard_by g) o g) (option_map_or (λ (l : Link). ticks_of_octet l.rate) o 0))
    (sym (slice_get_read links (length links) n link refl below (get_or_default links n d link below)))

-- and so the room of its queue
room_there : (links : List Link) (t g o n : ℕ) (d : Link) → n < length links →
    min (frames_in t (guard_by g (get_or links n d)) (ticks_of_octet (get_or links n d).rate)) o ≡ room_at links t g o n
room_there links t g o n d below = ap (λ (frames : ℕ). min frames o) (frames_there links t g n d below)

-- and its guard band
pub guard_there : (links : List Link) (g n : ℕ) (d : Link) → n < length links → guard_by g (get_or links n d) ≡ guard_at links g n
guard_there links g n d below =
    let link = get_or links n d in
    ap (λ (o : Option Link). option_map_or (guard_by g) o g)
    (sym (slice_get_read links (length links) n link refl below (get_or_default links n d link below)))

-- which is within the cycle
pub short_there : (links : List Link) (t g n : ℕ) (d : Link) → n < length links → AreGuardsShort links t g → guard_by g (get_or links n d) ≤ t
short_there links t g n d below short = omega (arith, short n, guard_there links g n d below)

-- so there is a queue for the next link
pub empty_next : (links : List Link) (t g o n frames : ℕ) (d : Link) (queues after : List (Vec Waiting Global)) (last : Vec Waiting Global) →
    n < length links → AreEmptyQueues links t g o n queues → last.items ≡ [] → after ≡ queues ++ last ∷ [] → vec_capacity last ≡ frames →
    frames ≡ min (frames_in t (guard_by g (get_or links n d)) (ticks_of_octet (get_or links n d).rate)) o → AreEmptyQueues links t g o (n + 1) after
empty_next links t g o n frames d queues after last below h empty is exact fits =
    empty_more links t g o n queues after last h empty is (exact ∙ fits ∙ room_there links t g o n d below)

-- and the count for all links together
pub frames_next : (links : List Link) (t g o n all frames : ℕ) (d : Link) → n < length links → all ≡ sum_below (room_at links t g o) n →
    frames ≡ min (frames_in t (guard_by g (get_or links n d)) (ticks_of_octet (get_or links n d).rate)) o → all + frames ≡ sum_below (room_at links t g o) (n + 1)
frames_next links t g o n all frames d below so_far is =
    ap₂ (λ (a b : ℕ). a + b) so_far (is ∙ room_there links t g o n d below) ∙ ap (sum_below (room_at links t g o)) (sym (add-one n))

-- without a link there is room for nothing
no_budget : (n o cap : ℕ) → min (n * 2100 / 0 / 84) o ≤ cap
no_budget n o cap = omega arith

-- past the queues there is nothing
beyond : (queues : List (Vec Waiting Global)) (l : ℕ) → length queues ≤ l → queue_at queues l ≡ []
beyond queues l past = get_or_past (queue_lists queues) l [] (omega (arith, past, length-map queues (λ (v : Vec Waiting Global). v.items)))

module _ (laws : TheLaws) (given : Given) (links : List Link) (cycle_time guard cycles : ℕ) (branches : List LaidHop) (offers : List Entering)
    (can : CanReport given links cycle_time guard cycles branches offers) where
  abbrev d : Domain
  d = given.run.domain

  abbrev n : ℕ
  n = length links

  same_count : n ≡ length d.links
  same_count = sym (ap length can.are_links)

  -- each queue has room for what its link can send
  room_of : (queues : List (Vec Waiting Global)) → AreEmptyQueues links cycle_time guard (length offers) n queues → (l : ℕ) → most_sent given l ≤ cap_at queues l
  room_of queues empty l = elim (cases_lt l n) [
    | inl below ↦ le_of_eq (sym (empty.room l below ∙ room_is))
    | inr past ↦
        subst (λ (o : Option Link).
        min (budget_of d.cycle_time (guard_of d l) (option_map_or (λ (link : Link). ticks_of_octet link.rate) o 0) / 84) (length given.run.offers)
        ≤ cap_at queues l)
        (sym (slice_get_past d.links l (omega (arith, past, same_count)))) (no_budget (d.cycle_time - guard_of d l) (length given.run.offers) (cap_at queues l))
  ]
    where
      room_is : room_at links cycle_time guard (length offers) l ≡ most_sent given l
      room_is =
          ap (λ (ls : List Link). room_at ls cycle_time guard (length offers) l) (sym can.are_links)
          ∙ ap₂ (λ (t g : ℕ). room_at d.links t g (length offers) l) can.is_time can.is_guard
          ∙ ap (λ (o : ℕ). min (budget d l / 84) o) can.entering.count

  -- the queues of all links together have such room
  pub room_for_all : (queues : List (Vec Waiting Global)) (frames cap : ℕ) → AreEmptyQueues links cycle_time guard (length offers) n queues →
      frames ≡ sum_below (room_at links cycle_time guard (length offers)) n → cap ≡ frames → caps_below queues n ≤ cap
  room_for_all queues frames cap empty are is =
      omega (arith, sums_same (cap_at queues) (room_at links cycle_time guard (length offers)) n empty.room, are, is)

  -- before the first cycle nothing waits
  pub ready_first : (now next : List (Vec Waiting Global)) → AreEmptyQueues links cycle_time guard (length offers) n now →
      AreEmptyQueues links cycle_time guard (length offers) n next → IsReadyFor given offers n branches 0 0 0 now next
  ready_first now next one two = record {
    queues = one.all;
    next_queues = two.all;
    feeds = λ in_run l below. subst (λ (xs : List Waiting). Feeds given branches l 0 xs) (sym (one.none l))
        (nothing_feeds laws.queue laws.due laws.first laws.room given can.legal branches l);
    fresh = two.none;
    room = room_of now one;
    next_room = room_of next two;
    beginning = omega arith;
    parted = record { within = omega arith; earlier = λ p below. absurd (omega (arith, below)); later = λ p from inside. omega arith };
  }

  -- what is computed for a cycle is its starts
  pub starts_are : (cycle : ℕ) (now now' next next' : List (Vec Waiting Global)) (starts : List Started) →
      SendsAll given branches cycle n now now' next next' [] starts → starts ≡ starts_of_cycle given cycle
  starts_are cycle now now' next next' starts sends = sends.starts ∙ ap (each_below (starts_in d given.net.carried cycle)) same_count

  module _ (cycle begins from to : ℕ) (now next now' next' next'' : List (Vec Waiting Global)) (starts starts' : List Started)
      (ready : IsReadyFor given offers n branches cycle begins from now next)
      (sends : SendsAll given branches cycle n now now' next next' starts starts')
      (puts : PutsOffers offers begins (begins + cycle_time) branches next' next'' to) where
    ending : begins + cycle_time ≡ begin_of given cycle + d.cycle_time
    ending = ap₂ (λ (a b : ℕ). a + b) ready.beginning can.is_time

    -- what a queue holds when the offers are put
    holds : (l : ℕ) → Holds given branches l cycle (gathered_of given.run (λ k. batch d given.net.carried k cycle) l cycle) (queue_at next'' l)
    holds l =
        let p : PutsOffers offers (begin_of given cycle) (begin_of given cycle + d.cycle_time) branches next' next'' to =
        subst (λ (e : ℕ). PutsOffers offers (begin_of given cycle) e branches next' next'' to) ending
        (subst (λ (b : ℕ). PutsOffers offers b (begins + cycle_time) branches next' next'' to) ready.beginning puts) in
        subst (λ (xs : List Waiting). Holds given branches l cycle (gathered_of given.run (λ k. batch d given.net.carried k cycle) l cycle) xs)
        (sym (p.queues.each l))
        (holds_offers laws.covered laws.uncovered laws.covers given can.legal branches cycle l offers can.entering
        (came_below given l cycle (length d.links)) (queue_at next' l)
        (subst (λ (k : ℕ). Holds given branches l cycle (came_below given l cycle k) (queue_at next' l)) same_count (sends.holds l)))

    -- the queues have the same room
    pub same_room : (caps_below next'' n ≡ caps_below next n) × (caps_below now' n ≡ caps_below now n)
    same_room = (
      sums_same (cap_at next'') (cap_at next) n (λ l below. puts.queues.capacity l ∙ sends.next_capacity l),
      sums_same (cap_at now') (cap_at now) n (λ l below. sends.capacity l),
    )

    -- and are ready for the next cycle
    pub ready_next : IsReadyFor given offers n branches (cycle + 1) (begins + cycle_time) to next'' now'
    ready_next = record {
      queues = puts.queues.as_many ∙ sends.next_queues ∙ ready.next_queues;
      room = λ l. subst (λ (c : ℕ). most_sent given l ≤ c) (sym (puts.queues.capacity l ∙ sends.next_capacity l)) (ready.next_room l);
      next_room = λ l. subst (λ (c : ℕ). most_sent given l ≤ c) (sym (sends.capacity l)) (ready.room l);
      next_queues = sends.queues ∙ ready.queues;
      feeds = λ in_run l below.
          holds_feeds laws.queue laws.due laws.first laws.room given can.legal branches l cycle in_run
          (omega (arith, can.stand.few, can.entering.count)) (queue_at next'' l) (holds l);
      fresh = λ l. elim (cases_lt l n) [
        | inl below ↦ sends.emptied l below
        | inr past ↦ sends.others l past ∙ beyond now l (omega (arith, past, ready.queues))
      ];
      beginning = ending ∙ next_begins cycle d.cycle_time;
      parted = puts.parted;
    }
      where
        next_begins : (c t : ℕ) → c * t + t ≡ (c + 1) * t
        next_begins c t = omega arith

  module _ (cycle begins from : ℕ) (now next : List (Vec Waiting Global))
      (ready : IsReadyFor given offers n branches cycle begins from now next) where
    -- what the next cycle requires
    pub can_send : cycle < length given.run.tables → cycle < 2 ^ 32 → CanSend given branches links cycle begins now next
    can_send in_run small = record {
      legal = can.legal;
      are_links = can.are_links;
      are = can.are;
      few = can.few;
      queues = ready.queues;
      next_queues = ready.next_queues;
      in_run = in_run;
      beginning = ready.beginning;
      early = early_by cycle d.cycle_time begins small can.legal.accepted.cycle_most ready.beginning;
      feeds = ready.feeds in_run;
      fresh = ready.fresh;
      few_offers = omega (arith, can.stand.few, can.entering.count);
      room = ready.next_room;
    }
      where
        early_by : (c t b : ℕ) → c < 2 ^ 32 → t ≤ 10000000 → b ≡ c * t → b < 2 ^ 63
        early_by c t b short most is = omega (arith, mul-le-mul_left c most, short, is)

    -- and its offers have space
    pub offers_space : (now' next' : List (Vec Waiting Global)) (starts starts' : List Started) → cycle < length given.run.tables →
        SendsAll given branches cycle n now now' next next' starts starts' →
        HasSpace next' (λ l. each_below (offer_to offers begins (begins + cycle_time) branches l) (length offers))
    offers_space now' next' starts starts' in_run sends =
        let at = begin_of given cycle in
        let ending : begins + cycle_time ≡ at + d.cycle_time = ap₂ (λ (a b : ℕ). a + b) ready.beginning can.is_time in
        subst (λ (e : ℕ). HasSpace next' (λ l. each_below (offer_to offers begins e branches l) (length offers))) (sym ending)
        (subst (λ (b : ℕ). HasSpace next' (λ l. each_below (offer_to offers b (at + d.cycle_time) branches l) (length offers))) (sym ready.beginning) (λ l.
        let more = each_below (offer_to offers at (at + d.cycle_time) branches l) (length offers) in
        let holds = holds_offers laws.covered laws.uncovered laws.covers given can.legal branches cycle l offers can.entering
        (came_below given l cycle (length d.links)) (queue_at next' l)
        (subst (λ (k : ℕ). Holds given branches l cycle (came_below given l cycle k) (queue_at next' l)) same_count (sends.holds l)) in
        let count = sym (length-map (queue_at next' l ++ more) (received_of given at)) ∙ ap length holds.is in
        room_in (length (queue_at next' l) + length more) (cap_at next' l)
        (length (gathered_of given.run (λ k. batch d given.net.carried k cycle) l cycle)) (most_sent given l)
        (omega (arith, count, length-append (queue_at next' l) more))
        (queue_short laws.queue laws.room given can.legal l cycle in_run (omega (arith, can.stand.few, can.entering.count)))
        (subst (λ (c : ℕ). most_sent given l ≤ c) (sym (sends.next_capacity l)) (ready.next_room l))))

    -- so they can be put
    pub can_put : (now' next' : List (Vec Waiting Global)) (starts starts' : List Started) → cycle < length given.run.tables →
        SendsAll given branches cycle n now now' next next' starts starts' → CanPut offers from begins (begins + cycle_time) branches next'
    can_put now' next' starts starts' in_run sends = record {
      stand = can.stand;
      parted = ready.parted;
      short = omega (arith, can.is_time, can.legal.accepted.cycle_most);
      forth = omega arith;
      few = can.few;
      links = all_links given branches (length next') can.are (sends.next_queues ∙ ready.next_queues ∙ same_count);
      space = offers_space now' next' starts starts' in_run sends;
    }
