-- A bridge takes the oldest batch under way on a link.
use Rattle.std.proofs.Common.{◌≡◌, ℕ, suc, ◌+◌, ◌-◌, ◌<◌, ◌++◌, List, get_or, length, map, set, sym, ap, ◌∙◌, arith}
use Rattle.std.proofs.Common.{refl, inl, inr, subst, true, false, eqb-true}
use Rattle.std.specs.Prelude.{◌∷◌, [], filter, nat_lt, Option}
use Rattle.std.specs.List.{insert}
use Rattle.std.specs.Option.{option_map_or}
use Rattle.std.proofs.lemmas.Bool.{cases_eq, le-ltb, lt-ltb}
use Rattle.std.proofs.lemmas.List.{get_or-set_other, get_or-set_same, length-map, length-set, map-set}
use Rattle.std.proofs.lemmas.Option.{slice_get_cases}
use Rattle.cqf_lists.proofs.EachBelow.{first_below, length-singles, same_below}
use Rattle.cqf_lists.proofs.Filters.{filter-map, filter_alike}
use Rattle.cqf_model.specs.declared.topology.Link.{Link}
use Rattle.cqf_model.specs.declared.topology.Node.{Node}
use Rattle.cqf_model.specs.declared.topology.Node.TheVariants.{Bridge, Station as StationNode}
use Rattle.cqf_model.specs.Domain.{Domain, bridge_of, enters, node_is}
use Rattle.cqf_model.specs.History.{seals}
use Rattle.cqf_admission.specs.Tables.{CycleTable}
use Rattle.cqf_bridge.specs.Batch.{LinkBatch}
use Rattle.cqf_agenda.specs.Links.{links_into}
use Rattle.cqf_bridge.specs.Follows.{batch_of}
use Rattle.cqf_agenda.proofs.LinkNumbers.{link_ending, link_into, link_listed, links_ascend}
use Rattle.cqf_world.specs.declared.parts.Line.{Line}
use Rattle.cqf_world.specs.declared.parts.WorldBridge.{WorldBridge}
use Rattle.cqf_world.specs.Events.{MayTake}
use Rattle.cqf_world.specs.Parts.{IsLine, IsRunningWorld, IsDriven, IsWorld, Moves, given_of, links_taken, sent_of_driven, taken_of, under_way}
use Rattle.cqf_world.specs.World.{WorldState, cycle_of_bridge, sealed_run, sent_by_driven, taken_from}
use Rattle.cqf_world.proofs.Keeping.{given_counts}
use Rattle.cqf_world.proofs.Inboxes.{before, end_inside, insert_map, kept_more, same_parts}
use Rattle.cqf_world.proofs.Standing.{count_at, count_kept, each_with, sent_at, driven_at}

-- a node is only one bridge
one_node : (n : Node) (a b : ℕ) → node_is n a ≡ true → node_is n b ≡ true → a ≡ b
one_node (Bridge k) a b p q = sym (eqb-true k a p) ∙ eqb-true k b q
one_node (StationNode k) a b p q = absurd cc

-- a link ends in only one bridge
pub one_end : (d : Domain) (l a b : ℕ) → enters d l a ≡ true → enters d l b ≡ true → a ≡ b
one_end d l a b p q = elim (slice_get_cases d.links l).1 [
  | inl w ↦ one_node w.0.to a b
      (sym (ap (λ (o : Option Link). option_map_or (λ (link : Link). node_is link.to a) o false) w.2) ∙ p)
      (sym (ap (λ (o : Option Link). option_map_or (λ (link : Link). node_is link.to b) o false) w.2) ∙ q)
  | inr w ↦
      let none : enters d l a ≡ false = ap (λ (o : Option Link). option_map_or (λ (link : Link). node_is link.to a) o false) w.1 in
      absurd (cc (none, p))
]

module _ (v : WorldState) (tables : List CycleTable) (driven : List WorldBridge) (lines : List Line) (is : IsRunningWorld v tables driven lines) (link bridge : ℕ)
    (s : WorldBridge) (x : Line) (ends : enters v.domain link bridge ≡ true) (inside : bridge < length driven) (here : s ≡ get_or driven bridge s)
    (there : x ≡ get_or lines link x) where
  in_lines : link < length lines
  in_lines = omega (arith, link_ending v.domain bridge link ends, is.all_lines)

  st : IsDriven (sealed_run v) (seals v.entries) is.net bridge (cycle_of_bridge v bridge) (links_taken v bridge) s
  st = driven_at v tables driven lines is bridge s inside here

  li : IsLine v.domain is.net link (cycle_of_bridge v bridge) (sent_by_driven v bridge) (sent_by_driven v (bridge_of v.domain link)) x
  li = subst (IsLine v.domain is.net link (cycle_of_bridge v bridge) (sent_by_driven v bridge) (sent_by_driven v (bridge_of v.domain link)))
      (sym there) (is.line link bridge x ends)

  sent_is : sent_by_driven v bridge ≡ s.sent
  sent_is = sent_at v tables driven lines is bridge s inside here

  taken_is : taken_from v link ≡ x.taken
  taken_is = count_at taken_of v.taken lines link x is.taken_are in_lines ∙ ap taken_of (sym there)

  -- the number of batches under way
  waiting_is : length x.waiting.items ≡ sent_by_driven v (bridge_of v.domain link) - x.taken
  waiting_is = ap length li.waiting
      ∙ length-singles (λ (k : ℕ). batch_of v.domain is.net.carried (x.taken + k) link) (sent_by_driven v (bridge_of v.domain link) - x.taken)

  -- a batch may be taken if the counts say so
  pub may_take : (s.sent ≡ s.posted → ⊥) → x.taken ≡ s.posted → 0 < length x.waiting.items → MayTake v link
  may_take sent not_taken some = record {
    bridge = bridge;
    ends = ends;
    has_sent = omega (arith, sent_is, sent, st.not_after, st.with_table, st.not_ahead, st.in_cycle);
    not_taken = omega (arith, taken_is, not_taken, st.in_cycle);
    under_way = omega (arith, taken_is, some, waiting_is);
  }

  -- and the counts say so if it may be
  pub counts_taken : MayTake v link → (s.sent ≡ s.posted + 1) × (x.taken ≡ s.posted) × (0 < length x.waiting.items)
  counts_taken may =
      let e = one_end v.domain link may.bridge bridge may.ends ends in
      let has_sent = subst (λ (b : ℕ). sent_by_driven v b ≡ cycle_of_bridge v b + 1) e may.has_sent in
      let not_taken = subst (λ (b : ℕ). taken_from v link ≡ cycle_of_bridge v b) e may.not_taken in
      (omega (arith, sent_is, has_sent, st.in_cycle), omega (arith, taken_is, not_taken, st.in_cycle), omega (arith, may.under_way, taken_is, waiting_is))

  module _ (may : MayTake v link) (y : Line) (z : WorldBridge) (batch : LinkBatch) (popped : x.waiting.items ≡ batch ∷ y.waiting.items)
      (counted : y.taken ≡ x.taken + 1)
      (same : z ≡ record s { taken = z.taken }) (put : z.taken.items
      ≡ insert s.taken.items (length (filter (λ (b : LinkBatch). nat_lt b.link batch.link) s.taken.items)) batch) where
    -- the batch is the network's, of the bridge's cycle
    one_fewer : (n : ℕ) → under_way v.domain is.net link x.taken (suc n) ≡ batch_of v.domain is.net.carried x.taken link
        ∷ under_way v.domain is.net link (x.taken + 1) n
    one_fewer n =
        let net = is.net in
        let f = λ (k : ℕ). batch_of v.domain net.carried (x.taken + k) link ∷ [] in
        first_below f n
        ∙ (λ i. f 0 ++ same_below (λ k. f (k + 1)) (λ k. batch_of v.domain net.carried ((x.taken + 1) + k) link ∷ []) n
        (λ k h. (let e : x.taken + (k + 1) ≡ (x.taken + 1) + k = omega arith in ap (λ (c : ℕ). batch_of v.domain net.carried c link ∷ []) e)) i)
        ∙ (let e : x.taken + 0 ≡ x.taken = omega arith in
        ap (λ (c : ℕ). batch_of v.domain net.carried c link ∷ under_way v.domain net link (x.taken + 1) n) e)

    c : (s.sent ≡ s.posted + 1) × (x.taken ≡ s.posted) × (0 < length x.waiting.items)
    c = counts_taken may

    -- the number of batches that stay under way
    left : ℕ
    left = sent_by_driven v (bridge_of v.domain link) - x.taken - 1

    parts : (batch ≡ batch_of v.domain is.net.carried x.taken link) × (y.waiting.items ≡ under_way v.domain is.net link (x.taken + 1) left)
    unfolding left
    parts =
        let some : sent_by_driven v (bridge_of v.domain link) - x.taken ≡ suc (sent_by_driven v (bridge_of v.domain link) - x.taken - 1) =
        omega (arith, c.2, waiting_is) in
        same_parts batch (batch_of v.domain is.net.carried x.taken link) y.waiting.items
        (under_way v.domain is.net link (x.taken + 1) (sent_by_driven v (bridge_of v.domain link) - x.taken - 1))
        (sym popped ∙ li.waiting ∙ ap (under_way v.domain is.net link x.taken) some ∙ one_fewer (sent_by_driven v (bridge_of v.domain link) - x.taken - 1))

    abbrev after : WorldState
    after = record v { taken = map taken_of (set lines link y) }

    -- one more batch is taken from the link, and none from other links
    taken_here : taken_from after link ≡ x.taken + 1
    taken_here =
        ap (λ (ns : List ℕ). get_or ns link 0) (map-set taken_of lines link y)
        ∙ get_or-set_same (map taken_of lines) link (taken_of y) 0 (omega (arith, in_lines, length-map lines taken_of))
        ∙ counted

    taken_there : (m : ℕ) → (m ≡ link → ⊥) → taken_from after m ≡ taken_from v m
    taken_there m differ =
        ap (λ (ns : List ℕ). get_or ns m 0) (map-set taken_of lines link y)
        ∙ get_or-set_other (map taken_of lines) link m (taken_of y) 0 differ
        ∙ ap (λ (ns : List ℕ). get_or ns m 0) (sym is.taken_are)

    -- the bridge has taken the batch of one more link
    one_more : links_taken after bridge ≡ insert (links_taken v bridge) (before link (links_taken v bridge)) link
    one_more =
        kept_more (λ l. nat_lt (cycle_of_bridge v bridge) (taken_from v l)) (λ l. nat_lt (cycle_of_bridge v bridge) (taken_from after l)) link
        (links_into v.domain bridge) (links_ascend v.domain bridge) (link_listed v.domain bridge link ends)
        (le-ltb (cycle_of_bridge v bridge) (taken_from v link) (omega (arith, taken_is, c.1, st.in_cycle)))
        (lt-ltb (cycle_of_bridge v bridge) (taken_from after link) (omega (arith, taken_here, c.1, st.in_cycle)))
        (λ m differ. ap (nat_lt (cycle_of_bridge v bridge)) (taken_there m differ))

    -- the other bridges have taken as many as before
    others_same : (other : ℕ) → (other ≡ bridge → ⊥) → links_taken after other ≡ links_taken v other
    others_same other differ =
        filter_alike (λ l. nat_lt (cycle_of_bridge v other) (taken_from after l)) (λ l. nat_lt (cycle_of_bridge v other) (taken_from v l))
        (links_into v.domain other)
        (λ m held. (let into = (link_into v.domain other m held).1 in
        ap (nat_lt (cycle_of_bridge v other))
        (taken_there m (λ e. differ (one_end v.domain link other bridge (ap (λ (k : ℕ). enters v.domain k other) (sym e) ∙ into) ends)))))

    -- its batches are the network's
    taken_are : z.taken.items ≡ map (batch_of v.domain is.net.carried s.posted) (links_taken after bridge)
    taken_are =
        let f = batch_of v.domain is.net.carried s.posted in
        let kept = links_taken v bridge in
        let is_batch : batch ≡ f link = parts.0 ∙ ap (λ (k : ℕ). batch_of v.domain is.net.carried k link) c.1 in
        let index : length (filter (λ (b : LinkBatch). nat_lt b.link batch.link) s.taken.items) ≡ before link kept =
        (λ i. length (filter (λ (b : LinkBatch). nat_lt b.link (is_batch i).link) (st.taken i)))
        ∙ ap length (filter-map f (λ (b : LinkBatch). nat_lt b.link link) kept)
        ∙ length-map (filter (λ m. nat_lt m link) kept) f in
        put
        ∙ (λ i. insert (st.taken i) (index i) (is_batch i))
        ∙ sym (insert_map f kept (before link kept) link)
        ∙ ap (map f) (sym one_more)

    abbrev driven_after : List WorldBridge
    driven_after = set driven bridge z

    -- the bridge that took the batch
    driven_taken : IsDriven (sealed_run v) (seals v.entries) is.net bridge (cycle_of_bridge v bridge) (links_taken after bridge) z
    driven_taken =
        subst (IsDriven (sealed_run v) (seals v.entries) is.net bridge (cycle_of_bridge v bridge) (links_taken after bridge)) (sym same)
        (record {
          in_cycle = st.in_cycle;
          not_after = st.not_after;
          with_table = st.with_table;
          not_ahead = st.not_ahead;
          closed = st.closed;
          number = st.number;
          received = st.received;
          follows = st.follows;
          has_sent = st.has_sent;
          starts = st.starts;
          taken = taken_are;
          incoming = st.incoming;
          agenda = st.agenda;
        })

    -- and the link
    line_taken : IsLine v.domain is.net link (cycle_of_bridge v bridge) (sent_by_driven v bridge) (sent_by_driven v (bridge_of v.domain link)) y
    unfolding left
    line_taken = record {
      at_least = omega (arith, counted, li.at_least);
      at_most = omega (arith, counted, c.0, c.1, sent_is);
      not_more = omega (arith, counted, c.2, waiting_is);
      waiting = parts.1
          ∙ (λ i. under_way v.domain is.net link (sym counted i)
          ((let e : sent_by_driven v (bridge_of v.domain link) - x.taken - 1 ≡ sent_by_driven v (bridge_of v.domain link) - y.taken =
          omega (arith, counted) in e) i));
    }

    -- and the world goes on
    pub taken_goes_on : IsRunningWorld after tables driven_after (set lines link y)
    taken_goes_on = record {
      net = is.net;
      compiled = is.compiled;
      within_run = is.within_run;
      all_tables = is.all_tables;
      table = is.table;
      all_driven = length-set driven bridge z ∙ is.all_driven;
      given_are = is.given_are ∙ sym (count_kept given_of driven bridge s z here (ap given_of same));
      sent_are = is.sent_are ∙ sym (count_kept sent_of_driven driven bridge s z here (ap sent_of_driven same));
      bridge_driven = each_with (λ k. IsDriven (sealed_run v) (seals v.entries) is.net k (cycle_of_bridge v k) (links_taken after k)) driven bridge z inside
          driven_taken (λ other d in_driven differ.
          subst (λ (ls : List ℕ). IsDriven (sealed_run v) (seals v.entries) is.net other (cycle_of_bridge v other) ls (get_or driven other d))
          (sym (others_same other differ)) (is.bridge_driven other d in_driven));
      all_lines = length-set lines link y ∙ is.all_lines;
      taken_are = refl;
      line = λ m to d into. elim (cases_eq m link) [
        | inl e ↦
            let to_is : to ≡ bridge = one_end v.domain link to bridge (ap (λ (k : ℕ). enters v.domain k to) (sym e) ∙ into) ends in
            subst (λ (k : ℕ). IsLine v.domain is.net k (cycle_of_bridge v to) (sent_by_driven v to) (sent_by_driven v (bridge_of v.domain k))
            (get_or (set lines link y) k d)) (sym e)
            (subst (λ (b : ℕ). IsLine v.domain is.net link (cycle_of_bridge v b) (sent_by_driven v b) (sent_by_driven v (bridge_of v.domain link))
            (get_or (set lines link y) link d)) (sym to_is)
            (subst (IsLine v.domain is.net link (cycle_of_bridge v bridge) (sent_by_driven v bridge) (sent_by_driven v (bridge_of v.domain link)))
            (sym (get_or-set_same lines link y d in_lines))
            line_taken))
        | inr differ ↦
            subst (IsLine v.domain is.net m (cycle_of_bridge v to) (sent_by_driven v to) (sent_by_driven v (bridge_of v.domain m)))
            (sym (get_or-set_other lines link m y d differ))
            (is.line m to d into)
      ];
    }

module _ (v : WorldState) (tables : List CycleTable) (driven : List WorldBridge) (lines : List Line) (old : WorldState) (old_same : v ≡ old)
    (world : IsWorld v tables driven lines) (old_on : old.stopped ≡ false) (link bridge index lplace : ℕ) (s : WorldBridge) (x : Line)
    (d : Domain) (of_domain : d ≡ v.domain) (ends_d : enters d link bridge ≡ true) (at : index ≡ bridge) (lat : lplace ≡ link)
    (at_index : s ≡ get_or driven index s)
    (at_lplace : x ≡ get_or lines lplace x) where
  on : v.stopped ≡ false
  on = subst (λ (w : WorldState). w.stopped ≡ false) (sym old_same) old_on

  run : IsRunningWorld v tables driven lines
  run = world.running on

  ends_v : enters v.domain link bridge ≡ true
  ends_v = ap (λ (k : Domain). enters k link bridge) (sym of_domain) ∙ ends_d

  in_driven : bridge < length driven
  in_driven = omega (arith, end_inside v.domain link bridge world.given.accepted ends_v, run.all_driven)

  here_v : s ≡ get_or driven bridge s
  here_v = at_index ∙ ap (λ (k : ℕ). get_or driven k s) at

  there_v : x ≡ get_or lines link x
  there_v = at_lplace ∙ ap (λ (k : ℕ). get_or lines k x) lat

  -- a batch may be taken if the counts say so
  pub may_so : (s.sent ≡ s.posted → ⊥) → x.taken ≡ s.posted → 0 < length x.waiting.items → MayTake old link
  may_so sent not_taken some =
      subst (λ (w : WorldState). MayTake w link) old_same (may_take v tables driven lines run link bridge s x ends_v in_driven here_v there_v
      sent not_taken some)

  -- and the counts say so if it may be
  pub counts_so : MayTake old link → (s.sent ≡ s.posted + 1) × (x.taken ≡ s.posted) × (0 < length x.waiting.items)
  counts_so may =
      counts_taken v tables driven lines run link bridge s x ends_v in_driven here_v there_v (subst (λ (w : WorldState). MayTake w link) (sym old_same) may)

  pub few_so : MayTake old link → x.taken < 100000
  few_so may =
      let c = counts_so may in
      let st = driven_at v tables driven lines run bridge s in_driven here_v in
      omega (arith, c.0, c.1, st.with_table, st.closed, run.within_run, world.given.few_cycles)

  module _ (may : MayTake old link) (y : Line) (z : WorldBridge) (moves : Moves x y s z) where
    may_v : MayTake v link
    may_v = subst (λ (w : WorldState). MayTake w link) (sym old_same) may

    abbrev world_taken : WorldState
    world_taken = record v {
      given = map given_of (set driven bridge z);
      sent = map sent_of_driven (set driven bridge z);
      taken = map taken_of (set lines link y);
      stopped = false;
    }

    runs_on : IsRunningWorld (record v { taken = map taken_of (set lines link y) }) tables (set driven bridge z) (set lines link y)
    runs_on =
        taken_goes_on v tables driven lines run link bridge s x ends_v in_driven here_v there_v may_v y z moves.batch moves.popped
        moves.counted moves.same moves.put

    is_after : record v { taken = map taken_of (set lines link y) } ≡ world_taken
    is_after = λ i. record v { given = runs_on.given_are i; sent = runs_on.sent_are i; taken = map taken_of (set lines link y); stopped = on i }

    -- so it is still a world
    pub taken_world : IsWorld world_taken tables (set driven bridge z) (set lines link y)
    taken_world = record {
      given = given_counts v _ _ _ false world.given;
      pages = world.pages;
      sealed = world.sealed;
      running = λ still. subst (λ (w : WorldState). IsRunningWorld w tables (set driven bridge z) (set lines link y)) is_after runs_on;
    }

    -- and it is the same except for what was taken
    pub taken_alone : world_taken ≡ record old { taken = set old.taken link (taken_from old link + 1) }
    taken_alone =
        let in_lines : link < length lines = omega (arith, link_ending v.domain bridge link ends_v, run.all_lines) in
        let is_taken : taken_from v link ≡ x.taken = count_at taken_of v.taken lines link x run.taken_are in_lines ∙ ap taken_of (sym there_v) in
        let now_taken : map taken_of (set lines link y) ≡ set v.taken link (taken_from v link + 1) =
        map-set taken_of lines link y
        ∙ (λ i. set (sym run.taken_are i) link ((moves.counted ∙ ap (λ (n : ℕ). n + 1) (sym is_taken)) i)) in
        subst (λ (w : WorldState). world_taken ≡ record w { taken = set w.taken link (taken_from w link + 1) }) old_same
        (sym is_after ∙ (λ i. record v { taken = now_taken i }))

  -- if the batch can't be moved, no count changes
  pub refused_alone : (y : Line) (z : WorldBridge) → y.taken ≡ x.taken → z ≡ record s { taken = z.taken } →
      record v {
        given = map given_of (set driven bridge z);
        sent = map sent_of_driven (set driven bridge z);
        taken =
            map taken_of (set lines link y);
        stopped = true;
      }
      ≡ record old { stopped = true }
  refused_alone y z counted same =
      subst (λ (w : WorldState). record v {
        given = map given_of (set driven bridge z);
        sent = map sent_of_driven (set driven bridge z);
        taken = map taken_of (set lines link y);
        stopped = true;
      } ≡ record w { stopped = true }) old_same
      (λ i. record v {
        given = (count_kept given_of driven bridge s z here_v (ap given_of same) ∙ sym run.given_are) i;
        sent = (count_kept sent_of_driven driven bridge s z here_v (ap sent_of_driven same) ∙ sym run.sent_are) i;
        taken = (count_kept taken_of lines link x y there_v counted ∙ sym run.taken_are) i;
        stopped = true;
      })
