-- A bridge receives its cycle, and posts its page.
use Rattle.std.proofs.Common.{◌≡◌, ℕ, ◌+◌, ◌<◌, ◌≤◌, ◌++◌, Bool, List, get_or, length, map, set, sym, ap, ◌∙◌, arith}
use Rattle.std.proofs.Common.{refl, inl, inr, subst, true, false, Contains, eq-eqb, eqb-true}
use Rattle.std.specs.Prelude.{◌∷◌, [], ◌==◌, Some, filter, nat_lt, slice_get}
use Rattle.std.proofs.lemmas.Bool.{cases_Bool, cases_eq, cases_lt, cond-false, cond-true, false≢true, le-ltb, lt-ltb, ltb-true}
use Rattle.std.proofs.lemmas.List.{get_or-set_other, get_or-set_same, length-map, length-set, length_push}
use Rattle.std.proofs.lemmas.Option.{same_Some, slice_get_cases, slice_get_within}
use Rattle.cqf_lists.proofs.EachBelow.{filter_none, get_or-singles}
use Rattle.cqf_lists.proofs.Members.{contains_cases, contains_here, contains_later, contains_none}
use Rattle.cqf_lists.proofs.Indices.{slice_get_after, slice_get_front}
use Rattle.cqf_model.specs.declared.frames.Dropped.{Dropped}
use Rattle.cqf_model.specs.declared.frames.Offered.{Offered}
use Rattle.cqf_model.specs.declared.frames.Page.{Page}
use Rattle.cqf_model.specs.Book.{Contents, IsBook, background_in, page_of}
use Rattle.cqf_model.specs.Domain.{bridge_of, enters}
use Rattle.cqf_model.specs.History.{seals, table_at}
use Rattle.cqf_model.specs.Network.{compiled_lists}
use Rattle.cqf_model.specs.Run.{Run}
use Rattle.cqf_model.specs.Table.{table_of}
use Rattle.cqf_laws_history.specs.HistoryLaws.{ThereAreSoManyTables}
use Rattle.cqf_laws_cycle.specs.Gathered.{offered_for}
use Rattle.cqf_laws_cycle.specs.PageLaws.{on_links_of}
use Rattle.cqf_admission.specs.Tables.{CycleTable}
use Rattle.cqf_book.specs.Pages.{IsNextPage, Posted, page_at, page_count, pages_of, with_page}
use Rattle.cqf_book.proofs.Posting.{next_posted}
use Rattle.cqf_bridge.specs.declared.faults.BridgeFault.{BridgeFault}
use Rattle.cqf_bridge.specs.declared.faults.BridgeFault.TheVariants.{Memory}
use Rattle.cqf_bridge.specs.Batch.{LinkBatch}
use Rattle.cqf_bridge.specs.BridgeState.{BridgeState}
use Rattle.cqf_agenda.specs.Links.{links_into}
use Rattle.cqf_bridge.specs.Receiving.{Handed, IsReceiveFault, IsRunOfBridge, ReceivesCycle}
use Rattle.cqf_bridge.specs.Cycles.{GivesTheDrops, OffersAreOfTheBridge, PageFollows, ReceivingFollows, drops_of_cycle}
use Rattle.cqf_bridge.specs.Follows.{HasSentOfTheNetwork, batch_of, batches_into, handed_in}
use Rattle.cqf_bridge.specs.NoFaults.{ReceivesButForMemory, RunOfHistoryLosesNothing}
use Rattle.cqf_agenda.proofs.LinkNumbers.{link_ending, link_into, link_listed}
use Rattle.cqf_world.specs.declared.parts.Line.{Line}
use Rattle.cqf_world.specs.declared.parts.WorldBridge.{WorldBridge}
use Rattle.cqf_agenda.specs.Agenda.{offers_listed_at}
use Rattle.cqf_world.specs.Events.{MayPost, Posts}
use Rattle.cqf_world.specs.Parts.{IsLine, IsNextToPost, IsPageOf, IsRunAt, IsRunningWorld, IsDriven, IsWorld}
use Rattle.cqf_world.specs.Parts.{MayReceiveItsCycle, PostsOut, ReceivesItsCycle, given_of, handed_to, links_taken}
use Rattle.cqf_world.specs.Parts.{sent_of_driven, taken_of}
use Rattle.cqf_world.specs.World.{ArePagesOfTheBook, WorldState, contents_posted, cycle_of_bridge, sealed_run, sent_by_driven, taken_from}
use Rattle.cqf_world.proofs.Keeping.{given_as}
use Rattle.cqf_world.proofs.Standing.{count_at, count_kept, each_with, sent_at, driven_at}

-- a filter keeps no more than there is
kept_le : (p : ℕ → Bool) (ns : List ℕ) → length (filter p ns) ≤ length ns
kept_le p [] = omega arith
kept_le p (m ∷ ns) = elim (cases_Bool (p m)) [
  | inl t ↦ omega (arith, ap length (cond-true (p m) (m ∷ filter p ns) (filter p ns) t), kept_le p ns)
  | inr f ↦ omega (arith, ap length (cond-false (p m) (m ∷ filter p ns) (filter p ns) f), kept_le p ns)
]

-- if a filter keeps everything, each element passes
all_pass : (p : ℕ → Bool) (ns : List ℕ) → length (filter p ns) ≡ length ns → (m : ℕ) → Contains ns m → p m ≡ true
all_pass p [] e m held = absurd (contains_none m held)
all_pass p (k ∷ ns) e m held = elim (cases_Bool (p k)) [
  | inl t ↦ elim (contains_cases k ns m held) [
    | inl is ↦ ap p (sym is) ∙ t
    | inr later ↦ all_pass p ns (omega (arith, e, ap length (cond-true (p k) (k ∷ filter p ns) (filter p ns) t))) m later
  ]
  | inr f ↦ absurd (omega (arith, e, ap length (cond-false (p k) (k ∷ filter p ns) (filter p ns) f), kept_le p ns))
]

-- and if each passes, all are kept
all_kept : (p : ℕ → Bool) (ns : List ℕ) → ((m : ℕ) → Contains ns m → p m ≡ true) → filter p ns ≡ ns
all_kept p [] each = refl
all_kept p (k ∷ ns) each =
    cond-true (p k) (k ∷ filter p ns) (filter p ns) (each k (contains_here k ns))
    ∙ ap (λ (ms : List ℕ). k ∷ ms) (all_kept p ns (λ m h. each m (contains_later k ns m h)))

-- a bridge that may receive its cycle, with the batches it has taken and its offers
module _ (s : WorldBridge) (t : CycleTable) (batches : List LinkBatch) (offers : List Offered) (after : BridgeState) (may : MayReceiveItsCycle s t)
    (are_batches : batches ≡ s.taken.items) (are_offers : offers ≡ offers_listed_at s.agenda s.posted) where
  -- what holds of each run with these offers holds of each run that has the cycle
  handed_so : (run : Run) → IsRunAt s t run → IsRunOfBridge s.bridge.domain s.bridge.number s.posted t.rows offers run
  handed_so run at = subst (λ (xs : List Offered). IsRunOfBridge s.bridge.domain s.bridge.number s.posted t.rows xs run) (sym are_offers) at

  -- there is such a run
  pub run_so : (run : Run) × IsRunOfBridge s.bridge.domain s.bridge.number s.posted t.rows offers run
  run_so = (may.run, handed_so may.run may.of_run)

  -- it fails only for lack of memory
  pub memory_so : (fault : BridgeFault) → ((run : Run) → IsRunOfBridge s.bridge.domain s.bridge.number s.posted t.rows offers run →
      IsReceiveFault run s.bridge after s.posted (record { table_cycle = t.cycle; rows = t.rows; batches = batches }) fault) → fault ≡ Memory
  memory_so fault h = may.memory_alone after fault (λ run at.
      subst (λ (xs : List LinkBatch). IsReceiveFault run s.bridge after s.posted (record { table_cycle = t.cycle; rows = t.rows; batches = xs }) fault)
      are_batches
      (h run (handed_so run at)))

  -- or receives the cycle
  pub received_so : (drops : List Dropped) → ((run : Run) → IsRunOfBridge s.bridge.domain s.bridge.number s.posted t.rows offers run →
      ReceivesCycle run s.bridge after s.posted batches drops) → ReceivesItsCycle s (record s { bridge = after }) t drops
  received_so drops h =
      let receives : (run : Run) → IsRunAt s t run → ReceivesCycle run s.bridge after s.posted s.taken.items drops =
      λ run at. subst (λ (xs : List LinkBatch). ReceivesCycle run s.bridge after s.posted xs drops) are_batches (h run (handed_so run at)) in
      record { receives = receives; number = ap (λ (b : BridgeState). b.number) (receives may.run may.of_run).bridge; same = refl }

-- the page of a bridge that has received its cycle is the next one
pub next_page : (s between : WorldBridge) (t : CycleTable) (dropped drops : List Dropped) (page : Page) (pages : Posted) → IsNextToPost pages s →
    ReceivesItsCycle s between t dropped → IsPageOf between page drops → IsNextPage pages page
next_page s between t dropped drops page pages next receives is_page =
    let bridge : page.bridge ≡ s.bridge.number = is_page.of_bridge ∙ receives.number in
    let cycle : page.cycle.0 ≡ s.posted = is_page.of_cycle ∙ ap (λ (k : WorldBridge). k.posted) receives.same in
    (omega (arith, next.inside, bridge), omega (arith, next.of_cycles, cycle), cycle ∙ next.next ∙ ap (page_count pages) (sym bridge))

module _ (v : WorldState) (tables : List CycleTable) (driven : List WorldBridge) (lines : List Line) (is : IsRunningWorld v tables driven lines) (bridge : ℕ)
    (s : WorldBridge) (inside : bridge < length driven) (here : s ≡ get_or driven bridge s) where
  st : IsDriven (sealed_run v) (seals v.entries) is.net bridge (cycle_of_bridge v bridge) (links_taken v bridge) s
  st = driven_at v tables driven lines is bridge s inside here

  sent_is : sent_by_driven v bridge ≡ s.sent
  sent_is = sent_at v tables driven lines is bridge s inside here

  taken_length : length s.taken.items ≡ length (links_taken v bridge)
  taken_length = ap length st.taken ∙ length-map (links_taken v bridge) (batch_of v.domain is.net.carried s.posted)

  -- at most as many batches were taken from a link into the bridge as the bridge has sent cycles
  at_most : (link : ℕ) → enters v.domain link bridge ≡ true → taken_from v link ≤ s.sent
  at_most link ends =
      let in_lines : link < length lines = omega (arith, link_ending v.domain bridge link ends, is.all_lines) in
      elim (slice_get_cases lines link).1 [
        | inl x ↦ omega (arith, count_at taken_of v.taken lines link x.0 is.taken_are in_lines, (is.line link bridge x.0 ends).at_most, sent_is)
        | inr x ↦ absurd (omega (arith, x.0, in_lines))
      ]

  -- it has taken a batch of each link, if it may post
  all_taken : MayPost v bridge → links_taken v bridge ≡ links_into v.domain bridge
  all_taken may = all_kept (λ l. nat_lt (cycle_of_bridge v bridge) (taken_from v l)) (links_into v.domain bridge)
      (λ m held. lt-ltb (cycle_of_bridge v bridge) (taken_from v m) (omega (arith, may.has_taken m (link_into v.domain bridge m held).1)))

  -- a bridge may post if its counts say so
  pub may_post : (s.sent ≡ s.posted → ⊥) → length s.taken.items ≡ s.incoming → MayPost v bridge
  may_post sent all = record {
    inside = omega (arith, inside, is.all_driven);
    has_sent = omega (arith, sent_is, sent, st.not_after, st.with_table, st.not_ahead, st.in_cycle);
    has_taken = λ link ends.
        (let listed = link_listed v.domain bridge link ends in
        let passes = all_pass (λ l. nat_lt (cycle_of_bridge v bridge) (taken_from v l)) (links_into v.domain bridge)
        (sym taken_length ∙ all ∙ st.incoming) link listed in
        omega (arith, ltb-true (cycle_of_bridge v bridge) (taken_from v link) passes, at_most link ends, st.with_table, st.not_ahead, st.in_cycle));
  }

  -- and its counts say so if it may
  pub counts_post : MayPost v bridge → (s.sent ≡ s.posted + 1) × (length s.taken.items ≡ s.incoming)
  counts_post may =
      (omega (arith, sent_is, may.has_sent, st.in_cycle), taken_length ∙ ap length (all_taken may) ∙ sym st.incoming)

  module _ (accepted : IsWorld v tables driven lines) (may : MayPost v bridge) where
    sent_it : s.sent ≡ s.posted + 1
    sent_it = (counts_post may).0

    half : HasSentOfTheNetwork (sealed_run v) is.net s.bridge
    half = st.has_sent sent_it

    pub within : s.posted < seals v.entries
    within = omega (arith, sent_it, st.with_table, st.closed)

    -- the table of the cycle is the run's
    rows_are : (x : CycleTable) → (get_or tables s.posted x).rows ≡ table_of (sealed_run v).tables s.posted
    rows_are x =
        (is.table s.posted x (omega (arith, within, is.all_tables))).1
        ∙ sym (get_or-singles (table_at v.domain v.entries) (seals v.entries) s.posted [] within)

    -- the offers are the run's
    offers_are : offers_listed_at s.agenda s.posted ≡ offered_for v.domain v.offers s.bridge.number s.posted
    offers_are = st.agenda.offers_are s.posted ∙ ap (λ (b : ℕ). offered_for v.domain v.offers b s.posted) (sym st.number)

    -- the cycle is a part of the run
    of_run : OffersAreOfTheBridge → (t : CycleTable) → t ≡ get_or tables s.posted t → IsRunAt s t (sealed_run v)
    of_run offers t at_cycle =
        let r = offers s.bridge.domain (sealed_run v) s.bridge.number s.posted half.of_run.domain accepted.given.offers in
        record { domain = r.domain; table = sym (ap (λ (x : CycleTable). x.rows) at_cycle ∙ rows_are t); good = r.good; here = r.here ∙ sym offers_are }

    -- the batches are the network's
    batches_are : s.taken.items ≡ batches_into v.domain is.net.carried s.bridge.number s.posted
    batches_are =
        st.taken
        ∙ ap (map (batch_of v.domain is.net.carried s.posted)) (all_taken may)
        ∙ ap (λ (b : ℕ). batches_into v.domain is.net.carried b s.posted) (sym st.number)

    -- the cycle is received, unless memory is lacking
    pub may_receive : OffersAreOfTheBridge → ReceivesButForMemory → RunOfHistoryLosesNothing → (t : CycleTable) → t ≡ get_or tables s.posted t →
        MayReceiveItsCycle s t
    may_receive offers but_for_memory loses t at_cycle =
        let cycle_is = (is.table s.posted t (omega (arith, within, is.all_tables))).0 in
        let handed : handed_to s t ≡ handed_in (sealed_run v) is.net s.bridge.number s.posted =
        λ i. record {
          table_cycle = (ap (λ (x : CycleTable). x.cycle) at_cycle ∙ cycle_is) i;
          rows = (ap (λ (x : CycleTable). x.rows) at_cycle ∙ rows_are t) i;
          batches = batches_are i;
        } in
        record {
          run = sealed_run v;
          of_run = of_run offers t at_cycle;
          memory_alone = λ after fault h.
              but_for_memory (sealed_run v) (seals v.entries) s.posted is.net s.bridge after fault is.compiled
              (loses v.domain v.entries v.offers v.background (seals v.entries) is.net accepted.given.legal (omega arith) accepted.given.offers
              accepted.given.background
              is.compiled) half.of_run.domain (record { not_spent = half.of_run.not_spent; next = (sym st.received, half.turn, refl) }) within
              (subst (λ (k : Handed). IsReceiveFault (sealed_run v) s.bridge after s.posted k fault) handed (h (sealed_run v) (of_run offers t at_cycle)));
        }

    module _ (t : CycleTable) (at_cycle : t ≡ get_or tables s.posted t) (z : WorldBridge) (pages_after : Posted)
        (out : PostsOut s z t v.pages pages_after)
        (offers : OffersAreOfTheBridge) (receiving : ReceivingFollows) where
      abbrev page : Page
      page = out.page

      abbrev u : BridgeState
      u = out.between.bridge

      z_is : z ≡ record s { bridge = u; posted = s.posted + 1; starts = z.starts; taken = z.taken }
      z_is = out.same ∙ ap (λ (k : WorldBridge). record k { posted = k.posted + 1; starts = z.starts; taken = z.taken }) out.receives.same

      g : GivesTheDrops (sealed_run v) s.posted is.net s.bridge u out.drops
      g = receiving (sealed_run v) (seals v.entries) s.posted is.net s.bridge u out.drops (record {
        compiled = is.compiled;
        has_sent = half;
        next = sym st.received;
        receives = subst (λ (xs : List LinkBatch). ReceivesCycle (sealed_run v) s.bridge u s.posted xs out.drops) batches_are
            (out.receives.receives (sealed_run v) (of_run offers t at_cycle));
      })

      of_bridge : page.bridge ≡ bridge
      of_bridge = out.is_page.of_bridge ∙ out.receives.number ∙ st.number

      of_cycle : page.cycle.0 ≡ cycle_of_bridge v bridge
      of_cycle = out.is_page.of_cycle ∙ ap (λ (k : WorldBridge). k.posted) out.receives.same ∙ st.in_cycle

      -- the page is the book's
      page_is : PageFollows → (book : Contents) → IsBook (sealed_run v) (compiled_lists v.domain) (seals v.entries) book →
          contents_posted page ≡ page_of v.domain bridge s.posted book
      page_is page_follows book is_book =
          let starts : page.starts.items ≡ s.starts.items = out.is_page.starts ∙ ap (λ (k : WorldBridge). k.starts.items) out.receives.same in
          let others : page.background.items ≡ on_links_of v.domain bridge (background_in v.domain is.net.backed s.posted) =
          out.is_page.background ∙ g.background ∙ half.background
          ∙ (λ i. on_links_of v.domain (st.number i) (background_in v.domain is.net.backed (st.received i))) in
          let dropped = out.is_page.dropped ∙ g.are_drops ∙ ap (λ (b : ℕ). drops_of_cycle (sealed_run v) is.net b s.posted) st.number in
          (λ i. record { starts = (starts ∙ st.starts sent_it) i; background = others i; drops = dropped i })
          ∙ sym (page_follows (sealed_run v) (seals v.entries) s.posted bridge is.net book is.compiled is_book (omega (arith, inside, is.all_driven)) within)

      abbrev pages_now : Posted
      pages_now = with_page v.pages page

      in_pages : page.bridge < length v.pages.pages
      in_pages = omega (arith, of_bridge, inside, is.all_driven, accepted.given.of_bridges, accepted.given.in_order.each_bridge)

      -- the pages of the bridge, with one more, and those of another bridge
      pages_here : pages_of pages_now bridge ≡ pages_of v.pages bridge ++ page ∷ []
      pages_here =
          ap (pages_of pages_now) (sym of_bridge)
          ∙ get_or-set_same v.pages.pages page.bridge (pages_of v.pages page.bridge ++ page ∷ []) [] in_pages
          ∙ ap (λ (b : ℕ). pages_of v.pages b ++ page ∷ []) of_bridge

      pages_there : (other : ℕ) → (other ≡ bridge → ⊥) → pages_of pages_now other ≡ pages_of v.pages other
      pages_there other differ =
          get_or-set_other v.pages.pages page.bridge other (pages_of v.pages page.bridge ++ page ∷ []) [] (λ e. differ (e ∙ of_bridge))

      abbrev after : WorldState
      after = record v { pages = pages_now }

      cycle_here : cycle_of_bridge after bridge ≡ cycle_of_bridge v bridge + 1
      cycle_here = ap length pages_here ∙ length_push (pages_of v.pages bridge) page

      cycle_there : (other : ℕ) → (other ≡ bridge → ⊥) → cycle_of_bridge v other ≡ cycle_of_bridge after other
      cycle_there other differ = ap length (sym (pages_there other differ))

      -- each page is still the book's
      pages_still : PageFollows → ThereAreSoManyTables → ArePagesOfTheBook after
      pages_still page_follows count b cycle other book there of_history = elim (cases_eq b bridge) [
        | inl e ↦
            let at : slice_get (pages_of v.pages bridge ++ page ∷ []) cycle ≡ Some other =
            ap (λ (row : List Page). slice_get row cycle) (sym pages_here) ∙ ap (λ (k : ℕ). page_at pages_now k cycle) (sym e) ∙ there in
            elim (cases_lt cycle (cycle_of_bridge v bridge)) [
              | inl l ↦
                  accepted.pages b cycle other book
                  (ap (λ (k : ℕ). page_at v.pages k cycle) e ∙ sym (slice_get_front (pages_of v.pages bridge) (page ∷ []) cycle l) ∙ at) of_history
              | inr past ↦
                  let more : cycle < length (pages_of v.pages bridge ++ page ∷ []) = slice_get_within (pages_of v.pages bridge ++ page ∷ []) cycle other at in
                  let last : cycle ≡ cycle_of_bridge v bridge = omega (arith, past, more, length_push (pages_of v.pages bridge) page) in
                  let same : page ≡ other =
                  same_Some page other (sym (slice_get_after (pages_of v.pages bridge) page [] cycle last) ∙ at) in
                  let is_book = subst (λ (n : ℕ). IsBook (sealed_run v) (compiled_lists v.domain) n book) (count v.domain v.entries (seals v.entries))
                  of_history.is_book in
                  ap contents_posted (sym same) ∙ page_is page_follows book is_book
                  ∙ (λ i. page_of v.domain (sym e i) ((st.in_cycle ∙ sym last) i) book)
            ]
        | inr differ ↦
            accepted.pages b cycle other book (ap (λ (row : List Page). slice_get row cycle) (sym (pages_there b differ)) ∙ there) of_history
      ]

      -- the bridge has taken no batch of its next cycle
      none_yet : links_taken after bridge ≡ []
      none_yet = filter_none (λ l. nat_lt (cycle_of_bridge after bridge) (taken_from v l)) (links_into v.domain bridge)
          (λ l held. le-ltb (cycle_of_bridge after bridge) (taken_from v l)
          (omega (arith, may.has_taken l (link_into v.domain bridge l held).1, cycle_here)))

      driven_posted : IsDriven (sealed_run v) (seals v.entries) is.net bridge (cycle_of_bridge after bridge) (links_taken after bridge) z
      driven_posted =
          subst (IsDriven (sealed_run v) (seals v.entries) is.net bridge (cycle_of_bridge after bridge) (links_taken after bridge)) (sym z_is)
          (record {
            in_cycle = omega (arith, st.in_cycle, cycle_here);
            not_after = omega (arith, sent_it);
            with_table = st.with_table;
            not_ahead = omega (arith, st.not_ahead);
            closed = st.closed;
            number = g.number ∙ st.number;
            received = g.one_on;
            follows = λ e. g.follows;
            has_sent = λ e. absurd (omega (arith, e, sent_it));
            starts = λ e. absurd (omega (arith, e, sent_it));
            taken = out.none_taken ∙ ap (map (batch_of v.domain is.net.carried (s.posted + 1))) (sym none_yet);
            incoming = st.incoming;
            agenda = st.agenda;
          })

      -- a link into the bridge: a batch of the cycle before was taken from it
      line_posted : (link : ℕ) (x : Line) → enters v.domain link bridge ≡ true →
          IsLine v.domain is.net link (cycle_of_bridge after bridge) (sent_by_driven v bridge) (sent_by_driven v (bridge_of v.domain link))
          (get_or lines link x)
      line_posted link x ends =
          let li = is.line link bridge x ends in
          let in_lines : link < length lines = omega (arith, link_ending v.domain bridge link ends, is.all_lines) in
          record {
            at_least = omega (arith, may.has_taken link ends, count_at taken_of v.taken lines link x is.taken_are in_lines, cycle_here);
            at_most = li.at_most;
            not_more = li.not_more;
            waiting = li.waiting;
          }

      given_still : map given_of (set driven bridge z) ≡ v.given
      given_still = count_kept given_of driven bridge s z here (ap given_of z_is) ∙ sym is.given_are

      sent_still : map sent_of_driven (set driven bridge z) ≡ v.sent
      sent_still = count_kept sent_of_driven driven bridge s z here (ap sent_of_driven z_is) ∙ sym is.sent_are

      -- the world goes on
      pub posted_goes_on : IsRunningWorld after tables (set driven bridge z) lines
      posted_goes_on = record {
        net = is.net;
        compiled = is.compiled;
        within_run = is.within_run;
        all_tables = is.all_tables;
        table = is.table;
        all_driven = length-set driven bridge z ∙ is.all_driven;
        given_are = sym given_still;
        sent_are = sym sent_still;
        bridge_driven = each_with (λ k. IsDriven (sealed_run v) (seals v.entries) is.net k (cycle_of_bridge after k) (links_taken after k))
            driven bridge z inside
            driven_posted (λ other d in_driven differ.
            subst (λ (n : ℕ). IsDriven (sealed_run v) (seals v.entries) is.net other n
            (filter (λ l. nat_lt n (taken_from v l)) (links_into v.domain other)) (get_or driven other d)) (cycle_there other differ)
            (is.bridge_driven other d in_driven));
        all_lines = is.all_lines;
        taken_are = is.taken_are;
        line = λ link to x ends. elim (cases_eq to bridge) [
          | inl e ↦
              subst (λ (k : ℕ). IsLine v.domain is.net link (cycle_of_bridge after k) (sent_by_driven v k)
              (sent_by_driven v (bridge_of v.domain link)) (get_or lines link x)) (sym e)
              (line_posted link x (ap (enters v.domain link) (sym e) ∙ ends))
          | inr differ ↦
              subst (λ (n : ℕ). IsLine v.domain is.net link n (sent_by_driven v to) (sent_by_driven v (bridge_of v.domain link)) (get_or lines link x))
              (cycle_there to differ)
              (is.line link to x ends)
        ];
      }

module _ (v : WorldState) (tables : List CycleTable) (driven : List WorldBridge) (lines : List Line) (old : WorldState) (old_same : v ≡ old)
    (world : IsWorld v tables driven lines) (old_on : old.stopped ≡ false) (bridge index : ℕ) (s : WorldBridge) (at : index ≡ bridge)
    (at_index : s ≡ get_or driven index s) where
  on : v.stopped ≡ false
  on = subst (λ (w : WorldState). w.stopped ≡ false) (sym old_same) old_on

  run : IsRunningWorld v tables driven lines
  run = world.running on

  here_v : s ≡ get_or driven bridge s
  here_v = at_index ∙ ap (λ (k : ℕ). get_or driven k s) at

  module _ (there : index < length driven) where
    inside_v : bridge < length driven
    inside_v = omega (arith, there, at)

    -- a bridge may post if the test says so
    pub may_post_so : (s.sent ≡ s.posted → ⊥) → (length s.taken.items == s.incoming) ≡ true → MayPost old bridge
    may_post_so sent all =
        subst (λ (w : WorldState). MayPost w bridge) old_same
        (may_post v tables driven lines run bridge s inside_v here_v sent (eqb-true (length s.taken.items) s.incoming all))

    -- and may not if it says no
    pub may_not_post : (length s.taken.items == s.incoming) ≡ false → MayPost old bridge → ⊥
    may_not_post none may =
        let c = counts_post v tables driven lines run bridge s inside_v here_v (subst (λ (w : WorldState). MayPost w bridge) (sym old_same) may) in
        false≢true (sym none ∙ eq-eqb (length s.taken.items) s.incoming c.1)

  module _ (old_may : MayPost old bridge) where
    may_v : MayPost v bridge
    may_v = subst (λ (w : WorldState). MayPost w bridge) (sym old_same) old_may

    in_driven : bridge < length driven
    in_driven = omega (arith, may_v.inside, run.all_driven)

    of_driven : IsDriven (sealed_run v) (seals v.entries) run.net bridge (cycle_of_bridge v bridge) (links_taken v bridge) s
    of_driven = driven_at v tables driven lines run bridge s in_driven here_v

    within_v : s.posted < seals v.entries
    within_v = within v tables driven lines run bridge s in_driven here_v world may_v

    -- the table of its cycle is there
    pub closed_so : s.posted < length tables
    closed_so = omega (arith, within_v, run.all_tables)

    -- the bridge's receiving may be called
    pub early_so : s.posted < 100000
    early_so = omega (arith, within_v, run.within_run, world.given.few_cycles)

    -- its page is the next one
    pub next_so : IsNextToPost v.pages s
    next_so = record {
      inside = omega (arith, of_driven.number, in_driven, run.all_driven, world.given.of_bridges);
      of_cycles = omega (arith, within_v, run.within_run, world.given.of_cycles);
      next = of_driven.in_cycle ∙ ap (page_count v.pages) (sym of_driven.number);
    }

    module _ (t : CycleTable) (tplace : ℕ) (tat : tplace ≡ s.posted) (at_tplace : t ≡ get_or tables tplace t) where
      at_cycle : t ≡ get_or tables s.posted t
      at_cycle = at_tplace ∙ ap (λ (k : ℕ). get_or tables k t) tat

      pub may_receive_so : OffersAreOfTheBridge → ReceivesButForMemory → RunOfHistoryLosesNothing → MayReceiveItsCycle s t
      may_receive_so offers but_for_memory loses =
          may_receive v tables driven lines run bridge s in_driven here_v world may_v offers but_for_memory loses t at_cycle

      module _ (z : WorldBridge) (pages_after : Posted) (out : PostsOut s z t v.pages pages_after) (offers : OffersAreOfTheBridge)
          (receiving : ReceivingFollows) where
        abbrev now_posted : Posted
        now_posted = with_page v.pages out.page

        abbrev world_posted : Posted → WorldState
        world_posted pages = record v {
          pages = pages;
          given = map given_of (set driven bridge z);
          sent = map sent_of_driven (set driven bridge z);
          stopped = false;
        }

        runs_on : IsRunningWorld (record v { pages = now_posted }) tables (set driven bridge z) lines
        runs_on = posted_goes_on v tables driven lines run bridge s in_driven here_v world may_v t at_cycle z pages_after out offers receiving

        is_after : record v { pages = now_posted } ≡ world_posted now_posted
        is_after = λ i. record v { pages = now_posted; given = runs_on.given_are i; sent = runs_on.sent_are i; stopped = on i }

        of_cycle_so : out.page.cycle.0 ≡ cycle_of_bridge v bridge
        of_cycle_so = of_cycle v tables driven lines run bridge s in_driven here_v world may_v t at_cycle z pages_after out offers receiving

        of_bridge_so : out.page.bridge ≡ bridge
        of_bridge_so = of_bridge v tables driven lines run bridge s in_driven here_v world may_v t at_cycle z pages_after out offers receiving

        is_next : IsNextPage v.pages out.page
        is_next = (
          omega (arith, of_bridge_so, in_driven, run.all_driven, world.given.of_bridges),
          omega (arith, of_cycle_so, of_driven.in_cycle, within_v, run.within_run, world.given.of_cycles),
          of_cycle_so ∙ ap (page_count v.pages) (sym of_bridge_so),
        )

        -- so it is still a world
        pub posted_world : PageFollows → ThereAreSoManyTables → IsWorld (world_posted pages_after) tables (set driven bridge z) lines
        posted_world page_follows count =
            subst (λ (p : Posted). IsWorld (world_posted p) tables (set driven bridge z) lines) (sym out.posted) (record {
              given = given_as v v.entries now_posted (map given_of (set driven bridge z)) (map sent_of_driven (set driven bridge z)) v.taken
                  false world.given world.given.legal
                  refl refl (next_posted v.pages out.page world.given.in_order is_next);
              pages = pages_still v tables driven lines run bridge s in_driven here_v world may_v t at_cycle z pages_after out offers
                  receiving page_follows count;
              sealed = λ b. elim (cases_eq b bridge) [
                | inl e ↦
                    subst (λ (k : ℕ). cycle_of_bridge (record v { pages = now_posted }) k ≤ seals v.entries) (sym e)
                    (omega (
                      arith,
                      cycle_here v tables driven lines run bridge s in_driven here_v world may_v t at_cycle z pages_after out offers receiving,
                      within_v,
                      of_driven.in_cycle,
                    ))
                | inr differ ↦
                    omega (
                      arith,
                      cycle_there v tables driven lines run bridge s in_driven here_v world may_v t at_cycle z pages_after out offers receiving b differ,
                      world.sealed b,
                    )
              ];
              running = λ still. subst (λ (w : WorldState). IsRunningWorld w tables (set driven bridge z) lines) is_after runs_on;
            })

        -- and it is the same except for the page
        pub posted_alone : Posts old (world_posted pages_after) bridge
        posted_alone =
            subst (λ (w : WorldState). Posts w (world_posted pages_after) bridge) old_same (record {
              page = out.page;
              of_bridge = of_bridge_so;
              of_cycle = of_cycle_so;
              posted = ap world_posted out.posted ∙ sym is_after;
            })

  -- if no page is posted, no count changes
  pub unposted_alone : (z : WorldBridge) (pages_after : Posted) → z.given ≡ s.given → z.sent ≡ s.sent → pages_after ≡ v.pages →
      record v { pages = pages_after; given = map given_of (set driven bridge z); sent = map sent_of_driven (set driven bridge z); stopped = true }
      ≡ record old { stopped = true }
  unposted_alone z pages_after given sent pages =
      subst (λ (w : WorldState). record v {
        pages = pages_after;
        given = map given_of (set driven bridge z);
        sent =
            map sent_of_driven (set driven bridge z);
        stopped = true;
      }
      ≡ record w { stopped = true }) old_same
      (λ i. record v {
        pages = pages i;
        given = (count_kept given_of driven bridge s z here_v given ∙ sym run.given_are) i;
        sent = (count_kept sent_of_driven driven bridge s z here_v sent ∙ sym run.sent_are) i;
        stopped = true;
      })
