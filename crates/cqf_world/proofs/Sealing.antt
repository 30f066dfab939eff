-- A Seal closes a cycle.
use Rattle.std.proofs.Common.{◌≡◌, ℕ, ◌+◌, ◌-◌, ◌<◌, ◌≤◌, ◌++◌, List, flat_map, get_or, length, sym, ap, ◌∙◌, arith}
use Rattle.std.proofs.Common.{refl, inl, inr, subst, false, Contains, eqb-true, length-append}
use Rattle.std.specs.Prelude.{◌∷◌, [], ◌==◌, ◌&&◌, nat_lt}
use Rattle.std.proofs.lemmas.Bool.{and_parts, cases_lt, lt-ltb, ltb-true}
use Rattle.std.proofs.lemmas.List.{get_or-append_right, get_or_append_left}
use Rattle.std.proofs.lemmas.Option.{slice_get_cases, slice_get_within}
use Rattle.cqf_lists.proofs.EachBelow.{get_or-singles, same_below}
use Rattle.cqf_lists.proofs.Filters.{filter_weaker}
use Rattle.cqf_lists.proofs.Made.{map_same}
use Rattle.cqf_lists.proofs.Members.{contains_from_filter}
use Rattle.cqf_model.specs.declared.frames.Dropped.{Dropped}
use Rattle.cqf_model.specs.declared.frames.Started.{Started}
use Rattle.cqf_model.specs.Book.{Contents, IsBook, page_drops, page_of, page_starts}
use Rattle.cqf_model.specs.Domain.{Domain, bridge_of, leaves}
use Rattle.cqf_model.specs.declared.history.Reply.TheVariants.{Sealed}
use Rattle.cqf_model.specs.History.{IsLegalHistory, Recorded, Seals, seals, table_at}
use Rattle.cqf_model.specs.HistoryBook.{IsBookOfHistory}
use Rattle.cqf_model.specs.Network.{Network, compiled_lists}
use Rattle.cqf_model.proofs.Links.{bridge_within}
use Rattle.cqf_laws_network.specs.NetworkLaws.{IsShorter, LegalNetworkExists, ShorterBookIsTheBeginning}
use Rattle.cqf_laws_network.specs.NetworkLaws.{book_before_cycle, drops_before_cycle, starts_before_cycle}
use Rattle.cqf_laws_cycle.specs.BridgeCycle.{IsCompiledNetwork}
use Rattle.cqf_laws_cycle.specs.RunSteps.{LongerRunKeepsItsCycles}
use Rattle.cqf_laws_history.specs.HistoryLaws.{ThereAreSoManyTables}
use Rattle.cqf_laws_history.specs.StateLaws.{SealsAreCounted, with_entry}
use Rattle.cqf_laws_history.specs.TableLaws.{ClosedTablesStay}
use Rattle.cqf_admission.specs.Admission.{Administration}
use Rattle.cqf_admission.specs.Tables.{CycleTable}
use Rattle.cqf_book.specs.Pages.{pages_of}
use Rattle.cqf_bridge.specs.Batch.{LinkBatch}
use Rattle.cqf_agenda.specs.Links.{links_from, links_into}
use Rattle.cqf_bridge.specs.Cycles.{starts_of_batch}
use Rattle.cqf_bridge.specs.Follows.{batch_of}
use Rattle.cqf_bridge.specs.LongerRuns.{IsLonger, LongerRunIsFollowed, LongerRunIsFollowedHalfway}
use Rattle.cqf_agenda.proofs.LinkNumbers.{link_ending, link_into}
use Rattle.cqf_world.specs.declared.parts.Line.{Line}
use Rattle.cqf_world.specs.declared.parts.WorldBridge.{WorldBridge}
use Rattle.cqf_world.specs.Parts.{ClosesInWorld, IsRunningWorld, IsDriven, IsWorld, links_taken, sent_of_driven, taken_of}
use Rattle.cqf_world.specs.World.{ArePagesOfTheBook, WorldState, cycle_of_bridge, sealed_run, sent_by_driven, taken_from}
use Rattle.cqf_world.proofs.Keeping.{given_entries}
use Rattle.cqf_world.proofs.Standing.{count_at}

-- a page of a cycle within a shorter run is the same in the shorter run's book
page_before : (d : Domain) (bridge cycle cycles : ℕ) (book : Contents) → cycle < cycles →
    page_of d bridge cycle (book_before_cycle cycles book) ≡ page_of d bridge cycle book
page_before d bridge cycle cycles book within =
    let starts : (xs : List Started) → page_starts d bridge cycle (starts_before_cycle cycles xs) ≡ page_starts d bridge cycle xs =
    λ xs. sym (filter_weaker (λ (s : Started). leaves d s.link bridge && (s.cycle.0 == cycle)) (λ (s : Started). nat_lt s.cycle.0 cycles) xs
    (λ s held passes. lt-ltb s.cycle.0 cycles
    (omega (arith, within, eqb-true s.cycle.0 cycle (and_parts (leaves d s.link bridge) (s.cycle.0 == cycle) passes).1)))) in
    let drops : page_drops bridge cycle (drops_before_cycle cycles book.drops) ≡ page_drops bridge cycle book.drops =
    sym (filter_weaker (λ (x : Dropped). (x.bridge == bridge) && (x.cycle.0 == cycle)) (λ (x : Dropped). nat_lt x.cycle.0 cycles) book.drops
    (λ x held passes. lt-ltb x.cycle.0 cycles
    (omega (arith, within, eqb-true x.cycle.0 cycle (and_parts (x.bridge == bridge) (x.cycle.0 == cycle) passes).1)))) in
    λ i. record { starts = starts book.starts i; background = starts book.background i; drops = drops i }

module _ (v : WorldState) (tables : List CycleTable) (driven : List WorldBridge) (lines : List Line) (accepted : IsWorld v tables driven lines)
    (is : IsRunningWorld v tables driven lines) where
  -- no bridge has sent a cycle that isn't closed
  pub sent_sealed : (bridge : ℕ) → bridge < length driven → sent_by_driven v bridge ≤ seals v.entries
  sent_sealed bridge inside =
      elim (slice_get_cases driven bridge).1 [
        | inl s ↦ (let st = is.bridge_driven bridge s.0 inside in
            omega (arith, count_at sent_of_driven v.sent driven bridge s.0 is.sent_are inside, st.with_table, st.closed))
        | inr s ↦ absurd (omega (arith, s.0, inside))
      ]

  -- if a bridge has taken a link's batch of its cycle, it has sent the cycle
  pub taken_sent : (bridge l : ℕ) → Contains (links_taken v bridge) l → cycle_of_bridge v bridge < sent_by_driven v bridge
  taken_sent bridge l held =
      let k = contains_from_filter (λ m. nat_lt (cycle_of_bridge v bridge) (taken_from v m)) (links_into v.domain bridge) l held in
      let ends = link_into v.domain bridge l k.0 in
      let more = ltb-true (cycle_of_bridge v bridge) (taken_from v l) k.1 in
      let inside : l < length lines = omega (arith, ends.0, is.all_lines) in
      elim (slice_get_cases lines l).1 [
        | inl x ↦ (let li = is.line l bridge x.0 ends.1 in
            omega (arith, more, count_at taken_of v.taken lines l x.0 is.taken_are inside, li.at_most))
        | inr x ↦ absurd (omega (arith, x.0, inside))
      ]

module _ (v : WorldState) (tables : List CycleTable) (driven : List WorldBridge) (lines : List Line) (entries : List Recorded) (table : CycleTable)
    (world : IsWorld v tables driven lines) (goes_on : v.stopped ≡ false) (legal : IsLegalHistory v.domain entries)
    (counted : seals entries ≡ seals v.entries + 1)
    (stay : (cycle : ℕ) → cycle < seals v.entries → table_at v.domain entries cycle ≡ table_at v.domain v.entries cycle)
    (of_cycle : table.cycle ≡ seals v.entries) (rows : table.rows ≡ table_at v.domain entries (seals v.entries)) (may : seals v.entries < v.cycles)
    (count : ThereAreSoManyTables) (shorter_book : ShorterBookIsTheBeginning) (exists : LegalNetworkExists) (keeps : LongerRunKeepsItsCycles)
    (longer : LongerRunIsFollowed) (longer_halfway : LongerRunIsFollowedHalfway) where
  is : IsRunningWorld v tables driven lines
  is = world.running goes_on

  abbrev more : WorldState
  more = record v { entries = entries }

  -- the run so far is a prefix of the run with one more cycle
  is_shorter : IsShorter (seals v.entries) (seals entries) (sealed_run more).tables (sealed_run v).tables
  is_shorter = record {
    fewer = omega (arith, counted);
    tables_same = λ cycle within.
        get_or-singles (table_at v.domain entries) (seals entries) cycle [] (omega (arith, within, counted))
        ∙ stay cycle within
        ∙ sym (get_or-singles (table_at v.domain v.entries) (seals v.entries) cycle [] within);
  }

  -- so each page is that of the longer run's book
  pages_still : ArePagesOfTheBook more
  pages_still bridge cycle page book there of_more =
      let lists = compiled_lists v.domain in
      let before = book_before_cycle (seals v.entries) book in
      let whole : IsBook (sealed_run more) lists (seals entries) book =
      subst (λ (n : ℕ). IsBook (sealed_run more) lists n book) (count v.domain entries (seals entries)) of_more.is_book in
      let beginning : IsBook (sealed_run v) lists (seals v.entries) before =
      shorter_book (sealed_run more) (sealed_run v).tables lists (seals v.entries) (seals entries) book is_shorter whole in
      let of_history : IsBookOfHistory v.domain v.entries v.offers v.background (seals v.entries) before = record {
        sealed = omega arith;
        is_book = subst (λ (n : ℕ). IsBook (sealed_run v) lists n before) (sym (count v.domain v.entries (seals v.entries))) beginning;
      } in
      let within : cycle < seals v.entries =
      omega (arith, world.sealed bridge, slice_get_within (pages_of v.pages bridge) cycle page there) in
      world.pages bridge cycle page before there of_history ∙ page_before v.domain bridge cycle (seals v.entries) book within

  -- the network of the longer run
  some : (net : Network) × IsCompiledNetwork (sealed_run more) (seals entries) net
  some =
      let n = exists (sealed_run more) (compiled_lists v.domain) (seals entries) in
      (n.0, record { accepted = world.given.accepted; legal = n.1 })

  is_longer : IsLonger (sealed_run more) (sealed_run v).tables (seals v.entries) (seals entries) is.net some.0
  is_longer = record { shorter = is_shorter; beginning = is.compiled; whole = some.1 }

  -- it sends what the shorter run's network sent
  batch_same : (l cycle : ℕ) → cycle < seals v.entries → batch_of v.domain is.net.carried cycle l ≡ batch_of v.domain some.0.carried cycle l
  batch_same l cycle within =
      let kept = keeps (sealed_run more) (sealed_run v).tables (compiled_lists v.domain) (seals v.entries) (seals entries) is.net some.0
      is_shorter is.compiled.legal
      some.1.legal in
      λ i. record { link = l; cycle = cycle; frames = sym (kept.sends l cycle within) i }

  -- a bridge follows it
  driven_still : (bridge : ℕ) (s : WorldBridge) → bridge < length driven →
      IsDriven (sealed_run more) (seals entries) some.0 bridge (cycle_of_bridge v bridge) (links_taken v bridge) (get_or driven bridge s)
  driven_still bridge s inside =
      let st = is.bridge_driven bridge s inside in
      let x = get_or driven bridge s in
      let sent = count_at sent_of_driven v.sent driven bridge s is.sent_are inside in
      record {
        in_cycle = st.in_cycle;
        not_after = st.not_after;
        with_table = st.with_table;
        not_ahead = st.not_ahead;
        closed = omega (arith, st.closed, counted);
        number = st.number;
        received = st.received;
        follows = λ e. longer (sealed_run more) (sealed_run v).tables (seals v.entries) (seals entries) is.net some.0 x.bridge is_longer
            (omega (arith, st.received, st.not_after, st.with_table, st.closed)) (st.follows e);
        has_sent = λ e. longer_halfway (sealed_run more) (sealed_run v).tables (seals v.entries) (seals entries) is.net some.0 x.bridge is_longer
            (omega (arith, st.received, e, st.with_table, st.closed)) (st.has_sent e);
        starts = λ e. st.starts e
            ∙ ap (flat_map starts_of_batch) (map_same (batch_of v.domain is.net.carried x.posted) (batch_of v.domain some.0.carried x.posted)
            (links_from v.domain bridge)
            (λ l held. batch_same l x.posted (omega (arith, e, st.with_table, st.closed))));
        taken = st.taken
            ∙ map_same (batch_of v.domain is.net.carried x.posted) (batch_of v.domain some.0.carried x.posted) (links_taken v bridge)
            (λ l held. batch_same l x.posted
            (omega (arith, st.in_cycle, taken_sent v tables driven lines world is bridge l held, sent_sealed v tables driven lines world is bridge inside)));
        incoming = st.incoming;
        agenda = st.agenda;
      }

  -- and a world with the table goes on
  pub sealed_goes_on : IsRunningWorld more (tables ++ table ∷ []) driven lines
  sealed_goes_on = record {
    net = some.0;
    compiled = some.1;
    within_run = omega (arith, counted, may);
    all_tables = length-append tables (table ∷ []) ∙ ap (λ (n : ℕ). n + 1) is.all_tables ∙ sym counted;
    table = λ cycle x within. elim (cases_lt cycle (length tables)) [
      | inl l ↦
          let same = get_or_append_left tables (table ∷ []) x cycle l in
          let t = is.table cycle x l in
          (ap (λ (y : CycleTable). y.cycle) same ∙ t.0, ap (λ (y : CycleTable). y.rows) same ∙ t.1 ∙ sym (stay cycle (omega (arith, l, is.all_tables))))
      | inr g ↦
          let last : cycle ≡ seals v.entries = omega (arith, g, within, length-append tables (table ∷ []), is.all_tables) in
          let first : cycle - length tables ≡ 0 = omega (arith, last, is.all_tables) in
          let same = get_or-append_right tables (table ∷ []) (length tables) cycle x refl g ∙ ap (λ (k : ℕ). get_or (table ∷ []) k x) first in
          (ap (λ (y : CycleTable). y.cycle) same ∙ of_cycle ∙ sym last, ap (λ (y : CycleTable). y.rows) same ∙ rows ∙ ap (table_at v.domain entries) (sym last))
    ];
    all_driven = is.all_driven;
    given_are = is.given_are;
    sent_are = is.sent_are;
    bridge_driven = driven_still;
    all_lines = is.all_lines;
    taken_are = is.taken_are;
    line = λ link to x ends.
        (let li = is.line link to x ends in
        let y = get_or lines link x in
        let from = bridge_of v.domain link in
        let in_driven : from < length driven =
        omega (arith, bridge_within v.domain link world.given.accepted (link_ending v.domain to link ends), is.all_driven) in
        let upto = sent_sealed v tables driven lines world is from in_driven in
        record {
          at_least = li.at_least;
          at_most = li.at_most;
          not_more = li.not_more;
          waiting = li.waiting
              ∙ same_below (λ k. batch_of v.domain is.net.carried (y.taken + k) link ∷ []) (λ k. batch_of v.domain some.0.carried (y.taken + k) link ∷ [])
              (sent_by_driven v from - y.taken)
              (λ k within. ap (λ (b : LinkBatch). b ∷ []) (batch_same link (y.taken + k) (omega (arith, within, upto))));
        });
  }

  pub sealed_world : IsWorld more (tables ++ table ∷ []) driven lines
  sealed_world = record {
    given = given_entries v entries world.given legal;
    pages = pages_still;
    sealed = λ bridge. omega (arith, world.sealed bridge, counted);
    running = λ still. sealed_goes_on;
  }

-- the effect of a closed cycle
pub closed_world : (v : WorldState) (tables after : List CycleTable) (driven : List WorldBridge) (lines : List Line) (old new : Administration)
    (seat : ℕ) (was : WorldState) →
    IsWorld v tables driven lines → v ≡ was → was.stopped ≡ false → seals was.entries < was.cycles → v.domain ≡ old.domain → v.entries ≡ old.entries →
    ClosesInWorld old new seat tables after → IsLegalHistory new.domain new.entries → SealsAreCounted → ClosedTablesStay → ThereAreSoManyTables →
    ShorterBookIsTheBeginning → LegalNetworkExists → LongerRunKeepsItsCycles → LongerRunIsFollowed → LongerRunIsFollowedHalfway →
    IsWorld (record v { domain = new.domain; entries = new.entries }) after driven lines
closed_world v tables after driven lines old new seat was world same was_on was_may domain entries closes legal counted stay count shorter_book
    exists keeps longer
    longer_halfway =
    let goes_on = subst (λ (w : WorldState). w.stopped ≡ false) (sym same) was_on in
    let may = subst (λ (w : WorldState). seals w.entries < w.cycles) (sym same) was_may in
    let same_domain : new.domain ≡ v.domain = closes.domain ∙ sym domain in
    let with_it = λ (es : List Recorded). with_entry es seat Seals Sealed in
    let is_more : new.entries ≡ with_it v.entries = closes.entries ∙ ap with_it (sym entries) in
    subst (λ (d : Domain). IsWorld (record v { domain = d; entries = new.entries }) after driven lines) (sym same_domain)
    (subst (λ (es : List Recorded). IsWorld (record v { entries = es }) after driven lines) (sym is_more)
    (subst (λ (ts : List CycleTable). IsWorld (record v { entries = with_it v.entries }) ts driven lines) (sym closes.following)
    (sealed_world v tables driven lines (with_it v.entries) closes.table world goes_on
    (subst (λ (es : List Recorded). IsLegalHistory v.domain es) is_more (subst (λ (d : Domain). IsLegalHistory d new.entries) same_domain legal))
    (counted v.entries seat Seals Sealed)
    (λ cycle within. stay v.domain v.entries seat Seals Sealed cycle within)
    (closes.of_cycle ∙ ap seals (sym entries))
    (closes.rows ∙ (λ i. table_at (sym domain i) (is_more i) (seals (sym entries i)))) may count shorter_book exists keeps longer longer_halfway)))
