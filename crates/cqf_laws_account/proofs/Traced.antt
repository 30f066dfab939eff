-- A book is determined by its traces.
use Rattle.std.proofs.Common.{◌≡◌, ℕ, ◌*◌, ◌/◌, ◌<◌, ◌≤◌, ◌==◌, List, [], ◌∷◌, length, map, sym, ap, ap₂, ◌∙◌, arith, inl, inr, refl, filter, subst}
use Rattle.std.proofs.Common.{AllPairs, Contains, eqb-true}
use Rattle.std.proofs.lemmas.Bool.{cases_lt}
use Rattle.std.proofs.lemmas.List.Kept.{AllPairs-filter}
use Rattle.cqf_lists.specs.Lists.{each_below}
use Rattle.cqf_lists.proofs.EachBelow.{same_below}
use Rattle.cqf_lists.proofs.Filters.{filter-map}
use Rattle.cqf_lists.proofs.Members.{contains_from_filter, contains_from_map, contains_here, contains_later}
use Rattle.cqf_lists.proofs.Pairs.{pairs_map, pairs_members}
use Rattle.cqf_units.proofs.Cycles.{cycles_ordered}
use Rattle.cqf_model.specs.declared.frames.Dropped.{Dropped}
use Rattle.cqf_model.specs.declared.frames.Sent.{Sent}
use Rattle.cqf_model.specs.declared.frames.Started.{Started}
use Rattle.cqf_model.specs.declared.ports.Start.{Start}
use Rattle.cqf_model.specs.Book.{Contents, backed_batch, background_in, batch, drops_in, drops_of, started, started_backed, starts_in}
use Rattle.cqf_model.specs.Domain.{Domain, IsAccepted, cycle_of}
use Rattle.cqf_model.specs.GateList.{Entry}
use Rattle.cqf_model.specs.Network.{IsLegalNetwork, Network, comes_before}
use Rattle.cqf_model.specs.Run.{Run}
use Rattle.cqf_model.specs.Policing.{Policed, policed_before}
use Rattle.cqf_model.proofs.Drops.{dropped_at}
use Rattle.cqf_laws_cycle.specs.PageLaws.{IsSomeBook}
use Rattle.cqf_trace.specs.declared.trace.Mark.{Mark}
use Rattle.cqf_trace.specs.declared.traces.TransmissionKind.{TransmissionKind}
use Rattle.cqf_trace.specs.declared.traces.TransmissionKind.TheVariants.{Background, Stream}
use Rattle.cqf_trace.specs.declared.traces.Traces.{Traces}
use Rattle.cqf_trace.specs.Traces.{AreDropsByCycle, AreTracesOf, IsInOrder, drops_at, drops_in_cycles, is_at_bridge, is_drop_in, is_in}
use Rattle.cqf_trace.specs.Traces.{mark_of, marks_at, marks_on, reported_from, reported_in_cycles, reported_on, started_by}
use Rattle.cqf_trace.proofs.ByTwo.{of_both, of_second, pairs_of_second}
use Rattle.cqf_laws_account.specs.Traced.{TracesGive}
use Rattle.cqf_laws_account.proofs.Ordered.{backed_in_order, sent_in_order}

-- the numbers that starts and drops bear
abbrev cycle_in : Started → ℕ
cycle_in x = x.cycle.0

abbrev link_of : Started → ℕ
link_of x = x.link

abbrev cycle_of_drop : Dropped → ℕ
cycle_of_drop x = x.cycle.0

abbrev bridge_of_drop : Dropped → ℕ
bridge_of_drop x = x.bridge

-- what is in an earlier cycle is earlier
earlier : (n s t : ℕ) → 0 < n → s / n < t / n → s ≤ t
earlier n s t some less = elim (cases_lt s t) [
  | inl l ↦ omega (arith, l)
  | inr g ↦ absurd (omega (arith, less, cycles_ordered n t s some g))
]

-- a transmission is recovered from its mark
reported_again : (d : Domain) (link : ℕ) (x : Started) → x.link ≡ link → x.cycle.0 ≡ cycle_of d x.start.0 → started_by d link (mark_of x) ≡ x
reported_again d link x of_link of_cycle i = record {
  cycle = record { 0 = sym of_cycle i };
  link = sym of_link i;
  frame = x.frame;
  octets = x.octets;
  start = x.start;
}

-- and so are all
reported_again_each : (d : Domain) (link : ℕ) (xs : List Started) → ((x : Started) → Contains xs x → started_by d link (mark_of x) ≡ x) →
    map (started_by d link) (map mark_of xs) ≡ xs
reported_again_each d link [] same = refl
reported_again_each d link (x ∷ xs) same =
    ap₂ (λ (y : Started) (ys : List Started). y ∷ ys) (same x (contains_here x xs))
    (reported_again_each d link xs (λ y h. same y (contains_later x xs y h)))

-- the cycle of a transmission's instant
abbrev cycle_then : Domain → Started → ℕ
cycle_then d x = cycle_of d x.start.0

-- one transmission of a kind starts before the other, or at the same instant
abbrev IsNoLater : Started → Started → Type 0
IsNoLater x y = x.start.0 ≤ y.start.0

-- the transmissions of a kind by cycle and link, which each of them bears; each is in its cycle, and they are in order of instant
record AreOfAKind (d : Domain) (cycles : ℕ) (lists : ℕ → ℕ → List Started) : Type 0 where
  has_cycle : (cycle link : ℕ) (x : Started) → Contains (lists cycle link) x → x.cycle.0 ≡ cycle
  has_link : (cycle link : ℕ) (x : Started) → Contains (lists cycle link) x → x.link ≡ link
  in_cycle : (cycle link : ℕ) (x : Started) → Contains (lists cycle link) x → cycle_then d x ≡ cycle
  ascends : (cycle link : ℕ) → cycle < cycles → link < length d.links → AllPairs IsNoLater (lists cycle link)

-- all of them
abbrev all_starts : Domain → ℕ → (ℕ → ℕ → List Started) → List Started
all_starts d cycles lists = each_below (λ cycle. each_below (lists cycle) (length d.links)) cycles

module _ (d : Domain) (cycles : ℕ) (lists : ℕ → ℕ → List Started) (are : AreOfAKind d cycles lists) where
  -- a link's marks give for a cycle what the link sends in it
  reported_on_link : (cycle link : ℕ) → cycle < cycles → link < length d.links → reported_on d cycle link (marks_on link (all_starts d cycles lists)) ≡ lists cycle link
  reported_on_link cycle link in_cycles in_links =
      let on_link = filter (λ (x : Started). link_of x == link) (all_starts d cycles lists) in
      ap (map (started_by d link)) (filter-map mark_of (is_in d cycle) on_link)
      ∙ ap (λ (xs : List Started). map (started_by d link) (map mark_of xs))
      (of_both link_of cycles (length d.links) lists are.has_link (cycle_then d) are.in_cycle cycle link in_cycles in_links)
      ∙ reported_again_each d link (lists cycle link) (λ x h.
      reported_again d link x (are.has_link cycle link x h) (are.has_cycle cycle link x h ∙ sym (are.in_cycle cycle link x h)))

  -- so all are recovered from the links' marks
  reported_by_marks : (marks : ℕ → List Mark) → ((link : ℕ) → link < length d.links → marks link ≡ marks_on link (all_starts d cycles lists)) →
      all_starts d cycles lists ≡ each_below (λ cycle. each_below (λ link. reported_on d cycle link (marks link)) (length d.links)) cycles
  reported_by_marks marks same =
      same_below (λ cycle. each_below (lists cycle) (length d.links))
      (λ cycle. each_below (λ link. reported_on d cycle link (marks link)) (length d.links)) cycles (λ cycle in_cycles.
      same_below (lists cycle) (λ link. reported_on d cycle link (marks link)) (length d.links) (λ link in_links.
      sym (ap (reported_on d cycle link) (same link in_links) ∙ reported_on_link cycle link in_cycles in_links)))

  -- and on each link they are in order
  marks_in_order : 0 < d.cycle_time → (link : ℕ) (marks : List Mark) → link < length d.links → marks ≡ marks_on link (all_starts d cycles lists) → IsInOrder marks
  marks_in_order some link marks in_links same =
      let by_cycle = each_below (λ cycle. lists cycle link) cycles in
      let is : marks ≡ map mark_of by_cycle =
      same ∙ ap (map mark_of) (of_second link_of cycles (length d.links) lists are.has_link link in_links) in
      subst IsInOrder (sym is)
      (pairs_map (λ (a b : Mark). a.start.0 ≤ b.start.0) mark_of by_cycle
      (pairs_of_second (cycle_then d) cycles lists are.in_cycle IsNoLater link
      (λ cycle in_cycles. are.ascends cycle link in_cycles in_links)
      (λ x y less. earlier d.cycle_time x.start.0 y.start.0 some less)))

module _ (d : Domain) (cycles indices : ℕ) (policed : ℕ → List Policed) where
  -- each drop bears its cycle and its bridge
  has_cycle : (cycle bridge : ℕ) (x : Dropped) → Contains (drops_in d indices policed cycle bridge) x → cycle_of_drop x ≡ cycle
  has_cycle cycle bridge x h = sym (ap cycle_of_drop (dropped_at d indices policed cycle bridge x h).is)

  has_bridge : (cycle bridge : ℕ) (x : Dropped) → Contains (drops_in d indices policed cycle bridge) x → bridge_of_drop x ≡ bridge
  has_bridge cycle bridge x h = sym (ap bridge_of_drop (dropped_at d indices policed cycle bridge x h).is)

  -- drops by cycle and bridge are recovered from those of each bridge
  reported_by_bridges : (drops : ℕ → List Dropped) →
      ((bridge : ℕ) → bridge < length d.bridges → drops bridge ≡ filter (is_at_bridge bridge) (drops_of d cycles indices policed)) →
      drops_of d cycles indices policed ≡ each_below (λ cycle. each_below (λ bridge. filter (is_drop_in cycle) (drops bridge)) (length d.bridges)) cycles
  reported_by_bridges drops same =
      let bridges = length d.bridges in
      same_below (λ cycle. each_below (drops_in d indices policed cycle) bridges)
      (λ cycle. each_below (λ bridge. filter (is_drop_in cycle) (drops bridge)) bridges) cycles (λ cycle in_cycles.
      same_below (drops_in d indices policed cycle) (λ bridge. filter (is_drop_in cycle) (drops bridge)) bridges (λ bridge in_bridges.
      sym (ap (filter (is_drop_in cycle)) (same bridge in_bridges)
      ∙ of_both bridge_of_drop cycles bridges (drops_in d indices policed) has_bridge cycle_of_drop has_cycle cycle bridge in_cycles in_bridges)))

  -- and those of each bridge are by cycle
  drops_by_cycle : (bridge : ℕ) (drops : List Dropped) → bridge < length d.bridges →
      drops ≡ filter (is_at_bridge bridge) (drops_of d cycles indices policed) → AreDropsByCycle drops
  drops_by_cycle bridge drops in_bridges same =
      let R : Dropped → Dropped → Type 0 = λ (a b : Dropped). a.cycle.0 ≤ b.cycle.0 in
      let lists = drops_in d indices policed in
      subst AreDropsByCycle (sym (same ∙ of_second bridge_of_drop cycles (length d.bridges) lists has_bridge bridge in_bridges))
      (pairs_of_second cycle_of_drop cycles lists has_cycle R bridge
      (λ cycle in_cycles. pairs_members R (lists cycle bridge) (λ x y in_x in_y.
      omega (arith, has_cycle cycle bridge x in_x, has_cycle cycle bridge y in_y)))
      (λ x y less. omega (arith, less)))

module _ (run : Run) (lists : ℕ → List Entry) (cycles : ℕ) (net : Network) (legal : IsLegalNetwork run lists cycles net) where
  -- the starts of streams' frames
  starts_of_a_kind : AreOfAKind run.domain cycles (starts_in run.domain net.carried)
  starts_of_a_kind = record {
    has_cycle = λ cycle link x h. let s = contains_from_map (started cycle link) (batch run.domain net.carried link cycle) x h in
        sym (ap cycle_in s.2);
    has_link = λ cycle link x h. let s = contains_from_map (started cycle link) (batch run.domain net.carried link cycle) x h in
        sym (ap link_of s.2);
    in_cycle = λ cycle link x h.
        let s = contains_from_map (started cycle link) (batch run.domain net.carried link cycle) x h in
        let k = contains_from_filter (λ (sent : Sent). cycle_of run.domain sent.start.0 == cycle) (net.carried link) s.0 s.1 in
        sym (ap (cycle_then run.domain) s.2) ∙ eqb-true (cycle_of run.domain s.0.start.0) cycle k.1;
    ascends = λ cycle link in_cycles in_links.
        pairs_map IsNoLater (started cycle link) (batch run.domain net.carried link cycle)
        (AllPairs-filter (λ (a b : Sent). a.start.0 ≤ b.start.0) (λ (sent : Sent). cycle_of run.domain sent.start.0 == cycle) (net.carried link)
        (sent_in_order run.domain (lists link) (cycles * run.domain.cycle_time) link (comes_before run net.carried link cycles) (net.carried link)
        (net.backed link) (legal.sends link in_links)));
  }

  -- and those of background frames
  background_of_a_kind : AreOfAKind run.domain cycles (background_in run.domain net.backed)
  background_of_a_kind = record {
    has_cycle = λ cycle link x h. let s = contains_from_map (started_backed cycle link) (backed_batch run.domain net.backed link cycle) x h in
        sym (ap cycle_in s.2);
    has_link = λ cycle link x h. let s = contains_from_map (started_backed cycle link) (backed_batch run.domain net.backed link cycle) x h in
        sym (ap link_of s.2);
    in_cycle = λ cycle link x h.
        let s = contains_from_map (started_backed cycle link) (backed_batch run.domain net.backed link cycle) x h in
        let k = contains_from_filter (λ (start : Start). cycle_of run.domain start.start.0 == cycle) (net.backed link) s.0 s.1 in
        sym (ap (cycle_then run.domain) s.2) ∙ eqb-true (cycle_of run.domain s.0.start.0) cycle k.1;
    ascends = λ cycle link in_cycles in_links.
        pairs_map IsNoLater (started_backed cycle link) (backed_batch run.domain net.backed link cycle)
        (AllPairs-filter (λ (a b : Start). a.start.0 ≤ b.start.0) (λ (start : Start). cycle_of run.domain start.start.0 == cycle) (net.backed link)
        (backed_in_order run.domain (lists link) (cycles * run.domain.cycle_time) link (comes_before run net.carried link cycles) (net.carried link)
        (net.backed link) (legal.sends link in_links)));
  }

module _ (d : Domain) (cycles : ℕ) (traces : Traces) (book : Contents) (accepted : IsAccepted d) (some : IsSomeBook d cycles book)
    (are : AreTracesOf d traces book) where
  -- the run of the book
  abbrev run : Run
  run = record { domain = d; tables = some.tables; offers = some.offers; background = some.background }

  -- the verdicts of its bridges on their frames
  abbrev policed : ℕ → List Policed
  policed bridge = policed_before run some.is_book.net.carried bridge (cycles * d.cycle_time)

  -- the starts of both kinds
  abbrev lists_of : TransmissionKind → ℕ → ℕ → List Started
  lists_of Stream = starts_in d some.is_book.net.carried
  lists_of Background = background_in d some.is_book.net.backed

  kinds : (kind : TransmissionKind) → AreOfAKind d cycles (lists_of kind)
  kinds Stream = starts_of_a_kind run some.lists cycles some.is_book.net some.is_book.legal
  kinds Background = background_of_a_kind run some.lists cycles some.is_book.net some.is_book.legal

  -- are on the traces
  marks_are : (kind : TransmissionKind) (link : ℕ) → link < length d.links →
      marks_at kind traces link ≡ marks_on link (all_starts d cycles (lists_of kind))
  marks_are Stream link inside = are.starts link inside ∙ ap (marks_on link) some.is_book.are_starts
  marks_are Background link inside = are.background link inside ∙ ap (marks_on link) some.is_book.are_background

  -- and so do the drops
  drops_are : (bridge : ℕ) → bridge < length d.bridges → drops_at traces bridge ≡ filter (is_at_bridge bridge)
      (drops_of d cycles (length some.offers) policed)
  drops_are bridge inside = are.drops bridge inside ∙ ap (filter (is_at_bridge bridge)) some.is_book.are_drops

  -- the traces give the starts of both kinds
  reported_of_kind : (kind : TransmissionKind) → all_starts d cycles (lists_of kind) ≡ reported_in_cycles d kind traces cycles
  reported_of_kind kind = reported_by_marks d cycles (lists_of kind) (kinds kind) (marks_at kind traces) (marks_are kind)

  -- the traces give the book
  reports : book ≡ reported_from d cycles traces
  reports =
      let b = some.is_book in
      let starts : book.starts ≡ reported_in_cycles d Stream traces cycles = b.are_starts ∙ reported_of_kind Stream in
      let background : book.background ≡ reported_in_cycles d Background traces cycles = b.are_background ∙ reported_of_kind Background in
      let drops : book.drops ≡ drops_in_cycles d traces cycles =
      b.are_drops ∙ reported_by_bridges d cycles (length some.offers) policed (drops_at traces) drops_are in
      λ i. record { starts = starts i; background = background i; drops = drops i }

  pub trace_reported : TracesGive d cycles traces book
  trace_reported =
      let takes : 0 < d.cycle_time = omega (arith, accepted.cycle_least) in
      record {
        reported = reports;
        may = record {
          each_link = are.each_link;
          in_order = λ kind link inside.
              marks_in_order d cycles (lists_of kind) (kinds kind) takes link (marks_at kind traces link) inside (marks_are kind link inside);
          each_bridge = are.each_bridge;
          drops = λ bridge inside.
              drops_by_cycle d cycles (length some.offers) policed bridge (drops_at traces bridge) inside (drops_are bridge inside);
        };
      }
