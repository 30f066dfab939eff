-- The book of a shorter run is the beginning of a longer run's.
use Rattle.std.proofs.Common.{◌≡◌, ℕ, ◌+◌, ◌*◌, ◌<◌, ◌≤◌, false, List, length, sym, ap, ◌∙◌, refl, arith, eqb-true, ne_eqb}
use Rattle.std.specs.Prelude.{◌++◌, ◌==◌, map, filter, Contains, nat_lt}
use Rattle.std.specs.List.{flat_map}
use Rattle.std.proofs.Math.Nat.{mul-le-mul_right}
use Rattle.std.proofs.lemmas.Bool.{and_left, le-ltb, lt-ltb}
use Rattle.std.proofs.lemmas.List.{append-nil}
use Rattle.std.proofs.lemmas.List.Elements.{filter-append}
use Rattle.std.proofs.lemmas.Nat.{le-div}
use Rattle.cqf_lists.specs.Lists.{each_below}
use Rattle.cqf_lists.proofs.EachBelow.{contains_from_below, filter_none, same_below}
use Rattle.cqf_lists.proofs.Filters.{filter_weaker}
use Rattle.cqf_lists.proofs.Fronts.{filter_front}
use Rattle.cqf_lists.proofs.Members.{contains_from_map}
use Rattle.cqf_units.proofs.Cycles.{before_cycle, takes_time}
use Rattle.cqf_model.specs.declared.frames.Dropped.{Dropped}
use Rattle.cqf_model.specs.declared.frames.Sent.{Sent}
use Rattle.cqf_model.specs.declared.frames.Started.{Started}
use Rattle.cqf_model.specs.declared.ports.Start.{Start}
use Rattle.cqf_model.specs.declared.topology.Row.{Row}
use Rattle.cqf_model.specs.Book.{Contents, IsBook, background_of, drop_by, drops_in, drops_of, is_of_index, started, started_backed, starts_of}
use Rattle.cqf_model.specs.Domain.{Domain, cycle_of}
use Rattle.cqf_model.specs.GateList.{Entry}
use Rattle.cqf_model.specs.Network.{IsLegalNetwork, Network}
use Rattle.cqf_model.specs.Run.{Run}
use Rattle.cqf_model.specs.Policing.{Carried, Policed, policed_before}
use Rattle.cqf_model.proofs.Coming.{policed_front}
use Rattle.cqf_model.proofs.Drops.{dropped_at, drops_at}
use Rattle.cqf_model.proofs.Sending.{backed_in_run, sent_in_run}
use Rattle.cqf_laws_network.specs.PortLaws.{LegalPartIsLegalForTheSamePast}
use Rattle.cqf_laws_network.specs.NetworkLaws.{HaveOnePast, IsShorter, backed_before, book_before_cycle, carried_before, drops_before_cycle, network_before}
use Rattle.cqf_laws_network.specs.NetworkLaws.{starts_before_cycle, with_tables}
use Rattle.cqf_laws_network.proofs.Came.{bridges_by_past}
use Rattle.cqf_laws_network.proofs.Networks.{beginning, sent_before_less}

-- the starts of one kind, for any form of a book's entries that has the cycle
module _ {A : Type 0} (at : A → ℕ) (by : ℕ → ℕ → A → Started) (bears : (cycle link : ℕ) (x : A) → (by cycle link x).cycle.0 ≡ cycle) (d : Domain) where
  -- what the links send in a cycle, by link
  abbrev of_cycle : (ℕ → List A) → ℕ → ℕ → List Started
  of_cycle sends cycle link = map (by cycle link) (filter (λ x. cycle_of d (at x) == cycle) (sends link))

  -- what they send in each of the cycles
  abbrev of_run : ℕ → (ℕ → List A) → List Started
  of_run cycles sends = each_below (λ cycle. each_below (of_cycle sends cycle) (length d.links)) cycles

  -- the starts of a cycle have that cycle
  start_cycle : (sends : ℕ → List A) (cycle : ℕ) (x : Started) → Contains (each_below (of_cycle sends cycle) (length d.links)) x → x.cycle.0 ≡ cycle
  start_cycle sends cycle x h =
      let w = contains_from_below (of_cycle sends cycle) (length d.links) x h in
      let s = contains_from_map (by cycle w.0) (filter (λ x. cycle_of d (at x) == cycle) (sends w.0)) x w.2 in
      sym (ap (λ (y : Started). y.cycle.0) s.2) ∙ bears cycle w.0 s.0

  -- so the starts of the first cycles are those of what is sent before their end
  pub starts_beginning : (cycles longer : ℕ) (sends : ℕ → List A) → cycles ≤ longer →
      ((l : ℕ) → l < length d.links → (x : A) → Contains (sends l) x → at x < longer * d.cycle_time) →
      starts_before_cycle cycles (of_run longer sends) ≡ of_run cycles (λ l. filter (λ x. nat_lt (at x) (cycles * d.cycle_time)) (sends l))
  starts_beginning cycles longer sends le within =
      let links = length d.links in
      let end = cycles * d.cycle_time in
      let early = λ (x : A). nat_lt (at x) end in
      let each = λ (cycle : ℕ). each_below (of_cycle sends cycle) links in
      let short : ℕ → List A = λ l. filter early (sends l) in
      filter_front (λ (x : Started). nat_lt x.cycle.0 cycles) each cycles longer le
      (λ k x l h. lt-ltb x.cycle.0 cycles (omega (arith, start_cycle sends k x h, l)))
      (λ k x l h. le-ltb x.cycle.0 cycles (omega (arith, start_cycle sends k x h, l)))
      ∙ same_below each (λ cycle. each_below (of_cycle short cycle) links) cycles (λ cycle k.
      same_below (of_cycle sends cycle) (of_cycle short cycle) links (λ l h.
      ap (map (by cycle l)) (filter_weaker (λ x. cycle_of d (at x) == cycle) early (sends l) (λ x m e.
      let some = takes_time d.cycle_time (at x) longer (within l h x m) in
      lt-ltb (at x) end (before_cycle d.cycle_time (at x) cycle cycles some (eqb-true (cycle_of d (at x)) cycle e) k)))))

-- the drops of a cycle have that cycle
drop_cycle : (d : Domain) (indices : ℕ) (policed : ℕ → List Policed) (cycle bridges : ℕ) (x : Dropped) →
    Contains (each_below (drops_in d indices policed cycle) bridges) x → x.cycle.0 ≡ cycle
drop_cycle d indices policed cycle bridges x h =
    let w = contains_from_below (drops_in d indices policed cycle) bridges x h in
    sym (ap (λ (y : Dropped). y.cycle.0) (dropped_at d indices policed cycle w.0 x w.2).is)

module _ (run : Run) (others : List (List Row)) (lists : ℕ → List Entry) (cycles longer : ℕ) (net : Network)
    (shorter : IsShorter cycles longer run.tables others) (legal : IsLegalNetwork run lists longer net) where
  -- what the shorter run's links carry
  abbrev short : Carried
  short = carried_before (cycles * run.domain.cycle_time) net.carried

  -- the verdicts at a bridge over the longer run
  abbrev policed : ℕ → List Policed
  policed bridge = policed_before run net.carried bridge (longer * run.domain.cycle_time)

  -- and over the shorter one
  abbrev policed_short : ℕ → List Policed
  policed_short bridge = policed_before (with_tables run others) short bridge (cycles * run.domain.cycle_time)

  -- the shorter run has the same past
  one_past : HaveOnePast run others net.carried short cycles
  one_past =
      let n = cycles * run.domain.cycle_time in
      record { tables = shorter.tables_same; links = λ l h. sym (sent_before_less n n (net.carried l) (omega arith)) }

  -- in a cycle of the shorter run the frames at a bridge come before its end
  filter_same : (bridge cycle index : ℕ) → cycle < cycles →
      filter (is_of_index run.domain cycle index) (policed bridge) ≡ filter (is_of_index run.domain cycle index) (policed_short bridge)
  filter_same bridge cycle index k =
      let d = run.domain in
      let n = cycles * d.cycle_time in
      let m = longer * d.cycle_time in
      let test = is_of_index d cycle index in
      let front = policed_before run net.carried bridge n in
      let f = policed_front run net.carried bridge n m (mul-le-mul_right d.cycle_time shorter.fewer) in
      let later : (p : Policed) → Contains f.rest p → test p ≡ false =
      λ p h. let late = f.late p h in
      let after : cycles ≤ cycle_of d p.received.at = le-div cycles p.received.at d.cycle_time (takes_time d.cycle_time p.received.at longer late.1) late.0 in
      and_left (cycle_of d p.received.at == cycle) (p.received.frame == index + 1)
      (ne_eqb (cycle_of d p.received.at) cycle (λ e. omega (arith, e, after, k))) in
      ap (filter test) f.is ∙ filter-append test front f.rest ∙ ap (λ (ps : List Policed). filter test front ++ ps) (filter_none test f.rest later)
      ∙ append-nil (filter test front)
      ∙ ap (filter test) (bridges_by_past run others net.carried short cycles bridge one_past)

  -- so its drops are the beginning
  drops_beginning : drops_before_cycle cycles (drops_of run.domain longer (length run.offers) policed) ≡ drops_of run.domain cycles
      (length run.offers) policed_short
  drops_beginning =
      let d = run.domain in
      let bridges = length d.bridges in
      let indices = length run.offers in
      let each = λ (cycle : ℕ). each_below (drops_in d indices policed cycle) bridges in
      let each_short = λ (cycle : ℕ). each_below (drops_in d indices policed_short cycle) bridges in
      filter_front (λ (x : Dropped). nat_lt x.cycle.0 cycles) each cycles longer shorter.fewer
      (λ k x l h. lt-ltb x.cycle.0 cycles (omega (arith, drop_cycle d indices policed k bridges x h, l)))
      (λ k x l h. le-ltb x.cycle.0 cycles (omega (arith, drop_cycle d indices policed k bridges x h, l)))
      ∙ same_below each each_short cycles (λ cycle k. same_below (drops_in d indices policed cycle) (drops_in d indices policed_short cycle) bridges (λ bridge h.
      same_below (drops_at d policed cycle bridge) (drops_at d policed_short cycle bridge) indices (λ index g.
      ap (flat_map (λ (p : Policed). drop_by cycle bridge p.received p.verdict)) (filter_same bridge cycle index k))))

  -- and so are its starts of streams' frames
  sent_beginning : starts_before_cycle cycles (starts_of run.domain longer net.carried) ≡ starts_of run.domain cycles short
  sent_beginning =
      starts_beginning (λ (sent : Sent). sent.start.0) started (λ cycle link x. refl) run.domain cycles longer net.carried shorter.fewer
      (λ l h. sent_in_run run lists longer net legal l)

  -- and of background frames
  background_beginning : starts_before_cycle cycles (background_of run.domain longer net.backed) ≡ background_of run.domain cycles
      (λ l. backed_before (cycles * run.domain.cycle_time) (net.backed l))
  background_beginning =
      starts_beginning (λ (start : Start). start.start.0) started_backed (λ cycle link x. refl) run.domain cycles longer net.backed shorter.fewer
      (λ l h. backed_in_run run lists longer net legal l)

-- the book of a shorter run
pub book_beginning : LegalPartIsLegalForTheSamePast → (run : Run) (others : List (List Row)) (lists : ℕ → List Entry) (cycles longer : ℕ) (book : Contents) →
    IsShorter cycles longer run.tables others → IsBook run lists longer book → IsBook (with_tables run others) lists cycles (book_before_cycle cycles book)
book_beginning part run others lists cycles longer book shorter is =
    record {
      net = network_before (cycles * run.domain.cycle_time) is.net;
      legal = beginning run lists cycles part others longer is.net shorter is.legal;
      are_starts = ap (starts_before_cycle cycles) is.are_starts ∙ sent_beginning run others lists cycles longer is.net shorter is.legal;
      are_background = ap (starts_before_cycle cycles) is.are_background ∙ background_beginning run others lists cycles longer is.net shorter is.legal;
      are_drops = ap (drops_before_cycle cycles) is.are_drops ∙ drops_beginning run others lists cycles longer is.net shorter is.legal;
    }

-- what a book of a legal network says
abbrev pub book_of : Run → ℕ → Network → Contents
book_of run cycles net = record {
  starts = starts_of run.domain cycles net.carried;
  background = background_of run.domain cycles net.backed;
  drops = drops_of run.domain cycles (length run.offers) (λ bridge. policed_before run net.carried bridge (cycles * run.domain.cycle_time));
}

-- a book is what the book of its network says
pub is_book_of : (run : Run) (lists : ℕ → List Entry) (cycles : ℕ) (book : Contents) (is : IsBook run lists cycles book) → book ≡ book_of run cycles is.net
is_book_of run lists cycles book is i = record { starts = is.are_starts i; background = is.are_background i; drops = is.are_drops i }
