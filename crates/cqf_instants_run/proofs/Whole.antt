-- The background frames that the ports start are those of the legal network of the run, in the order of a book.
use Rattle.std.proofs.Common.{◌≡◌, ℕ, ◌*◌, ◌/◌, ◌^◌, ◌<◌, ◌==◌, [], All, Contains, List, arith, sym, ap, ◌∙◌, subst}
use Rattle.std.proofs.Common.{refl, length, get_or, map, filter, eqb-true}
use Rattle.std.specs.List.Sorted.{IsNonDecreasingBy, IsPermutation, IsStableByKey}
use Rattle.std.specs.Ordering.{nat_cmp}
use Rattle.cqf_lists.specs.Lists.{each_below}
use Rattle.cqf_lists.proofs.EachBelow.{contains_from_below, filter_below, length-singles, same_below}
use Rattle.cqf_lists.proofs.Filters.{filter-map}
use Rattle.cqf_lists.proofs.Made.{map_same}
use Rattle.cqf_lists.proofs.Members.{all_from_members, contains_from_filter, contains_from_map}
use Rattle.cqf_lists.proofs.Sorted.{sorted_by_key}
use Rattle.cqf_units.proofs.Cycles.{cycle_below, cycle_is}
use Rattle.cqf_model.specs.declared.frames.Backed.{Backed}
use Rattle.cqf_model.specs.declared.frames.Background.{Background}
use Rattle.cqf_model.specs.declared.frames.Offer.{Offer}
use Rattle.cqf_model.specs.declared.frames.Started.{Started}
use Rattle.cqf_model.specs.declared.ports.Arrival.{Arrival}
use Rattle.cqf_model.specs.declared.ports.Start.{Start}
use Rattle.cqf_model.specs.Book.{background_in, background_of, started_backed, starts_of}
use Rattle.cqf_model.specs.Domain.{Domain, IsAccepted, cycle_of}
use Rattle.cqf_model.specs.History.{Recorded, table_at}
use Rattle.cqf_model.specs.HistoryBook.{run_of_history}
use Rattle.cqf_model.specs.Network.{Network, comes_before, compiled_lists}
use Rattle.cqf_model.specs.Run.{Run}
use Rattle.cqf_model.specs.Policing.{Carried}
use Rattle.cqf_model.proofs.Sending.{backed_in_run}
use Rattle.cqf_laws_cycle.specs.Compiled.{GateGivesClass}
use Rattle.cqf_laws_history.specs.HistoryLaws.{TablesAreOrderly}
use Rattle.cqf_laws_network.specs.NetworkLaws.{LegalNetworkExists}
use Rattle.cqf_laws_shift.specs.Run.{IsLegalRun}
use Rattle.cqf_instants_run.specs.Parts.{AreBackgroundOfHistory, AreStartsOfHistory}
use Rattle.cqf_instants_run.specs.Feeding.{AreFed, arrival_of_sent, fed, streams_fed_on}
use Rattle.cqf_instants_run.specs.Frames.{by_instant}
use Rattle.cqf_instants_run.specs.BackgroundStarts.{SomeStarts}
use Rattle.cqf_instants_run.specs.Sending.{Backs, PortStartsTheBackground, ReportsLinks, reported}
use Rattle.cqf_laws_coverage.proofs.InTurn.{IsInTurn, run_in_turn}
use Rattle.cqf_instants_run.proofs.Carried.{starts_on_links, streams_are}
use Rattle.cqf_instants_run.proofs.Comes.{backs_are, reported as reported_by_class}

-- the cycle of a start
abbrev pub cycle_in : Started → ℕ
cycle_in x = x.cycle.0

-- a start of any cycle
of_cycle : ℕ → Started
of_cycle n = record { cycle = record { 0 = n }; link = 0; frame = 0; octets = 0; start = record { 0 = 0 } }

-- and that is its cycle
of_cycles : (n : ℕ) → cycle_in (of_cycle n) ≡ n
unfolding of_cycle
of_cycles n = refl

-- a stable sort by cycle
pub record SortsByCycle (before after : List Started) : Type 0 where
  pub moved : IsPermutation before after
  pub ascends : IsNonDecreasingBy cycle_in after
  pub stable : IsStableByKey cycle_in nat_cmp before after

module _ (d : Domain) (cycles : ℕ) (backed : ℕ → List Start) (before_end : (l : ℕ) (x : Start) → Contains (backed l) x →
    x.start.0 < cycles * d.cycle_time) where
  -- the starts of the links, by link
  abbrev by_link : List Started
  by_link = each_below (λ l. map (reported d.cycle_time l) (backed l)) (length d.links)

  -- each is in one of the cycles
  early : All (λ x. cycle_in x < cycles) by_link
  early = all_from_members (λ x. cycle_in x < cycles) by_link (λ x h.
      let w = contains_from_below (λ l. map (reported d.cycle_time l) (backed l)) (length d.links) x h in
      let s = contains_from_map (reported d.cycle_time w.0) (backed w.0) x w.2 in
      subst (λ (y : Started). cycle_in y < cycles) s.2 (cycle_below d.cycle_time s.0.start.0 cycles (before_end w.0 s.0 s.1)))

  -- those of a cycle on a link are the book's
  there : (cycle l : ℕ) → filter (λ x. cycle_in x == cycle) (map (reported d.cycle_time l) (backed l)) ≡ background_in d backed cycle l
  there cycle l =
      filter-map (reported d.cycle_time l) (λ x. cycle_in x == cycle) (backed l)
      ∙ map_same (reported d.cycle_time l) (started_backed cycle l) (filter (λ (s : Start). cycle_of d s.start.0 == cycle) (backed l))
      (λ s h. ap (λ (c : ℕ). started_backed c l s)
      (eqb-true (cycle_of d s.start.0) cycle (contains_from_filter (λ (x : Start). cycle_of d x.start.0 == cycle) (backed l) s h).1))

  -- so sorted by cycle they are the book's
  pub sorted_book : (sorted : List Started) → SortsByCycle by_link sorted → sorted ≡ background_of d cycles backed
  sorted_book sorted s =
      sorted_by_key cycle_in of_cycle of_cycles cycles by_link sorted s.moved s.ascends s.stable early
      ∙ same_below (λ cycle. filter (λ x. cycle_in x == cycle) by_link) (λ cycle. each_below (background_in d backed cycle) (length d.links)) cycles
      (λ cycle within. filter_below (λ x. cycle_in x == cycle) (λ l. map (reported d.cycle_time l) (backed l)) (length d.links)
      ∙ same_below (λ l. filter (λ x. cycle_in x == cycle) (map (reported d.cycle_time l) (backed l))) (background_in d backed cycle) (length d.links)
      (λ l inside. there cycle l))

-- what is made for a number of cycles, and its meaning
abbrev Means : Run → Network → List Started → List Backed → List (List Arrival) → List Started → List Started → ℕ → Type 0
Means run net starts frames lists listed sorted cycles =
    frames ≡ by_instant run.background (cycles * run.domain.cycle_time) → starts ≡ starts_of run.domain cycles net.carried →
    ReportsLinks run.domain (cycles * run.domain.cycle_time) (λ l. get_or lists l []) (length run.domain.links) listed →
    sorted ≡ background_of run.domain cycles net.backed

module _ (gives : GateGivesClass) (law : PortStartsTheBackground) (run : Run) (net : Network) (legal : IsLegalRun run net) (starts : List Started)
    (frames : List Backed) (lists : List (List Arrival)) (listed sorted : List Started) (given : AreFed frames starts (length run.domain.links) lists)
    (sorts : SortsByCycle listed sorted) where
  -- in a legal run they are its background starts
  means : Means run net starts frames lists listed sorted (length run.tables)
  means by are reports =
      let end = length run.tables * run.domain.cycle_time in
      let some : 0 < run.domain.cycle_time = omega (arith, legal.accepted.cycle_least) in
      let each : (l : ℕ) → l < length run.domain.links → Backs run.domain end l (get_or lists l []) (net.backed l) =
      λ l is_link.
      let comes = comes_before run net.carried l (length run.tables) in
      let streams : streams_fed_on l starts ≡ map (arrival_of_sent run.domain) (net.carried l) =
      ap (streams_fed_on l) are ∙ streams_are run.domain (length run.tables) net.carried some (run_in_turn run net legal) l is_link in
      let is = given.each l [] is_link ∙ ap (λ z. fed z (streams_fed_on l starts)) (sym (backs_are gives run net legal l frames by))
      ∙ ap (fed _) streams in
      subst (λ z. Backs run.domain end l z (net.backed l)) (sym is)
      (law run.domain end l comes (net.carried l) (net.backed l) legal.accepted is_link (reported_by_class gives run net legal l) (legal.legal.sends l is_link)) in
      sorted_book run.domain (length run.tables) net.backed (backed_in_run run (compiled_lists run.domain) (length run.tables) net legal.legal) sorted
      (subst (λ z. SortsByCycle z sorted) (reports net.backed each) sorts)

-- so they are the background starts of each history with these starts
pub background_is : (gives : GateGivesClass) (law : PortStartsTheBackground) (d : Domain) (cycles end links : ℕ) (starts : List Started)
    (background : List Background)
    (frames : List Backed) (lists : List (List Arrival)) (listed sorted : List Started) → end ≡ cycles * d.cycle_time → links ≡ length d.links →
    frames ≡ by_instant background end → AreFed frames starts links lists → (many : ℕ) → many ≡ length lists →
    ReportsLinks d end (λ l. get_or lists l []) many listed →
    SortsByCycle listed sorted → (entries : List Recorded) (offers : List Offer) → AreStartsOfHistory d entries offers background cycles starts →
    AreBackgroundOfHistory d entries offers background cycles sorted
background_is gives law d cycles end links starts background frames lists listed sorted end_is links_are by given many_lists lists_are reports
    sorts entries offers are net legal =
    let run = run_of_history d entries offers background cycles in
    let many : length run.tables ≡ cycles = length-singles (table_at d entries) cycles in
    let feeds = subst (λ k. AreFed frames starts k lists) links_are given in
    let one : Means run net starts frames lists listed sorted cycles =
    subst (Means run net starts frames lists listed sorted) many (means gives law run net legal starts frames lists listed sorted feeds sorts) in
    one (by ∙ ap (by_instant background) end_is) (are net legal)
    (subst (λ e. ReportsLinks d e (λ l. get_or lists l []) (length d.links) listed) end_is
    (subst (λ k. ReportsLinks d end (λ l. get_or lists l []) k listed) (lists_are ∙ feeds.one_each) reports))

-- starts that are those of a run
pub record AreOfRun (d : Domain) (cycles : ℕ) (starts : List Started) : Type 0 where
  pub carried : Carried
  pub in_turn : IsInTurn d cycles carried
  pub are : starts ≡ starts_of d cycles carried

-- starts of a history are such
pub some_run : TablesAreOrderly → LegalNetworkExists → (d : Domain) (cycles : ℕ) (starts : List Started) → IsAccepted d →
    SomeStarts d cycles starts → AreOfRun d cycles starts
some_run orderly exists d cycles starts accepted s =
    let run = run_of_history d s.entries s.offers s.background cycles in
    let found = exists run (compiled_lists d) (length run.tables) in
    let legal : IsLegalRun run found.0 = record {
      accepted = accepted;
      orderly = orderly d s.entries cycles s.legal s.sealed;
      offered = s.offered;
      background = s.following;
      legal = found.1;
    } in
    let many : length run.tables ≡ cycles = length-singles (table_at d s.entries) cycles in
    record {
      carried = found.0.carried;
      in_turn = subst (λ k. IsInTurn d k found.0.carried) many (run_in_turn run found.0 legal);
      are = s.are found.0 legal;
    }

-- each is on a link of the domain
pub on_links : (d : Domain) (cycles links : ℕ) (starts : List Started) → IsAccepted d → AreOfRun d cycles starts → links ≡ length d.links →
    All (λ (s : Started). s.link < links) starts
on_links d cycles links starts accepted r same =
    let some : 0 < d.cycle_time = omega (arith, accepted.cycle_least) in
    subst (λ k. All (λ (s : Started). s.link < k) starts) (sym same)
    (subst (λ z. All (λ (s : Started). s.link < length d.links) z) (sym r.are)
    (all_from_members (λ (s : Started). s.link < length d.links) (starts_of d cycles r.carried) (starts_on_links d cycles r.carried some r.in_turn)))

-- the cycle of a run's end has a number
pub end_fits : (cycles n end m : ℕ) → end ≡ cycles * n → 0 < n → cycles < 2 ^ 32 → m ≡ n → end / m < 2 ^ 32
end_fits cycles n end m is some few same =
    let at : end / m ≡ cycles = (λ i. is i / same i) ∙ cycle_is n cycles (cycles * n) (omega arith) (omega (arith, some)) in
    omega (arith, at, few)
