-- A run goes on cycle by cycle.
use Rattle.cqf_model.proofs.Links.{guard_within}
use Rattle.std.proofs.Common.{◌≡◌, ℕ, ◌+◌, ◌*◌, ◌/◌, ◌<◌, ◌≤◌, List, sym, refl, ap, ◌∙◌, arith, subst, true, eqb-true, Contains}
use Rattle.std.specs.Prelude.{[], ◌++◌, ◌==◌, nat_lt, zero, suc}
use Rattle.std.proofs.Math.Nat.{mul-le-mul_right}
use Rattle.std.proofs.lemmas.Bool.{lt-ltb, ltb-true}
use Rattle.std.proofs.lemmas.List.{append-nil}
use Rattle.cqf_lists.specs.Lists.{each_below}
use Rattle.cqf_lists.proofs.EachBelow.{contains_below, contains_from_below, filter_each}
use Rattle.cqf_lists.proofs.Filters.{filter_weaker}
use Rattle.cqf_lists.proofs.Members.{contains_none}
use Rattle.cqf_units.proofs.Cycles.{before_cycle, takes_time}
use Rattle.cqf_model.specs.declared.frames.Sent.{Sent}
use Rattle.cqf_model.specs.declared.ports.Start.{Start}
use Rattle.cqf_model.specs.declared.topology.Row.{Row}
use Rattle.cqf_model.specs.Book.{backed_batch, batch}
use Rattle.cqf_model.specs.Domain.{cycle_of, guard_of, octet_time_of}
use Rattle.cqf_model.specs.GateList.{Entry}
use Rattle.cqf_model.specs.Network.{IsLegalNetwork, IsLost, Network, QueuedFrame, Sends, arrivals_of, backed_in, comes_before, compiled_lists}
use Rattle.cqf_model.specs.Port.{AreLegal, PortRules}
use Rattle.cqf_model.specs.Run.{Run}
use Rattle.cqf_model.specs.Policing.{Carried, Policed, policed_before}
use Rattle.cqf_model.proofs.Coming.{backed_in_late}
use Rattle.cqf_model.proofs.Legal.{none_at_0}
use Rattle.cqf_model.proofs.Sending.{backed_in_run, backed_within, sent_in_run, sent_within}
use Rattle.cqf_laws_network.specs.PortLaws.{LateArrivalChangesNothing, LegalStartsExist}
use Rattle.cqf_laws_network.specs.NetworkLaws.{BeginningIsLegal, BridgesGoByThePast, CarryTheSame, HaveOnePast, HaveTheSameTables, IsShorter, backed_before}
use Rattle.cqf_laws_network.specs.NetworkLaws.{PortGoesByThePast, PortsGetThePast, Sending, ShorterRunIsTheBeginning, network_before, sent_before, with_tables}
use Rattle.cqf_laws_cycle.specs.Compiled.{GateGivesClass, PortListIsOpen}
use Rattle.cqf_laws_cycle.specs.BridgeCycle.{IsCompiledNetwork, policed_of}
use Rattle.cqf_laws_cycle.specs.PortCycle.{waits_in}
use Rattle.cqf_laws_cycle.specs.RunSteps.{IsLostIn, KeepsItsCycles, SendsOneMore, silence}
use Rattle.cqf_laws_cycle.proofs.Continued.{goes_on}
use Rattle.cqf_laws_cycle.proofs.PortCycles.{sends_of_all, sends_of_before}

-- so a run of no cycles begins with nothing
pub begins : LegalStartsExist → (run : Run) (lists : ℕ → List Entry) → IsLegalNetwork run lists 0 silence
begins exist run lists =
    record {
      sends = λ l h.
          let end = 0 * run.domain.cycle_time in
          let rules : PortRules = record { entries = lists l; octet_time = octet_time_of run.domain l } in
          let arrivals = arrivals_of (comes_before run silence.carried l 0) in
          let w = exist rules arrivals end in
          record {
            starts = [];
            legal = subst (AreLegal rules arrivals end) (none_at_0 rules arrivals end w.0 (omega arith) w.1) w.1;
            are_sent = refl;
            are_backed = refl;
          };
      no_others = λ l g. (refl, refl);
    }

-- with one more cycle it is legal again
pub run_goes_on : PortGoesByThePast → PortsGetThePast → LateArrivalChangesNothing → GateGivesClass → PortListIsOpen →
    (run : Run) (cycles : ℕ) (net more : Network) → ((l : ℕ) → guard_of run.domain l < run.domain.cycle_time) → IsLegalNetwork run (compiled_lists run.domain) cycles net →
    SendsOneMore run cycles net more → IsLegalNetwork run (compiled_lists run.domain) (cycles + 1) more
run_goes_on port ports late gives opens run cycles net more short legal one_more =
    let d = run.domain in
    let first = cycles * d.cycle_time in
    let last = (cycles + 1) * d.cycle_time in
    let alike : CarryTheSame d first net.carried more.carried =
    λ l h. (let came = comes_before run net.carried l cycles in
    let own = backed_in d run.background l cycles in
    let so_far : Sending d (compiled_lists d l) l (came ++ []) =
    record {
      end = first;
      sents = net.carried l;
      backed = net.backed l;
      sends =
          subst (λ (xs : List QueuedFrame). Sends d (compiled_lists d l) first l xs (net.carried l) (net.backed l)) (sym (append-nil came)) (legal.sends l h);
    } in
    let on : Sending d (compiled_lists d l) l (came ++ own) =
    record { end = last; sents = more.carried l; backed = more.backed l; sends = one_more.sends l h } in
    (port d (compiled_lists d l) l first came [] own (λ x c. absurd (contains_none x c)) (backed_in_late d run.background l cycles) so_far on (omega arith)
    (omega arith)).sent) in
    let past : HaveOnePast run run.tables net.carried more.carried cycles = record { tables = λ c k. refl; links = alike } in
    record {
      sends = λ l h.
          let same : waits_in run net.carried l cycles ≡ waits_in run more.carried l cycles =
          ap (λ (xs : List QueuedFrame). xs ++ backed_in d run.background l cycles) (ports run run.tables net.carried more.carried cycles l past) in
          sends_of_all late gives opens run more.carried cycles l (more.carried l) (more.backed l) (short l) h
          (subst (λ (xs : List QueuedFrame). Sends d (compiled_lists d l) last l xs (more.carried l) (more.backed l)) same (one_more.sends l h));
      no_others = one_more.no_others;
    }

-- if something happens within a longer run, in a cycle of the shorter one, it happens before that one's end
early : (t cycle cycles longer cycle_time : ℕ) → t < longer * cycle_time → cycle < cycles → (t / cycle_time == cycle) ≡ true →
    nat_lt t (cycles * cycle_time) ≡ true
early t cycle cycles longer cycle_time within k e =
    lt-ltb t (cycles * cycle_time) (before_cycle cycle_time t cycle cycles (takes_time cycle_time t longer within) (eqb-true (t / cycle_time) cycle e) k)

-- the beginning of a run sends the same in its cycles
module _ (run : Run) (lists : ℕ → List Entry) (cycles longer : ℕ) (net : Network) (legal : IsLegalNetwork run lists longer net) where
  -- the batches of the first cycles are those of the run's beginning
  batch_kept : (l cycle : ℕ) → cycle < cycles →
      batch run.domain net.carried l cycle ≡ batch run.domain (network_before (cycles * run.domain.cycle_time) net).carried l cycle
  batch_kept l cycle k =
      filter_weaker (λ (sent : Sent). cycle_of run.domain sent.start.0 == cycle) (λ (sent : Sent). nat_lt sent.start.0 (cycles * run.domain.cycle_time))
      (net.carried l)
      (λ x m e. early x.start.0 cycle cycles longer run.domain.cycle_time (sent_in_run run lists longer net legal l x m) k e)

  -- those of background frames too
  background_kept : (l cycle : ℕ) → cycle < cycles →
      backed_batch run.domain net.backed l cycle ≡ backed_batch run.domain (network_before (cycles * run.domain.cycle_time) net).backed l cycle
  background_kept l cycle k =
      filter_weaker (λ (start : Start). cycle_of run.domain start.start.0 == cycle) (λ (start : Start). nat_lt start.start.0 (cycles * run.domain.cycle_time))
      (net.backed l)
      (λ x m e. early x.start.0 cycle cycles longer run.domain.cycle_time (backed_in_run run lists longer net legal l x m) k e)

-- what is sent before an instant, among what is sent before a later one
sent_before_less : (t n : ℕ) (sents : List Sent) → t ≤ n → sent_before t sents ≡ sent_before t (sent_before n sents)
sent_before_less t n sents le =
    filter_weaker (λ (sent : Sent). nat_lt sent.start.0 t) (λ (sent : Sent). nat_lt sent.start.0 n) sents
    (λ sent c h. lt-ltb sent.start.0 n (omega (arith, le, ltb-true sent.start.0 t h)))

-- the last table of a run waits
pub last_table_waits : BeginningIsLegal → PortGoesByThePast → PortsGetThePast → LateArrivalChangesNothing → GateGivesClass → PortListIsOpen →
    (run : Run) (others : List (List Row)) (cycles : ℕ) (net : Network) → HaveTheSameTables cycles run.tables others → IsCompiledNetwork run (cycles + 1) net →
    IsCompiledNetwork (with_tables run others) (cycles + 1) net
last_table_waits beginning port ports late gives opens run others cycles net same compiled =
    let d = run.domain in
    let other = with_tables run others in
    let first = cycles * d.cycle_time in
    let last = (cycles + 1) * d.cycle_time in
    let short = network_before first net in
    let shorter : IsShorter cycles (cycles + 1) run.tables others = record { fewer = omega arith; tables_same = same } in
    let past : HaveOnePast run others net.carried short.carried cycles =
    record { tables = same; links = λ l h. sent_before_less first first (net.carried l) (omega arith) } in
    let one_more : SendsOneMore other cycles short net =
    record {
      sends = λ l h.
          let queue = waits_in run net.carried l cycles in
          let waits : queue ≡ waits_in other short.carried l cycles =
          ap (λ (xs : List QueuedFrame). xs ++ backed_in d run.background l cycles) (ports run others net.carried short.carried cycles l past) in
          let came = comes_before run net.carried l (cycles + 1) in
          let own = compiled.legal.sends l h in
          let s = sends_of_before run (cycles + 1) cycles l net compiled (omega arith) h beginning ports gives opens in
          let all : sent_before last (net.carried l) ≡ net.carried l =
          filter_each (λ (sent : Sent). nat_lt sent.start.0 last) (net.carried l)
          (λ x c. lt-ltb x.start.0 last (sent_within d (compiled_lists d l) last l came (net.carried l) (net.backed l) own x c)) in
          let all_backed : backed_before last (net.backed l) ≡ net.backed l =
          filter_each (λ (start : Start). nat_lt start.start.0 last) (net.backed l)
          (λ x c. lt-ltb x.start.0 last (backed_within d (compiled_lists d l) last l came (net.carried l) (net.backed l) own x c)) in
          subst (λ (xs : List QueuedFrame). Sends d (compiled_lists d l) last l xs (net.carried l) (net.backed l)) waits
          (subst (λ (sents : List Sent). Sends d (compiled_lists d l) last l queue sents (net.backed l)) all
          (subst (λ (backed : List Start). Sends d (compiled_lists d l) last l queue (sent_before last (net.carried l)) backed) all_backed s));
      no_others = compiled.legal.no_others;
    } in
    record {
      accepted = compiled.accepted;
      legal = run_goes_on port ports late gives opens other cycles short net (λ l. guard_within run.domain l compiled.accepted)
          (beginning run others (compiled_lists d) cycles (cycles + 1) net shorter compiled.legal) one_more;
    }

-- a longer run keeps the cycles of a shorter one
pub cycles_kept : ShorterRunIsTheBeginning → BridgesGoByThePast → PortsGetThePast →
    (run : Run) (others : List (List Row)) (lists : ℕ → List Entry) (cycles longer : ℕ) (net more : Network) → IsShorter cycles longer run.tables others →
    IsLegalNetwork (with_tables run others) lists cycles net → IsLegalNetwork run lists longer more → KeepsItsCycles run others cycles net more
cycles_kept beginning bridges ports run others lists cycles longer net more shorter short legal =
    let d = run.domain in
    let end = cycles * d.cycle_time in
    let is : net ≡ network_before end more = beginning run others lists cycles longer more net shorter legal short in
    let past : (cycle : ℕ) → cycle ≤ cycles → HaveOnePast run others more.carried net.carried cycle =
    λ cycle k. (let upto : cycle * d.cycle_time ≤ end = mul-le-mul_right d.cycle_time k in
    record {
      tables = λ c h. shorter.tables_same c (omega (arith, h, k));
      links = λ l h. sent_before_less (cycle * d.cycle_time) end (more.carried l) upto
          ∙ sym (ap (λ (n : Network). sent_before (cycle * d.cycle_time) (n.carried l)) is);
    }) in
    record {
      sends = λ l cycle k. batch_kept run lists cycles longer more legal l cycle k ∙ sym (ap (λ (n : Network). batch d n.carried l cycle) is);
      sends_background = λ l cycle k. background_kept run lists cycles longer more legal l cycle k
          ∙ sym (ap (λ (n : Network). backed_batch d n.backed l cycle) is);
      takes = λ bridge cycle k. bridges run others more.carried net.carried cycle bridge (past cycle k);
      waits = λ l cycle k. ports run others more.carried net.carried cycle l (past cycle k);
    }

-- a run is its cycles
pub run_is_cycles : (run : Run) (carried : Carried) (bridge cycles : ℕ) →
    policed_before run carried bridge (cycles * run.domain.cycle_time) ≡ each_below (policed_of run carried bridge) cycles
run_is_cycles run carried bridge zero =
    let e : 0 * run.domain.cycle_time ≡ 0 = omega arith in ap (policed_before run carried bridge) e
run_is_cycles run carried bridge (suc cycles) =
    let e : suc cycles ≡ cycles + 1 = omega arith in
    ap (λ (n : ℕ). policed_before run carried bridge (n * run.domain.cycle_time)) e
    ∙ goes_on run carried bridge cycles
    ∙ ap (λ (ps : List Policed). ps ++ policed_of run carried bridge cycles) (run_is_cycles run carried bridge cycles)

-- what is lost in a run is lost in one of its cycles
pub lost_in_cycle : (run : Run) (carried : Carried) (cycles bridge : ℕ) (policed : Policed) → IsLost run carried cycles bridge policed →
    IsLostIn run carried cycles bridge policed
lost_in_cycle run carried cycles bridge policed x =
    let w = contains_from_below (policed_of run carried bridge) cycles policed
    (subst (λ (ps : List Policed). Contains ps policed) (run_is_cycles run carried bridge cycles) x.came) in
    record { cycle = w.0; within_run = w.1; came = w.2; lost = x.lost }

-- and conversely
pub lost_in_run : (run : Run) (carried : Carried) (cycles bridge : ℕ) (policed : Policed) → IsLostIn run carried cycles bridge policed →
    IsLost run carried cycles bridge policed
lost_in_run run carried cycles bridge policed x =
    record {
      came = subst (λ (ps : List Policed). Contains ps policed) (sym (run_is_cycles run carried bridge cycles))
          (contains_below (policed_of run carried bridge) cycles x.cycle policed x.within_run x.came);
      lost = x.lost;
    }
