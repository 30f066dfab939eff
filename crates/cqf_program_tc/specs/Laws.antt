-- The lists of the script are the compiled ones, and begin anew together.
use Rattle.std.specs.Prelude.{ℕ, ◌≡◌, ◌+◌, ◌-◌, ◌*◌, ◌%◌, ◌^◌, ◌≤◌, ◌<◌, Contains, List, Some, Ok, if◌then◌else◌, slice_get}
use Rattle.std.specs.Option.{option_map_or}
use Rattle.cqf_compile.specs.BridgeGates.{gate_at}
use Rattle.cqf_admission.specs.ActiveCycles.{AreOfGoodPaces, IsGoodPace}
use Rattle.cqf_gates.specs.ReservedSpans.{reserved_spans}
use Rattle.cqf_model.specs.declared.topology.Pace.{Pace}
use Rattle.cqf_model.specs.declared.topology.Row.{Row}
use Rattle.cqf_model.specs.declared.topology.Link.{Link}
use Rattle.cqf_model.specs.Domain.{Domain, IsAccepted, guard_by}
use Rattle.cqf_model.specs.GateList.{port_list}
use Rattle.cqf_model.specs.Limits.{most_reserved}
use Rattle.cqf_model.specs.Network.{compiled_lists}
use Rattle.cqf_model.specs.StreamGate.{gate_cycles}
use Rattle.cqf_program_tc.specs.Bridge.{has_own_guard}
use Rattle.cqf_program_tc.specs.Text.{common_words, rounds_in}
use Rattle.cqf_program_tc.specs.Words.{gate_of_words, gate_words, list_words, tx_of_words, tx_words}

-- the words that the function of a port has for a link: those of the call if the link has a guard band of its own, and else the function's
-- own
abbrev pub words_by : Domain → Link → List ℕ
words_by d link = if has_own_guard link then tx_words (port_list d.cycle_time (guard_by d.guard link)) else common_words d

abbrev pub words_for : Domain → ℕ → List ℕ
words_for d l = option_map_or (words_by d) (slice_get d.links l) (common_words d)

-- the words of lists read back. Those of a port are read as the list to which the port is compiled. Those of the function of stream gates,
-- if the fifth parameter is a reservation's octets, are read as the list to which the gate of a stream that is offered in each cycle is
-- compiled, at every hop number. Those that a stream of another pace gives are read as the list to which its gate at a bridge is compiled
pub record ScriptListsReadBack (d : Domain) : Type 0 where
  pub ports : (l : ℕ) → tx_of_words (words_for d l) ≡ Some (Ok (compiled_lists d l))
  pub gates : (octets hop_number : ℕ) (pace : Pace) → pace.pause ≡ 0 → gate_of_words octets (gate_words d.cycle_time) ≡ Some (reserved_spans d.cycle_time octets pace hop_number)
  pub lists : (row : Row) (bridge octets : ℕ) → IsGoodPace row.pace → 0 < row.octets → row.octets ≤ most_reserved →
      gate_of_words octets (list_words (gate_at d row bridge)) ≡ Some (gate_at d row bridge)

abbrev pub ScriptsHoldTheLists : Type 0
ScriptsHoldTheLists = (d : Domain) → IsAccepted d → ScriptListsReadBack d

-- at the instant at which a script begins its lists, all of them begin anew: the cycles of each stream's gate divide the cycles after which
-- all lists begin anew, and so do the two of a port's list
pub record AllBeginAnew (rows : List Row) : Type 0 where
  pub gates : (row : Row) → Contains rows row → rounds_in rows % gate_cycles row.pace ≡ 0
  pub ports : rounds_in rows % 2 ≡ 0

abbrev pub ListsBeginAnew : Type 0
ListsBeginAnew = (rows : List Row) → AreOfGoodPaces rows → AllBeginAnew rows

-- the instant that a script computes from BASE, if its lists begin anew after this number of nanoseconds
abbrev pub begins_from : ℕ → ℕ → ℕ
begins_from round base = base + (round - base % round) % round

-- the instant is a multiple, not before BASE and less than one round after it; and it is below 2^63
pub record IsNextMultiple (round base : ℕ) : Type 0 where
  pub multiple : begins_from round base % round ≡ 0
  pub since : base ≤ begins_from round base
  pub soon : begins_from round base < base + round
  pub fits : begins_from round base < 2 ^ 63

abbrev pub InstantsFit : Type 0
InstantsFit = (d : Domain) (rows : List Row) (base : ℕ) → IsAccepted d → base < 9000000000000000000 → IsNextMultiple (rounds_in rows * d.cycle_time) base
