-- The result of the command `port` for its input: the starts before an instant, or the line of the input's first fault.
use Rattle.std.specs.Prelude.{ℕ, ◌≡◌, ◌<◌, ◌≤◌, ◌^◌, List, map, Result, Ok, All, AllPairs, codes}
use Rattle.cqf_units.specs.Timing.{ticks_of_octet}
use Rattle.cqf_units.specs.declared.timing.Rate.{Rate}
use Rattle.cqf_model.specs.GateList.{Entry}
use Rattle.cqf_model.specs.Port.{PortRules, Transmission, AreLegal}
use Rattle.cqf_model.specs.declared.ports.Arrival.{Arrival}
use Rattle.cqf_text.specs.Parts.{parts_of}
use Rattle.cqf_gates.specs.TxText.{list_of_text}
use Rattle.cqf_port.specs.PortState.{rules_of, start_of}
use Rattle.cqf_report.specs.Arrivals.{arrivals_of_table}
use Rattle.cqf_report.specs.Starts.{text_of_starts}
use Rattle.cqf_lists.specs.Results.{and_then}
use Rattle.cqf_gates.specs.Faults.{text_fault_text}
use Rattle.cqf_gates.specs.declared.faults.TextFault.{TextFault}
use Rattle.cqf_program_scenario.specs.Parts.{two_parts}
use Rattle.cqf_report.specs.Faults.{table_fault_text}
use Rattle.cqf_report.specs.declared.tables.TableFault.{TableFault}
use Rattle.cqf_output.specs.Stops.{fault_line, or_line}

-- the line for a gate list that is refused
abbrev pub list_line : TextFault → List ℕ
list_line fault = fault_line (codes "list") (text_fault_text fault)

-- the line for arrivals that are refused
abbrev pub arrivals_line : TableFault → List ℕ
arrivals_line fault = fault_line (codes "arrivals") (table_fault_text fault)

-- the gate list and the arrivals of an input, or the line of the first fault: of the parts, then of the list, then of the arrivals
abbrev pub port_input : List ℕ → Result (List Entry × List Arrival) (List ℕ)
port_input input = and_then (two_parts (parts_of input)) (λ parts.
    and_then (or_line list_line (list_of_text parts.0)) (λ entries.
    and_then (or_line arrivals_line (arrivals_of_table parts.1)) (λ arrivals. Ok (entries, arrivals))))

-- the arrivals can be offered to a port that hasn't run: each has a traffic class and is early enough, and they are in order of instant
pub record AreOfferable (arrivals : List Arrival) : Type 0 where
  pub classes : All (λ (arrival : Arrival). arrival.class < 8) arrivals
  pub early : All (λ (arrival : Arrival). arrival.at.0 < 2 ^ 62) arrivals
  pub in_order : AllPairs (λ (a b : Arrival). a.at.0 ≤ b.at.0) arrivals

-- the text is that of the legal starts before the instant, and there are no other legal starts
pub record IsStartsText (rules : PortRules) (arrivals : List Arrival) (until : ℕ) (rate : Rate) (text : List ℕ) : Type 0 where
  pub starts : List Transmission
  pub legal : AreLegal rules arrivals until starts
  pub only : (others : List Transmission) → AreLegal rules arrivals until others → others ≡ starts
  pub written : text ≡ text_of_starts (ticks_of_octet rate) (map (start_of arrivals) starts)

-- the output is the text of the only legal starts before the instant, for the input's gate list and arrivals
pub record IsPortOutput (until : ℕ) (rate : Rate) (input output : List ℕ) : Type 0 where
  pub entries : List Entry
  pub arrivals : List Arrival
  pub holds : port_input input ≡ Ok (entries, arrivals)
  pub text : IsStartsText (rules_of entries rate) arrivals until rate output
