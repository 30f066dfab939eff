-- The list that the text of a port's gate list is read as.
use Rattle.std.specs.Prelude.{ℕ, List, Result, Ok, Err}
use Rattle.cqf_model.specs.GateList.{Entry}
use Rattle.cqf_gates.specs.GateListText.{entries_of_text}
use Rattle.cqf_gates.specs.declared.faults.ListFault.{ListFault}
use Rattle.cqf_gates.specs.declared.faults.TextFault.{TextFault}
use Rattle.cqf_gates.specs.declared.faults.TextFault.TheVariants.{BadLine, List as BadList}
use Rattle.cqf_gates.specs.TxList.{tx_list_of}

-- the result for entries as that for their text: a fault of the entries is a fault of the text
abbrev pub in_text : Result (List Entry) ListFault → Result (List Entry) TextFault
in_text (Ok entries) = Ok entries
in_text (Err fault) = Err (BadList fault)

-- the list of the entries that were read, or why there is none
abbrev pub list_of_entries : Result (List Entry) ℕ → Result (List Entry) TextFault
list_of_entries (Ok entries) = in_text (tx_list_of entries)
list_of_entries (Err line) = Err (BadLine line)

-- the list that a text denotes, one entry a line; or the number of its first bad line, counted from 1; or, if every line is good, the first
-- fault of its entries
abbrev pub list_of_text : List ℕ → Result (List Entry) TextFault
list_of_text text = list_of_entries (entries_of_text text)
