-- Gate lists as words of `tc`, and how these words are read (after man tc-taprio and man tc-gate).
use Rattle.std.specs.Prelude.{ℕ, ◌++◌, ◌==◌, ◌&&◌, List, [], ◌∷◌, Option, Some, None, Result, codes, decimal, drop, if◌then◌else◌, option_map}
use Rattle.std.specs.Option.{option_and_then}
use Rattle.cqf_text.specs.Decimal.{decimal_value}
use Rattle.cqf_model.specs.declared.gates.StreamEntry.{StreamEntry}
use Rattle.cqf_model.specs.Domain.{is_text}
use Rattle.cqf_model.specs.GateList.{Entry}
use Rattle.cqf_gates.specs.declared.faults.TextFault.{TextFault}
use Rattle.cqf_gates.specs.GateListText.{line_of_gates}
use Rattle.cqf_gates.specs.StreamText.{is_shut}
use Rattle.cqf_gates.specs.TxText.{list_of_text}

-- the list of a port: for each entry its states in hexadecimal, in which bit k is class k, and its interval in nanoseconds, as `sched-entry
-- S BF 120000`
abbrev pub tx_words : List Entry → List ℕ
tx_words [] = []
tx_words (entry ∷ entries) = codes " sched-entry S " ++ (line_of_gates entry ++ tx_words entries)

-- the list of a stream's gate: for each cycle its length in nanoseconds, the internal priority value, and as octets the fifth parameter of
-- the function that contains the words
abbrev pub gate_words : ℕ → List ℕ
gate_words cycle_time =
    codes " sched-entry open " ++ (decimal cycle_time ++ (codes " 6 \"$5\" sched-entry open " ++ (decimal cycle_time ++ codes " 7 \"$5\"")))

-- a list given entry by entry: `sched-entry open` or `close`, the interval in nanoseconds, the internal priority value and the octets. Both
-- of the latter are -1 if nothing passes, and the octets are -1 if there is no limit
abbrev pub octets_word : Option ℕ → List ℕ
octets_word None = codes "-1"
octets_word (Some most) = decimal most

abbrev pub open_words : StreamEntry → List ℕ
open_words entry =
    codes " sched-entry open " ++ (decimal entry.interval ++ (codes " " ++ (decimal entry.ipv ++ (codes " " ++ octets_word entry.octet_max))))

abbrev pub closed_words : ℕ → List ℕ
closed_words interval = codes " sched-entry close " ++ (decimal interval ++ codes " -1 -1")

abbrev pub entry_words : StreamEntry → List ℕ
entry_words entry = if is_shut entry.octet_max then closed_words entry.interval else open_words entry

abbrev pub list_words : List StreamEntry → List ℕ
list_words [] = []
list_words (entry ∷ entries) = entry_words entry ++ list_words entries

-- the words of a text, separated by spaces
abbrev pub in_front : ℕ → List (List ℕ) → List (List ℕ)
in_front byte [] = (byte ∷ []) ∷ []
in_front byte (word ∷ words) = (byte ∷ word) ∷ words

abbrev pub parted : List ℕ → List (List ℕ)
parted [] = [] ∷ []
parted (byte ∷ text) = if byte == 32 then [] ∷ parted text else in_front byte (parted text)

-- the words of a text with a space before each
abbrev pub words_of_tc : List ℕ → List (List ℕ)
words_of_tc text = drop 1 (parted text)

-- the gate list of a port as written in lines, from words for its entries; no other words give one
abbrev pub lines_of_words : List (List ℕ) → Option (List ℕ)
lines_of_words [] = Some []
lines_of_words (word ∷ command ∷ states ∷ interval ∷ words) =
    if is_text word (codes "sched-entry") && is_text command (codes "S")
    then option_map (λ (lines : List ℕ). states ++ 32 ∷ (interval ++ 10 ∷ lines)) (lines_of_words words)
    else None
lines_of_words _ = None

-- the list as which words of `tc` are read, or the fault of that list
abbrev pub tx_of_words : List ℕ → Option (Result (List Entry) TextFault)
tx_of_words text = option_map list_of_text (lines_of_words (words_of_tc text))

-- octets, either as the fifth parameter or as a number
abbrev pub octets_of_word : ℕ → List ℕ → Option ℕ
octets_of_word octets word = if is_text word (codes "\"$5\"") then Some octets else decimal_value word

-- an entry of a stream's gate from words, if the fifth parameter is this number of octets
abbrev pub gate_entry : ℕ → List ℕ → List ℕ → List ℕ → Option StreamEntry
gate_entry octets interval ipv most =
    option_and_then (λ (time : ℕ). option_and_then (λ (value : ℕ). option_map (λ (limit : ℕ). record { ipv = value; interval = time; octet_max = Some limit })
    (octets_of_word octets most)) (decimal_value ipv)) (decimal_value interval)

-- an entry in which nothing passes
abbrev pub shut_for : List ℕ → Option StreamEntry
shut_for interval = option_map (λ (time : ℕ). record { ipv = 6; interval = time; octet_max = Some 0 }) (decimal_value interval)

-- the entry for a state: `open`, or `close`, which has no class and no octets
abbrev pub entry_of_state : ℕ → List ℕ → List ℕ → List ℕ → List ℕ → Option StreamEntry
entry_of_state octets state interval ipv most =
    if is_text state (codes "open") then gate_entry octets interval ipv most
    else (if is_text state (codes "close") && is_text ipv (codes "-1") && is_text most (codes "-1") then shut_for interval else None)

-- an entry before others, if all are there
abbrev pub before_others : Option StreamEntry → Option (List StreamEntry) → Option (List StreamEntry)
before_others entry others = option_and_then (λ (first : StreamEntry). option_map (λ (rest : List StreamEntry). first ∷ rest) others) entry

-- the list of a stream's gate from words, if the fifth parameter is this number of octets; no other words give one
abbrev pub gate_of_parts : ℕ → List (List ℕ) → Option (List StreamEntry)
gate_of_parts octets [] = Some []
gate_of_parts octets (word ∷ state ∷ interval ∷ ipv ∷ most ∷ words) =
    if is_text word (codes "sched-entry") then before_others (entry_of_state octets state interval ipv most) (gate_of_parts octets words) else None
gate_of_parts octets _ = None

abbrev pub gate_of_words : ℕ → List ℕ → Option (List StreamEntry)
gate_of_words octets text = gate_of_parts octets (words_of_tc text)
