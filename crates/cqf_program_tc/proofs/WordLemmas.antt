-- The words of lists are read as the lists.
use Rattle.std.proofs.Common.{ℕ, ◌≡◌, ◌<◌, ◌+◌, ◌-◌, ◌^◌, ◌++◌, ◌==◌, ◌∙◌, ◌/◌, ◌%◌, ◌&&◌, Bool, true, false, not, cond}
use Rattle.std.proofs.Common.{suc, List, [], ◌∷◌, Some, Ok, All, ap, append_assoc, arith, codes, decimal, get_or, leb}
use Rattle.std.proofs.Common.{length, refl, slice_get, subst, sym, take, ◌*◌, ◌≤◌, None, Option, if◌then◌else◌, inl, inr, mod-lt}
use Rattle.std.specs.Option.{option_and_then, option_map_or, unwrap_or}
use Rattle.std.proofs.Math.Nat.{mod-one}
use Rattle.std.proofs.lemmas.Bool.{eqb-true}
use Rattle.std.proofs.lemmas.Nat.{mul-le}
use Rattle.std.specs.Prelude.{drop, is_some, option_map}
use Rattle.std.specs.Char.{is_ascii_digit}
use Rattle.std.specs.List.{list_all}
use Rattle.std.specs.Str.Parse.{digits_value}
use Rattle.std.proofs.lemmas.Bool.Decides.{nat_tests}
use Rattle.std.proofs.lemmas.Fmt.{decimal_nonempty, length-decimal-le, digits_decimal, digits_value-decimal}
use Rattle.std.proofs.lemmas.List.{append-nil, take_more}
use Rattle.std.proofs.lemmas.List.Elements.{All-cons, All-nil}
use Rattle.std.proofs.lemmas.Option.{slice_get_cases, slice_get_past}
use Rattle.std.proofs.lemmas.List.Sums.{AllPass-from_list_all, list_all-from_AllPass}
use Rattle.cqf_text.proofs.DecimalLemmas.{own}
use Rattle.cqf_text.specs.Decimal.{decimal_value, is_decimal}
use Rattle.cqf_model.specs.GateList.{Entry, port_list}
use Rattle.cqf_model.specs.declared.gates.StreamEntry.{StreamEntry}
use Rattle.cqf_model.specs.declared.topology.Link.{Link}
use Rattle.cqf_model.specs.declared.topology.Pace.{Pace}
use Rattle.cqf_model.specs.Domain.{Domain, IsAccepted, guard_by, is_text}
use Rattle.cqf_model.specs.Network.{compiled_lists}
use Rattle.cqf_model.specs.Paces.{each_cycle}
use Rattle.cqf_model.specs.Table.{hop_number_after}
use Rattle.cqf_compile.proofs.Paces.{short_round}
use Rattle.cqf_compile.specs.BridgeGates.{gate_at, ingress_at}
use Rattle.cqf_gates.specs.ReservedSpans.{closed_for, first_active_cycle, open_in, reserved_spans, second_active_cycle}
use Rattle.cqf_gates.proofs.RoundTrip.{list_of_text-text}
use Rattle.cqf_gates.specs.GateListText.{hex_digit, line_of_gates, text_of_entries}
use Rattle.cqf_gates.specs.TxList.{IsTxList}
use Rattle.cqf_gates.specs.TxText.{list_of_text}
use Rattle.cqf_program_tc.specs.Laws.{ScriptsHoldTheLists, words_by, words_for}
use Rattle.cqf_program_tc.specs.Text.{common_words}
use Rattle.cqf_program_tc.specs.Words.{before_others, closed_words, entry_words, list_words, octets_of_word, open_words}
use Rattle.cqf_program_tc.specs.Words.{gate_of_parts, gate_of_words, gate_words, in_front, lines_of_words, parted, tx_of_words, tx_words}

-- a byte that may occur in a word
abbrev is_in_word : ℕ → Bool
is_in_word byte = not (byte == 32)

is_false : (b : Bool) → not b ≡ true → b ≡ false
is_false false h = refl
is_false true h = cc

both_true : (a b : Bool) → (a && b) ≡ true → (a ≡ true) × (b ≡ true)
both_true true b h = (refl, h)
both_true false b h = cc

-- a word, followed by something that begins with a space or is empty
parted_after : (word rest : List ℕ) (words : List (List ℕ)) → list_all is_in_word word ≡ true → parted rest ≡ [] ∷ words → parted (word ++ rest) ≡ word ∷ words
parted_after [] rest words h e = e
parted_after (byte ∷ word) rest words h e =
    let both = both_true (is_in_word byte) (list_all is_in_word word) h in
    ap (λ (b : Bool). cond b ([] ∷ parted (word ++ rest)) (in_front byte (parted (word ++ rest)))) (is_false (byte == 32) both.0)
    ∙ ap (in_front byte) (parted_after word rest words both.1 e)

-- no digit is a space
hex_in_word : (n : ℕ) → n < 16 → is_in_word (hex_digit n) ≡ true
hex_in_word n h = grind (arith, nat_tests)

digit_in_word : (c : ℕ) → is_ascii_digit c ≡ true → is_in_word c ≡ true
digit_in_word c h = grind (arith, nat_tests)

decimal_in_word : (n : ℕ) → n < 2 ^ 64 → list_all is_in_word (decimal n) ≡ true
decimal_in_word n small = list_all-from_AllPass is_in_word (decimal n)
    (λ k d inside. digit_in_word (get_or (decimal n) k d) (AllPass-from_list_all is_ascii_digit (decimal n) (digits_decimal own n small) k d inside))

states_in_word : (states : ℕ) → states < 256 → list_all is_in_word (hex_digit (states / 16) ∷ hex_digit (states % 16) ∷ []) ≡ true
states_in_word states small =
    ap (λ (b : Bool). b && (is_in_word (hex_digit (states % 16)) && true)) (hex_in_word (states / 16) (omega (arith, small)))
    ∙ ap (λ (b : Bool). b && true) (hex_in_word (states % 16) (omega arith))

-- a number is read as itself
decimal_read : (n : ℕ) → n < 2 ^ 32 → decimal_value (decimal n) ≡ Some n
decimal_read n small =
    let some = decimal_nonempty n (omega (arith, small)) in
    let short = length-decimal-le 20 n (omega arith) (omega (arith, small)) (omega (arith, small)) in
    let digits : list_all is_ascii_digit (decimal n) ≡ true = digits_decimal own n (omega (arith, small)) in
    let value : digits_value 10 (decimal n) ≡ n = digits_value-decimal own n (omega (arith, small)) in
    let one : leb 1 (length (decimal n)) ≡ true = grind (arith, nat_tests) in
    let twenty : leb (length (decimal n)) 20 ≡ true = grind (arith, nat_tests) in
    let form : is_decimal (decimal n) ≡ true = rw (one, twenty, digits) in
    rw (form, value)

-- the words of one more entry
tx_words-push : (entries : List Entry) (entry : Entry) → tx_words (entries ++ entry ∷ []) ≡ tx_words entries ++ (codes " sched-entry S " ++ line_of_gates entry)
tx_words-push [] entry = ap (λ (rest : List ℕ). codes " sched-entry S " ++ rest) (append-nil (line_of_gates entry))
tx_words-push (first ∷ entries) entry =
    let more : List ℕ = codes " sched-entry S " ++ line_of_gates entry in
    ap (λ (rest : List ℕ). codes " sched-entry S " ++ (line_of_gates first ++ rest)) (tx_words-push entries entry)
    ∙ ap (λ (rest : List ℕ). codes " sched-entry S " ++ rest) (sym (append_assoc (line_of_gates first) (tx_words entries) more))

-- the words of the first entries of a list and of the next one
pub tx_words-more : (entries : List Entry) (k : ℕ) (d : Entry) → k < length entries →
    tx_words (take (k + 1) entries) ≡ tx_words (take k entries) ++ (codes " sched-entry S " ++ line_of_gates (get_or entries k d))
tx_words-more entries k d inside = ap tx_words (take_more entries k d inside) ∙ tx_words-push (take k entries) (get_or entries k d)

-- the words of a port's entries
abbrev entry_parts : List Entry → List (List ℕ)
entry_parts [] = []
entry_parts (entry ∷ entries) =
    codes "sched-entry" ∷ codes "S" ∷ (hex_digit (entry.0 / 16) ∷ hex_digit (entry.0 % 16) ∷ []) ∷ decimal entry.1 ∷ entry_parts entries

abbrev AreRanged : List Entry → Type 0
AreRanged entries = All (λ (entry : Entry). (entry.0 < 256) × (entry.1 < 2 ^ 32)) entries

tx_parted : (entries : List Entry) → AreRanged entries → parted (tx_words entries) ≡ [] ∷ entry_parts entries
tx_parted [] ranges = refl
tx_parted (entry ∷ entries) ranges =
    let range = ranges 0 (0, 0) (omega arith) in
    let states : List ℕ = hex_digit (entry.0 / 16) ∷ hex_digit (entry.0 % 16) ∷ [] in
    let number : List ℕ = decimal entry.1 in
    let rest : List ℕ = tx_words entries in
    let last = parted_after number rest (entry_parts entries) (decimal_in_word entry.1 (omega (arith, range.1)))
    (tx_parted entries (λ k d inside. ranges (suc k) d (omega (arith, inside)))) in
    let mask = parted_after states (32 ∷ (number ++ rest)) (number ∷ entry_parts entries) (states_in_word entry.0 range.0)
    (ap (λ (words : List (List ℕ)). [] ∷ words) last) in
    ap (λ (words : List (List ℕ)). [] ∷ codes "sched-entry" ∷ codes "S" ∷ words) mask

tx_lines : (entries : List Entry) → lines_of_words (entry_parts entries) ≡ Some (text_of_entries entries)
tx_lines [] = refl
tx_lines (entry ∷ entries) =
    let states : List ℕ = hex_digit (entry.0 / 16) ∷ hex_digit (entry.0 % 16) ∷ [] in
    ap (option_map (λ (lines : List ℕ). states ++ 32 ∷ (decimal entry.1 ++ 10 ∷ lines))) (tx_lines entries)

-- the words of a port's list are read as the list
pub tx_again : (entries : List Entry) → IsTxList entries → AreRanged entries → tx_of_words (tx_words entries) ≡ Some (Ok entries)
tx_again entries list ranges =
    ap (λ (words : List (List ℕ)). option_map list_of_text (lines_of_words (drop 1 words))) (tx_parted entries ranges)
    ∙ ap (option_map list_of_text) (tx_lines entries)
    ∙ ap Some (list_of_text-text entries list ranges)

-- the words of a gate's entries
abbrev gate_parts : ℕ → List (List ℕ)
gate_parts cycle_time =
    codes "sched-entry" ∷ codes "open" ∷ decimal cycle_time ∷ codes "6" ∷ codes "\"$5\"" ∷ codes "sched-entry" ∷ codes "open" ∷ decimal cycle_time
    ∷ codes "7" ∷ codes "\"$5\"" ∷ []

gate_parted : (cycle_time : ℕ) → cycle_time < 2 ^ 32 → parted (gate_words cycle_time) ≡ [] ∷ gate_parts cycle_time
gate_parted cycle_time small =
    let number : List ℕ = decimal cycle_time in
    let good = decimal_in_word cycle_time (omega (arith, small)) in
    let seven : List (List ℕ) = codes "7" ∷ codes "\"$5\"" ∷ [] in
    let second : parted (number ++ codes " 7 \"$5\"") ≡ number ∷ seven = parted_after number (codes " 7 \"$5\"") seven good refl in
    let six : List (List ℕ) = codes "6" ∷ codes "\"$5\"" ∷ codes "sched-entry" ∷ codes "open" ∷ number ∷ seven in
    let following : List ℕ = codes " 6 \"$5\" sched-entry open " ++ (number ++ codes " 7 \"$5\"") in
    let first : parted (number ++ following) ≡ number ∷ six = parted_after number following six good
    (ap (λ (words : List (List ℕ)). [] ∷ codes "6" ∷ codes "\"$5\"" ∷ codes "sched-entry" ∷ codes "open" ∷ words) second) in
    ap (λ (words : List (List ℕ)). [] ∷ codes "sched-entry" ∷ codes "open" ∷ words) first

-- and those of a gate as its list, with the parameter's octets
pub gate_again : (cycle_time octets : ℕ) → cycle_time < 2 ^ 32 → gate_of_words octets (gate_words cycle_time) ≡ Some (reserved_spans cycle_time octets each_cycle 0)
gate_again cycle_time octets small =
    ap (λ (words : List (List ℕ)). gate_of_parts octets (drop 1 words)) (gate_parted cycle_time small)
    ∙ rw (decimal_read cycle_time small) refl

-- the gate of each stream that is offered in each cycle
plain_spans : (n octets : ℕ) (pace : Pace) (hop_number : ℕ) → pace.pause ≡ 0 → reserved_spans n octets pace hop_number ≡ reserved_spans n octets each_cycle 0
plain_spans n octets pace hop_number none =
    let spans : ℕ → ℕ → List StreamEntry = λ pause active_cycle.
    closed_for n active_cycle
    ++ (open_in n octets active_cycle ∷ ((if (pause + 1) % 2 == 0 then [] else closed_for n pause ++ open_in n octets (active_cycle + (pause + 1)) ∷ []) ++ closed_for n (pause - active_cycle))) in
    ap (λ pause. spans pause ((pace.phase + hop_number) % (pause + 1))) none ∙ ap (spans 0) (mod-one (pace.phase + hop_number))

-- an entry with an octet maximum, and its words, whether it is closed or not
abbrev limited : ℕ → ℕ → ℕ → StreamEntry
limited value time most = record { ipv = value; interval = time; octet_max = Some most }

abbrev shut_words : Bool → ℕ → ℕ → ℕ → List ℕ
shut_words shut value time most = if shut then closed_words time else open_words (limited value time most)

abbrev parts_by : Bool → ℕ → ℕ → ℕ → List (List ℕ)
parts_by shut value time most =
    if shut then codes "sched-entry" ∷ codes "close" ∷ decimal time ∷ codes "-1" ∷ codes "-1" ∷ []
    else codes "sched-entry" ∷ codes "open" ∷ decimal time ∷ decimal value ∷ decimal most ∷ []

-- its numbers are in range, and a closed one has class 6
record IsReadable (value time most : ℕ) : Type 0 where
  pub value_small : value < 2 ^ 32
  pub time_small : time < 2 ^ 32
  pub most_small : most < 2 ^ 32
  pub shut : most ≡ 0 → value ≡ 6

-- the words of one entry, before those of others
one_parted : (shut : Bool) (value time most : ℕ) (rest : List ℕ) (more : List (List ℕ)) → IsReadable value time most → parted rest ≡ [] ∷ more →
    parted (shut_words shut value time most ++ rest) ≡ [] ∷ (parts_by shut value time most ++ more)
one_parted true value time most rest more good e =
    let number : List ℕ = decimal time in
    let ones : List (List ℕ) = codes "-1" ∷ codes "-1" ∷ more in
    let last : parted (codes " -1 -1" ++ rest) ≡ [] ∷ ones =
    ap (λ (words : List (List ℕ)). [] ∷ in_front 45 (in_front 49 ([] ∷ in_front 45 (in_front 49 words)))) e in
    let first : parted (number ++ (codes " -1 -1" ++ rest)) ≡ number ∷ ones =
    parted_after number (codes " -1 -1" ++ rest) ones (decimal_in_word time (omega (arith, good.time_small))) last in
    ap (λ (text : List ℕ). parted (codes " sched-entry close " ++ text)) (append_assoc number (codes " -1 -1") rest)
    ∙ ap (λ (words : List (List ℕ)). [] ∷ codes "sched-entry" ∷ codes "close" ∷ words) first
one_parted false value time most rest more good e =
    let at_most = parted_after (decimal most) rest more (decimal_in_word most (omega (arith, good.most_small))) e in
    let after_value : List ℕ = codes " " ++ (decimal most ++ rest) in
    let at_value = parted_after (decimal value) after_value (decimal most ∷ more) (decimal_in_word value (omega (arith, good.value_small)))
    (ap (λ (words : List (List ℕ)). [] ∷ words) at_most) in
    let after_time : List ℕ = codes " " ++ (decimal value ++ after_value) in
    let at_time = parted_after (decimal time) after_time (decimal value ∷ decimal most ∷ more) (decimal_in_word time (omega (arith, good.time_small)))
    (ap (λ (words : List (List ℕ)). [] ∷ words) at_value) in
    let joined : (decimal time ++ (codes " " ++ (decimal value ++ (codes " " ++ decimal most)))) ++ rest ≡ decimal time ++ after_time = simp append_assoc in
    ap (λ (text : List ℕ). parted (codes " sched-entry open " ++ text)) joined
    ∙ ap (λ (words : List (List ℕ)). [] ∷ codes "sched-entry" ∷ codes "open" ∷ words) at_time

-- a number isn't the parameter
no_quote : (x : ℕ) (text : List ℕ) → is_ascii_digit x ≡ true → is_text (x ∷ text) (codes "\"$5\"") ≡ false
no_quote x text digit = grind (arith, nat_tests)

no_parameter : (text : List ℕ) → list_all is_ascii_digit text ≡ true → is_text text (codes "\"$5\"") ≡ false
no_parameter [] digits = refl
no_parameter (x ∷ text) digits = no_quote x text (both_true (is_ascii_digit x) (list_all is_ascii_digit text) digits).0

octets_read : (octets most : ℕ) → most < 2 ^ 32 → octets_of_word octets (decimal most) ≡ Some most
octets_read octets most small =
    ap (λ (b : Bool). if b then Some octets else decimal_value (decimal most)) (no_parameter (decimal most) (digits_decimal own most (omega (arith, small))))
    ∙ decimal_read most small

-- they are read as the entry
one_again : (shut : Bool) (octets value time most : ℕ) (more : List (List ℕ)) → (most == 0) ≡ shut → IsReadable value time most →
    gate_of_parts octets (parts_by shut value time most ++ more) ≡ before_others (Some (limited value time most)) (gate_of_parts octets more)
one_again true octets value time most more is good =
    let none : most ≡ 0 = eqb-true most 0 is in
    let same : limited 6 time 0 ≡ limited value time most = ap (λ z. limited z time 0) (sym (good.shut none)) ∙ ap (limited value time) (sym none) in
    ap (λ (number : Option ℕ). before_others (option_map (λ (n : ℕ). limited 6 n 0) number) (gate_of_parts octets more)) (decimal_read time good.time_small)
    ∙ ap (λ (entry : StreamEntry). before_others (Some entry) (gate_of_parts octets more)) same
one_again false octets value time most more is good =
    let written : Option ℕ → Option ℕ → Option ℕ → Option StreamEntry = λ times values limits.
    option_and_then (λ (n : ℕ). option_and_then (λ (v : ℕ). option_map (λ (limit : ℕ). limited v n limit) limits) values) times in
    let others = gate_of_parts octets more in
    ap (λ (number : Option ℕ). before_others (written number (decimal_value (decimal value)) (octets_of_word octets (decimal most))) others)
    (decimal_read time good.time_small)
    ∙ ap (λ (number : Option ℕ). before_others (written (Some time) number (octets_of_word octets (decimal most))) others) (decimal_read value good.value_small)
    ∙ ap (λ (number : Option ℕ). before_others (written (Some time) (Some value) number) others) (octets_read octets most good.most_small)

-- entries that are read back unchanged, before others
record AreRead (entries : List StreamEntry) : Type 0 where
  pub parts : List (List ℕ)
  pub parting : (rest : List ℕ) (more : List (List ℕ)) → parted rest ≡ [] ∷ more → parted (list_words entries ++ rest) ≡ [] ∷ (parts ++ more)
  pub reading : (octets : ℕ) (more : List (List ℕ)) (others : List StreamEntry) → gate_of_parts octets more ≡ Some others →
      gate_of_parts octets (parts ++ more) ≡ Some (entries ++ others)

none_read : AreRead []
none_read = record { parts = []; parting = λ rest more e. e; reading = λ octets more others e. e }

one_read : (value time most : ℕ) → IsReadable value time most → AreRead (limited value time most ∷ [])
one_read value time most good =
    let shut : Bool = most == 0 in
    record {
      parts = parts_by shut value time most;
      parting = λ rest more e.
          ap (λ (text : List ℕ). parted (text ++ rest)) (append-nil (shut_words shut value time most)) ∙ one_parted shut value time most rest more good e;
      reading = λ octets more others e.
          one_again shut octets value time most more refl good
          ∙ ap (before_others (Some (limited value time most))) e;
    }

-- the words of entries before others
words_then : (a b : List StreamEntry) → list_words (a ++ b) ≡ list_words a ++ list_words b
words_then [] b = refl
words_then (entry ∷ a) b =
    ap (λ (text : List ℕ). entry_words entry ++ text) (words_then a b) ∙ sym (append_assoc (entry_words entry) (list_words a) (list_words b))

both_read : (a b : List StreamEntry) → AreRead a → AreRead b → AreRead (a ++ b)
both_read a b of_a of_b = record {
  parts = of_a.parts ++ of_b.parts;
  parting = λ rest more e.
      ap (λ (text : List ℕ). parted (text ++ rest)) (words_then a b)
      ∙ ap parted (append_assoc (list_words a) (list_words b) rest)
      ∙ of_a.parting (list_words b ++ rest) (of_b.parts ++ more) (of_b.parting rest more e)
      ∙ ap (λ (words : List (List ℕ)). [] ∷ words) (sym (append_assoc of_a.parts of_b.parts more));
  reading = λ octets more others e.
      ap (gate_of_parts octets) (append_assoc of_a.parts of_b.parts more)
      ∙ of_a.reading octets (of_b.parts ++ more) (b ++ others) (of_b.reading octets more others e)
      ∙ ap Some (sym (append_assoc a b others));
}

-- the words of the first entries of a list and of the next one
pub list_words-more : (entries : List StreamEntry) (k : ℕ) (d : StreamEntry) → k < length entries →
    list_words (take (k + 1) entries) ≡ list_words (take k entries) ++ entry_words (get_or entries k d)
list_words-more entries k d inside =
    ap list_words (take_more entries k d inside) ∙ words_then (take k entries) (get_or entries k d ∷ [])
    ∙ ap (λ (text : List ℕ). list_words (take k entries) ++ text) (append-nil (entry_words (get_or entries k d)))

-- so are the spans of a reservation
closed_read : (n cycles : ℕ) → cycles * n < 2 ^ 32 → AreRead (closed_for n cycles)
closed_read n cycles small = by_test (cycles == 0)
  where
    by_test : (b : Bool) → AreRead (if b then [] else limited 6 (cycles * n) 0 ∷ [])
    by_test true = none_read
    by_test false = one_read 6 (cycles * n) 0
        (record { value_small = omega arith; time_small = small; most_small = omega arith; shut = λ none. refl })

open_read : (n octets cycle : ℕ) → n < 2 ^ 32 → 0 < octets → octets < 2 ^ 32 → AreRead (open_in n octets cycle ∷ [])
open_read n octets cycle small some few = one_read (6 + cycle % 2) n octets
    (record { value_small = omega (arith, mod-lt cycle two); time_small = small; most_small = few; shut = λ none. absurd (omega (arith, none, some)) })
  where
    two : 0 < 2
    two = omega arith

spans_read : (n octets : ℕ) (pace : Pace) (hop_number : ℕ) → (pace.pause + 1) * n < 2 ^ 32 → 0 < octets → octets < 2 ^ 32 →
    AreRead (reserved_spans n octets pace hop_number)
spans_read n octets pace hop_number short some few =
    let active_cycle : ℕ = first_active_cycle pace hop_number in
    let inside : active_cycle < pace.pause + 1 = mod-lt (pace.phase + hop_number) (omega arith) in
    let own = open_in n octets active_cycle in
    let within : (cycles : ℕ) → cycles ≤ pace.pause → cycles * n < 2 ^ 32 = λ cycles most.
    (let at_most : cycles * n ≤ (pace.pause + 1) * n = mul-le cycles n (pace.pause + 1) n (omega (arith, most)) (omega arith) in omega (arith, at_most, short)) in
    let one : n < 2 ^ 32 = (let least : 1 * n ≤ (pace.pause + 1) * n = mul-le 1 n (pace.pause + 1) n (omega arith) (omega arith) in omega (arith, least, short)) in
    let again : AreRead (second_active_cycle n octets pace active_cycle) = by_test within one active_cycle ((pace.pause + 1) % 2 == 0) in
    let last = closed_read n (pace.pause - active_cycle) (within (pace.pause - active_cycle) (omega arith)) in
    both_read (closed_for n active_cycle) (own ∷ (second_active_cycle n octets pace active_cycle ++ closed_for n (pace.pause - active_cycle))) (closed_read n active_cycle (within active_cycle (omega (arith, inside))))
    (both_read (own ∷ []) (second_active_cycle n octets pace active_cycle ++ closed_for n (pace.pause - active_cycle)) (open_read n octets active_cycle one some few)
    (both_read (second_active_cycle n octets pace active_cycle) (closed_for n (pace.pause - active_cycle)) again last))
  where
    by_test : ((cycles : ℕ) → cycles ≤ pace.pause → cycles * n < 2 ^ 32) → n < 2 ^ 32 → (active_cycle : ℕ) (b : Bool) →
        AreRead (if b then [] else closed_for n pace.pause ++ open_in n octets (active_cycle + (pace.pause + 1)) ∷ [])
    by_test within one active_cycle true = none_read
    by_test within one active_cycle false =
        both_read (closed_for n pace.pause) (open_in n octets (active_cycle + (pace.pause + 1)) ∷ []) (closed_read n pace.pause (within pace.pause (omega arith)))
        (open_read n octets (active_cycle + (pace.pause + 1)) one some few)

-- so a list's words are read as the list
list_again : (octets : ℕ) (entries : List StreamEntry) → AreRead entries → gate_of_words octets (list_words entries) ≡ Some entries
list_again octets entries read =
    let words : parted (list_words entries) ≡ [] ∷ read.parts =
    ap parted (sym (append-nil (list_words entries))) ∙ read.parting [] [] refl ∙ ap (λ (parts : List (List ℕ)). [] ∷ parts) (append-nil read.parts) in
    ap (λ (parts : List (List ℕ)). gate_of_parts octets (drop 1 parts)) words
    ∙ ap (gate_of_parts octets) (sym (append-nil read.parts))
    ∙ read.reading octets [] [] refl
    ∙ ap Some (append-nil entries)

-- each of four entries passes
each_of_four : (P : Entry → Type 0) (a b c e : Entry) → P a → P b → P c → P e → All P (a ∷ b ∷ c ∷ e ∷ [])
each_of_four P a b c e on_a on_b on_c on_e =
    All-cons P a (b ∷ c ∷ e ∷ []) on_a (All-cons P b (c ∷ e ∷ []) on_b (All-cons P c (e ∷ []) on_c (All-cons P e [] on_e (All-nil P))))

-- the list of a port is read back, with numbers in range
port_is_list : (cycle_time guard : ℕ) → 0 < guard → guard < cycle_time → IsTxList (port_list cycle_time guard)
port_is_list cycle_time guard some short =
    let open_time : 0 < cycle_time - guard = omega (arith, short) in
    record {
      some = omega arith;
      few = omega arith;
      lasting = each_of_four (λ (entry : Entry). 0 < entry.1) (0xBF, cycle_time - guard) (0x00, guard) (0x7F, cycle_time - guard) (0x00, guard) open_time some
          open_time some;
    }

port_in_range : (cycle_time guard : ℕ) → cycle_time < 2 ^ 32 → guard < cycle_time → AreRanged (port_list cycle_time guard)
port_in_range cycle_time guard small short =
    let open_time : cycle_time - guard < 2 ^ 32 = omega (arith, small) in
    let closed_time : guard < 2 ^ 32 = omega (arith, small, short) in
    each_of_four (λ (entry : Entry). (entry.0 < 256) × (entry.1 < 2 ^ 32)) (0xBF, cycle_time - guard) (0x00, guard) (0x7F, cycle_time - guard) (0x00, guard)
    (omega arith, open_time) (omega arith, closed_time) (omega arith, open_time) (omega arith, closed_time)

-- the words of a list with a guard band are read back as that list
read_by : (cycle_time guard : ℕ) → cycle_time < 2 ^ 32 → 0 < guard → guard < cycle_time →
    tx_of_words (tx_words (port_list cycle_time guard)) ≡ Some (Ok (port_list cycle_time guard))
read_by cycle_time guard small some short =
    tx_again (port_list cycle_time guard) (port_is_list cycle_time guard some short) (port_in_range cycle_time guard small short)

-- so are those of a link, whether or not it has a guard band of its own
read_of : (cycle_time guard : ℕ) (time : Option ℕ) → cycle_time < 2 ^ 32 → 0 < unwrap_or time guard → unwrap_or time guard < cycle_time →
    tx_of_words (if is_some time then tx_words (port_list cycle_time (unwrap_or time guard)) else tx_words (port_list cycle_time guard))
    ≡ Some (Ok (port_list cycle_time (unwrap_or time guard)))
read_of cycle_time guard None small some short = read_by cycle_time guard small some short
read_of cycle_time guard (Some time) small some short = read_by cycle_time time small some short

ports_read : (d : Domain) → IsAccepted d → d.cycle_time < 2 ^ 32 → (l : ℕ) → tx_of_words (words_for d l) ≡ Some (Ok (compiled_lists d l))
ports_read d accepted small l =
    elim (slice_get_cases d.links l).1 [
      | inl w ↦
          (let good = accepted.links_good l w.0 w.2 in
          subst (λ (o : Option Link). tx_of_words (option_map_or (words_by d) o (common_words d)) ≡ Some (Ok (port_list d.cycle_time (option_map_or (guard_by d.guard) o d.guard))))
          (sym w.2) (read_of d.cycle_time d.guard w.0.guard small (omega (arith, good.delay_short)) good.guard_short))
      | inr w ↦
          subst (λ (o : Option Link). tx_of_words (option_map_or (words_by d) o (common_words d)) ≡ Some (Ok (port_list d.cycle_time (option_map_or (guard_by d.guard) o d.guard))))
          (sym (slice_get_past d.links l w.0)) (read_by d.cycle_time d.guard small accepted.guard_some accepted.guard_short)
    ]

pub lists_held : ScriptsHoldTheLists
lists_held d accepted =
    let small : d.cycle_time < 2 ^ 32 = omega (arith, accepted.cycle_most) in
    record {
      ports = ports_read d accepted small;
      gates = λ octets hop_number pace none. gate_again d.cycle_time octets small ∙ ap Some (sym (plain_spans d.cycle_time octets pace hop_number none));
      lists = λ row bridge octets good some few.
          list_again octets (gate_at d row bridge)
          (spans_read d.cycle_time row.octets row.pace (hop_number_after row (ingress_at d bridge row)) (short_round row.pace d.cycle_time good accepted.cycle_most) some
          (omega (arith, few)));
    }
