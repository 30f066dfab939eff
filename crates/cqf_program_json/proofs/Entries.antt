-- The entries of lists, read back from their lines.
use Rattle.std.proofs.Common.{ℕ, ◌≡◌, ◌<◌, ◌≤◌, ◌^◌, ◌+◌, ◌-◌, ◌*◌, ◌%◌, ◌++◌, ◌==◌, ◌∙◌, Bool, true, false, List, [], ◌∷◌, Option, Some, None}
use Rattle.std.proofs.Common.{All, ap, append_assoc, arith, codes, cond, decimal, if◌then◌else◌, mod-lt, refl, subst, sym}
use Rattle.std.specs.Char.{is_ascii_digit}
use Rattle.std.specs.Prelude.{option_map}
use Rattle.std.specs.List.{list_all}
use Rattle.std.specs.Option.{option_map_or, option_or}
use Rattle.std.proofs.lemmas.Bool.{eqb-true}
use Rattle.std.proofs.lemmas.Bool.Decides.{nat_tests}
use Rattle.std.proofs.lemmas.Fmt.{digits_decimal}
use Rattle.std.proofs.lemmas.List.Elements.{All-append, All-cons, All-nil}
use Rattle.std.proofs.lemmas.Nat.{mul-le}
use Rattle.cqf_gates.specs.ReservedSpans.{closed_for, first_active_cycle, open_in, reserved_spans, second_active_cycle}
use Rattle.cqf_model.specs.declared.gates.StreamEntry.{StreamEntry}
use Rattle.cqf_model.specs.declared.topology.Pace.{Pace}
use Rattle.cqf_model.specs.Domain.{is_text}
use Rattle.cqf_model.specs.GateList.{Entry, port_list}
use Rattle.cqf_program_json.specs.Arrays.{number_or_null}
use Rattle.cqf_program_json.specs.Items.{Item, Opens, Passes, following, if_number, items_in, next, number_up_to, past, up_to}
use Rattle.cqf_program_json.specs.Text.{closed_entry, gate_entry, open_entry, port_entry}
use Rattle.cqf_program_json.proofs.Lines.{Says, line_end}
use Rattle.cqf_program_json.proofs.Parts.{IsWithin, both_true, decimal_plain, decimal_read, number_plain, past_end, plain_within, up_to_end, within_then}
use Rattle.cqf_text.proofs.DecimalLemmas.{own}
use Rattle.cqf_text.specs.Decimal.{decimal_value}

-- a number before its end
number_read : (byte n : ℕ) (rest : List ℕ) → byte < 45 → n < 2 ^ 64 → number_up_to byte (decimal n ++ byte ∷ rest) ≡ Some n
number_read byte n rest low small = ap decimal_value (up_to_end byte (decimal n) rest low (decimal_plain n)) ∙ decimal_read n small

-- and after another number on the line
after_number : (n : ℕ) (rest : List ℕ) → past 44 (decimal n ++ 44 ∷ rest) ≡ rest
after_number n rest = past_end 44 (decimal n) rest (omega arith) (decimal_plain n)

-- what is read is the only item of the line
abbrev pub only : Option Item → List Item
only found = option_map_or (λ item. item ∷ []) found []

-- ---- ports

-- an entry of a port's list, by its numbers and what follows them
abbrev opens_by : Option ℕ → List ℕ → Option Item
opens_by states at = next states (λ s. next (following (codes " \"timeIntervalValue\": ") at) (λ at_interval. option_map (λ i. Opens (s, i)) (number_up_to 32 at_interval)))

opens_line : (states interval : ℕ) (end : List ℕ) → states < 2 ^ 64 → interval < 2 ^ 64 →
    items_in (codes "            { \"operationName\": \"SetGateStates\", \"gateStatesValue\": "
    ++ (decimal states ++ (codes ", \"timeIntervalValue\": " ++ (decimal interval ++ 32 ∷ end)))) ≡ Opens (states, interval) ∷ []
opens_line states interval end small short =
    let more : List ℕ = codes " \"timeIntervalValue\": " ++ (decimal interval ++ 32 ∷ end) in
    ap (λ (found : Option ℕ). only (option_or (opens_by found (past 44 (decimal states ++ 44 ∷ more))) None)) (number_read 44 states more (omega arith) small)
    ∙ ap (λ (at : List ℕ). only (option_or (opens_by (Some states) at) None)) (after_number states more)
    ∙ ap (λ (found : Option ℕ). only (option_or (option_map (λ (i : ℕ). Opens (states, i)) found) None)) (number_read 32 interval end (omega arith) short)

-- a number is within a line
pub number_within : (n : ℕ) → IsWithin (decimal n)
number_within n = plain_within (decimal n) (decimal_plain n)

within_two : (front v mid w tail : List ℕ) → IsWithin front → IsWithin v → IsWithin mid → IsWithin w → IsWithin tail →
    IsWithin (front ++ (v ++ (mid ++ (w ++ tail))))
within_two front v mid w tail a b c d e =
    within_then front (v ++ (mid ++ (w ++ tail))) a (within_then v (mid ++ (w ++ tail)) b (within_then mid (w ++ tail) c (within_then w tail d e)))

end_of_two : (front v mid w tail end : List ℕ) → (front ++ (v ++ (mid ++ (w ++ tail)))) ++ end ≡ front ++ (v ++ (mid ++ (w ++ (tail ++ end))))
end_of_two front v mid w tail end = simp append_assoc

pub port_entry_says : (entry : Entry) → entry.0 < 2 ^ 64 → entry.1 < 2 ^ 64 → Says (port_entry entry) (Opens entry ∷ [])
port_entry_says entry small short =
    let front : List ℕ = codes "            { \"operationName\": \"SetGateStates\", \"gateStatesValue\": " in
    let mid : List ℕ = codes ", \"timeIntervalValue\": " in
    line_end (port_entry entry) (Opens entry ∷ []) (within_two front (decimal entry.0) mid (decimal entry.1) (codes " }") refl (number_within entry.0) refl
    (number_within entry.1) refl)
    (λ end. ap items_in (end_of_two front (decimal entry.0) mid (decimal entry.1) (codes " }") end) ∙ opens_line entry.0 entry.1 (125 ∷ end) small short)

-- ---- gates

-- a number or `null` before its end
null_by : (n : Option ℕ) (rest : List ℕ) → up_to 32 (number_or_null n ++ 32 ∷ rest) ≡ number_or_null n
null_by n rest = up_to_end 32 (number_or_null n) rest (omega arith) (number_plain n)

-- a number isn't `null`
no_null : (x : ℕ) (text : List ℕ) → is_ascii_digit x ≡ true → is_text (x ∷ text) (codes "null") ≡ false
no_null x text digit = grind (arith, nat_tests)

not_null : (text : List ℕ) → list_all is_ascii_digit text ≡ true → is_text text (codes "null") ≡ false
not_null [] digits = refl
not_null (x ∷ text) digits = no_null x text (both_true (is_ascii_digit x) (list_all is_ascii_digit text) digits).0

most_read : (n : ℕ) → n < 2 ^ 64 → if_number (decimal n) ≡ Some (Some n)
most_read n small =
    ap (λ (b : Bool). if b then Some None else option_map (λ (m : ℕ). Some m) (decimal_value (decimal n))) (not_null (decimal n) (digits_decimal own n small))
    ∙ ap (option_map (λ (m : ℕ). Some m)) (decimal_read n small)

-- an entry in which frames may pass, by its numbers and what follows them
abbrev at_most : ℕ → ℕ → List ℕ → Option Item
at_most ipv interval at =
    next (following (codes " \"IntervalOctetMax\": ") at) (λ rest.
    option_map (λ most. Passes (record { ipv = ipv; interval = interval; octet_max = most })) (if_number (up_to 32 rest)))

abbrev at_interval : ℕ → List ℕ → Option Item
at_interval ipv at =
    next (following (codes " \"timeIntervalValue\": ") at) (λ rest. next (number_up_to 44 rest) (λ interval. at_most ipv interval (past 44 rest)))

passes_line : (ipv interval most : ℕ) (end : List ℕ) → ipv < 2 ^ 64 → interval < 2 ^ 64 → most < 2 ^ 64 →
    items_in (codes "            { \"operationName\": \"SetGateAndIPV\", \"StreamGateState\": \"open\", \"IPV\": "
    ++ (decimal ipv ++ (codes ", \"timeIntervalValue\": " ++ (decimal interval ++ (codes ", \"IntervalOctetMax\": " ++ (decimal most ++ 32 ∷ end))))))
    ≡ Passes (record { ipv = ipv; interval = interval; octet_max = Some most }) ∷ []
passes_line ipv interval most end small short few =
    let last : List ℕ = codes " \"IntervalOctetMax\": " ++ (decimal most ++ 32 ∷ end) in
    let more : List ℕ = codes " \"timeIntervalValue\": " ++ (decimal interval ++ 44 ∷ last) in
    ap (λ (found : Option ℕ). only (option_or (next found (λ (v : ℕ). at_interval v (past 44 (decimal ipv ++ 44 ∷ more)))) None)) (number_read 44 ipv more (omega arith) small)
    ∙ ap (λ (at : List ℕ). only (option_or (at_interval ipv at) None)) (after_number ipv more)
    ∙ ap (λ (found : Option ℕ). only (option_or (next found (λ (i : ℕ). at_most ipv i (past 44 (decimal interval ++ 44 ∷ last)))) None))
    (number_read 44 interval last (omega arith) short)
    ∙ ap (λ (at : List ℕ). only (option_or (at_most ipv interval at) None)) (after_number interval last)
    ∙ ap (λ (text : List ℕ). only (option_or (option_map (λ (m : Option ℕ). Passes (record { ipv = ipv; interval = interval; octet_max = m })) (if_number text)) None))
    (null_by (Some most) end)
    ∙ ap (λ (found : Option (Option ℕ)). only (option_or (option_map (λ (m : Option ℕ). Passes (record { ipv = ipv; interval = interval; octet_max = m })) found) None))
    (most_read most few)

within_three : (front v mid w tail x end : List ℕ) → IsWithin front → IsWithin v → IsWithin mid → IsWithin w → IsWithin tail → IsWithin x → IsWithin end →
    IsWithin (front ++ (v ++ (mid ++ (w ++ (tail ++ (x ++ end))))))
within_three front v mid w tail x end a b c d e f g =
    within_two front v mid w (tail ++ (x ++ end)) a b c d (within_then tail (x ++ end) e (within_then x end f g))

end_of_three : (front v mid w tail x last end : List ℕ) →
    (front ++ (v ++ (mid ++ (w ++ (tail ++ (x ++ last)))))) ++ end ≡ front ++ (v ++ (mid ++ (w ++ (tail ++ (x ++ (last ++ end))))))
end_of_three front v mid w tail x last end = simp append_assoc

-- an entry with an octet maximum
abbrev limited : ℕ → ℕ → ℕ → StreamEntry
limited ipv interval most = record { ipv = ipv; interval = interval; octet_max = Some most }

open_says : (ipv interval most : ℕ) → ipv < 2 ^ 64 → interval < 2 ^ 64 → most < 2 ^ 64 →
    Says (open_entry (limited ipv interval most)) (Passes (limited ipv interval most) ∷ [])
open_says ipv interval most small short few =
    let front : List ℕ = codes "            { \"operationName\": \"SetGateAndIPV\", \"StreamGateState\": \"open\", \"IPV\": " in
    let mid : List ℕ = codes ", \"timeIntervalValue\": " in
    let tail : List ℕ = codes ", \"IntervalOctetMax\": " in
    line_end (open_entry (limited ipv interval most)) (Passes (limited ipv interval most) ∷ [])
    (within_three front (decimal ipv) mid (decimal interval) tail (decimal most) (codes " }") refl (number_within ipv) refl (number_within interval) refl
    (number_within most) refl)
    (λ end. ap items_in (end_of_three front (decimal ipv) mid (decimal interval) tail (decimal most) (codes " }") end)
    ∙ passes_line ipv interval most (125 ∷ end) small short few)

-- an entry in which none may
shut_line : (interval : ℕ) (end : List ℕ) → interval < 2 ^ 64 →
    items_in (codes "            { \"operationName\": \"SetGateAndIPV\", \"StreamGateState\": \"closed\", \"IPV\": null, \"timeIntervalValue\": "
    ++ (decimal interval ++ 44 ∷ end)) ≡ Passes (limited 6 interval 0) ∷ []
shut_line interval end short =
    ap (λ (found : Option ℕ). only (option_map (λ (i : ℕ). Passes (limited 6 i 0)) found)) (number_read 44 interval end (omega arith) short)

shut_says : (interval : ℕ) → interval < 2 ^ 64 → Says (closed_entry interval) (Passes (limited 6 interval 0) ∷ [])
shut_says interval short =
    let front : List ℕ = codes "            { \"operationName\": \"SetGateAndIPV\", \"StreamGateState\": \"closed\", \"IPV\": null, \"timeIntervalValue\": " in
    let tail : List ℕ = codes ", \"IntervalOctetMax\": null }" in
    line_end (closed_entry interval) (Passes (limited 6 interval 0) ∷ [])
    (within_then front (decimal interval ++ tail) refl (within_then (decimal interval) tail (number_within interval) refl))
    (λ end. ap items_in (append_assoc front (decimal interval ++ tail) end ∙ ap (λ (z : List ℕ). front ++ z) (append_assoc (decimal interval) tail end))
    ∙ shut_line interval (codes " \"IntervalOctetMax\": null }" ++ end) short)

-- the requirements on an entry's numbers: they are in range, and the class is 6 if none may pass
pub record IsReadable (entry : StreamEntry) : Type 0 where
  pub most : ℕ
  pub is : entry ≡ limited entry.ipv entry.interval most
  pub ipv_small : entry.ipv < 2 ^ 64
  pub interval_small : entry.interval < 2 ^ 64
  pub most_small : most < 2 ^ 64
  pub shut : most ≡ 0 → entry.ipv ≡ 6

pub gate_entry_says : (entry : StreamEntry) → IsReadable entry → Says (gate_entry entry) (Passes entry ∷ [])
gate_entry_says entry good =
    subst (λ (e : StreamEntry). Says (gate_entry e) (Passes e ∷ [])) (sym good.is) (by (good.most == 0) refl)
  where
    by : (b : Bool) → (good.most == 0) ≡ b →
        Says (gate_entry (limited entry.ipv entry.interval good.most)) (Passes (limited entry.ipv entry.interval good.most) ∷ [])
    by true e =
        let none : good.most ≡ 0 = eqb-true good.most 0 e in
        let same : limited 6 entry.interval 0 ≡ limited entry.ipv entry.interval good.most =
        ap (λ z. limited z entry.interval 0) (sym (good.shut none)) ∙ ap (limited entry.ipv entry.interval) (sym none) in
        subst (λ (x : StreamEntry). Says (gate_entry x) (Passes x ∷ [])) same (shut_says entry.interval good.interval_small)
    by false e =
        subst (λ (b : Bool). Says (cond b (closed_entry entry.interval) (open_entry (limited entry.ipv entry.interval good.most)))
        (Passes (limited entry.ipv entry.interval good.most) ∷ [])) (sym e)
        (open_says entry.ipv entry.interval good.most good.ipv_small good.interval_small good.most_small)

-- the spans of a reservation are such entries
one_readable : (ipv interval most : ℕ) → ipv < 2 ^ 64 → interval < 2 ^ 64 → most < 2 ^ 64 → (most ≡ 0 → ipv ≡ 6) → IsReadable (limited ipv interval most)
one_readable ipv interval most small short few shut =
    record { most = most; is = refl; ipv_small = small; interval_small = short; most_small = few; shut = shut }

none_readable : All IsReadable []
none_readable = All-nil IsReadable

closed_readable : (n cycles : ℕ) → cycles * n < 2 ^ 32 → All IsReadable (closed_for n cycles)
closed_readable n cycles small = by (cycles == 0)
  where
    by : (b : Bool) → All IsReadable (if b then [] else limited 6 (cycles * n) 0 ∷ [])
    by true = none_readable
    by false = All-cons IsReadable (limited 6 (cycles * n) 0) []
        (one_readable 6 (cycles * n) 0 (omega arith) (omega (arith, small)) (omega arith) (λ none. refl)) none_readable

open_readable : (n octets cycle : ℕ) → n < 2 ^ 32 → 0 < octets → octets < 2 ^ 32 → IsReadable (open_in n octets cycle)
open_readable n octets cycle small some few =
    one_readable (6 + cycle % 2) n octets (omega (arith, mod-lt cycle two)) (omega (arith, small)) (omega (arith, few)) (λ none. absurd (omega (arith, none, some)))
  where
    two : 0 < 2
    two = omega arith

pub spans_readable : (n octets : ℕ) (pace : Pace) (hop_number : ℕ) → (pace.pause + 1) * n < 2 ^ 32 → 0 < octets → octets < 2 ^ 32 →
    All IsReadable (reserved_spans n octets pace hop_number)
spans_readable n octets pace hop_number short some few =
    let active_cycle : ℕ = first_active_cycle pace hop_number in
    let inside : active_cycle < pace.pause + 1 = mod-lt (pace.phase + hop_number) (omega arith) in
    let own = open_in n octets active_cycle in
    let within : (cycles : ℕ) → cycles ≤ pace.pause → cycles * n < 2 ^ 32 = λ cycles most.
    (let at_most : cycles * n ≤ (pace.pause + 1) * n = mul-le cycles n (pace.pause + 1) n (omega (arith, most)) (omega arith) in omega (arith, at_most, short)) in
    let one : n < 2 ^ 32 = (let least : 1 * n ≤ (pace.pause + 1) * n = mul-le 1 n (pace.pause + 1) n (omega arith) (omega arith) in omega (arith, least, short)) in
    let again : All IsReadable (second_active_cycle n octets pace active_cycle) = by within one active_cycle ((pace.pause + 1) % 2 == 0) in
    let last = closed_readable n (pace.pause - active_cycle) (within (pace.pause - active_cycle) (omega arith)) in
    All-append IsReadable (closed_for n active_cycle) (own ∷ (second_active_cycle n octets pace active_cycle ++ closed_for n (pace.pause - active_cycle)))
    (closed_readable n active_cycle (within active_cycle (omega (arith, inside))))
    (All-cons IsReadable own (second_active_cycle n octets pace active_cycle ++ closed_for n (pace.pause - active_cycle)) (open_readable n octets active_cycle one some few)
    (All-append IsReadable (second_active_cycle n octets pace active_cycle) (closed_for n (pace.pause - active_cycle)) again last))
  where
    by : ((cycles : ℕ) → cycles ≤ pace.pause → cycles * n < 2 ^ 32) → n < 2 ^ 32 → (active_cycle : ℕ) (b : Bool) →
        All IsReadable (if b then [] else closed_for n pace.pause ++ open_in n octets (active_cycle + (pace.pause + 1)) ∷ [])
    by within one active_cycle true = none_readable
    by within one active_cycle false =
        All-append IsReadable (closed_for n pace.pause) (open_in n octets (active_cycle + (pace.pause + 1)) ∷ [])
        (closed_readable n pace.pause (within pace.pause (omega arith)))
        (All-cons IsReadable (open_in n octets (active_cycle + (pace.pause + 1))) [] (open_readable n octets (active_cycle + (pace.pause + 1)) one some few) none_readable)
