-- The lines of the script before the functions of bridges, and what is found among them.
use Rattle.std.proofs.Common.{ℕ, ◌≡◌, ◌++◌, ◌==◌, ◌∙◌, ◌||◌, ◌/◌, ◌%◌, ◌+◌, Bool, true, false, not, List, [], ◌∷◌, append_assoc, ap, codes, cond, decimal}
use Rattle.std.proofs.Common.{arith, length, nat_le, refl, subst, suc, zero}
use Rattle.std.specs.List.{list_all, list_any}
use Rattle.std.specs.Prelude.{if◌then◌else◌}
use Rattle.std.proofs.lemmas.Bool.{and_from}
use Rattle.std.proofs.lemmas.Bool.Decides.{nat_tests}
use Rattle.cqf_lists.specs.Lists.{each_below}
use Rattle.cqf_text.specs.Lines.{lines_of}
use Rattle.cqf_gates.specs.GateListText.{hex_digit, line_of_gates}
use Rattle.cqf_model.specs.declared.topology.Row.{Row}
use Rattle.cqf_model.specs.Domain.{Domain, is_text}
use Rattle.cqf_model.specs.GateList.{Entry, port_list}
use Rattle.cqf_model.specs.Limits.{streams_within}
use Rattle.cqf_topology.specs.DomainText.{IsDomain}
use Rattle.cqf_program_tc.specs.Bridge.{has_own_guard, pauses}
use Rattle.cqf_program_tc.specs.Calls.{head_of, lines_after, lines_before, lines_of_function}
use Rattle.cqf_program_tc.specs.Checks.{checks_text}
use Rattle.cqf_program_tc.specs.Program.{object_end, object_text, octal, octal_word, program_text}
use Rattle.cqf_program_tc.specs.Text.{bridges_text, by_list_command, by_list_lines, by_list_text, choice_text, class_words, filter_words, list_gates_text}
use Rattle.cqf_program_tc.specs.Text.{common_words, gate_command, given_text, given_words, last_gate, link_note, link_text, list_command, multiple, name_text}
use Rattle.cqf_program_tc.specs.Text.{notes_by, notes_text, port_end, port_words}
use Rattle.cqf_program_tc.specs.Text.{names_text, no_gates_text, old_gates_text, opening_text, tc_gate_text, tc_text, undo_gate, undo_list, usage_text}
use Rattle.cqf_program_tc.specs.Words.{gate_words, tx_words}
use Rattle.cqf_program_tc.proofs.Lines.{IsWithin, Reads, Skips, after_within, begins, bridge_within, decimal_within, is_within, none_within}
use Rattle.cqf_program_tc.proofs.Lines.{both_true, joined, reads_joined, skips, within_then}

-- the heads of the functions that are searched begin with one of these bytes
abbrev pub is_head_byte : ℕ → Bool
is_head_byte byte = (byte == 98) || ((byte == 103) || (byte == 108))

no_b : (x y : ℕ) (xs ys : List ℕ) → is_head_byte y ≡ true → not (is_head_byte x) ≡ true → is_text (x ∷ xs) (y ∷ ys) ≡ false
no_b x y xs ys head other = grind (arith, nat_tests)

-- a line that begins with another byte is none of these heads
other_line : (y : ℕ) (head line : List ℕ) → is_head_byte y ≡ true → not (begins is_head_byte line) ≡ true → is_text line (y ∷ head) ≡ false
other_line y head [] of_head other = refl
other_line y head (x ∷ line) of_head other = no_b x y line head of_head other

-- such lines are skipped
pub passed_over : (y : ℕ) (head : List ℕ) (lines more : List (List ℕ)) → is_head_byte y ≡ true →
    list_all (λ (line : List ℕ). not (begins is_head_byte line)) lines ≡ true →
    lines_after (y ∷ head) (lines ++ more) ≡ lines_after (y ∷ head) more
passed_over y head [] more of_head other = refl
passed_over y head (line ∷ lines) more of_head other =
    let parts = both_true (not (begins is_head_byte line)) (list_all (λ (line : List ℕ). not (begins is_head_byte line)) lines) other in
    ap (λ (b : Bool). cond b (lines ++ more) (lines_after (y ∷ head) (lines ++ more))) (other_line y head line of_head parts.0)
    ∙ passed_over y head lines more of_head parts.1

-- and so is a text of them
pub text_passed : (y : ℕ) (head text rest : List ℕ) → is_head_byte y ≡ true → Skips is_head_byte text →
    lines_after (y ∷ head) (lines_of (text ++ rest)) ≡ lines_after (y ∷ head) (lines_of rest)
text_passed y head text rest of_head skipped =
    ap (lines_after (y ∷ head)) (skipped.reads rest) ∙ passed_over y head skipped.lines (lines_of rest) of_head skipped.other

-- the texts before the functions
multiple_within : (d : Domain) (rows : List Row) → IsWithin (multiple d rows)
multiple_within d rows = decimal_within _

names_within : (d : Domain) → IsDomain d → (n : ℕ) → IsWithin (each_below (name_text d) n)
names_within d domain zero = refl
names_within d domain (suc n) = within_then (each_below (name_text d) n) (name_text d n) (names_within d domain n) (bridge_within d domain n)

usage_skipped : (d : Domain) (rows : List Row) → Skips is_head_byte (usage_text d rows)
usage_skipped d rows = skips is_head_byte (usage_text d rows) (none_within is_head_byte (multiple d rows) _ (multiple_within d rows) refl)
    (after_within (multiple d rows) _ (multiple_within d rows) refl)

notes_skipped : (whole software : Bool) → Skips is_head_byte (notes_by whole software)
notes_skipped true true = skips is_head_byte (notes_by true true) refl refl
notes_skipped true false = skips is_head_byte (notes_by true false) refl refl
notes_skipped false true = skips is_head_byte (notes_by false true) refl refl
notes_skipped false false = skips is_head_byte (notes_by false false) refl refl

opening_skipped : (d : Domain) → IsDomain d → Skips is_head_byte (opening_text d)
opening_skipped d domain = skips is_head_byte (opening_text d) (none_within is_head_byte (names_text d) _ (names_within d domain (length d.bridges)) refl)
    (after_within (names_text d) _ (names_within d domain (length d.bridges)) refl)

given_skipped : (d : Domain) (rows : List Row) → Skips is_head_byte (given_text d rows)
given_skipped d rows =
    let within = multiple_within d rows in
    skips is_head_byte (given_text d rows)
    (none_within is_head_byte (multiple d rows) _ within (none_within is_head_byte (multiple d rows) _ within (none_within is_head_byte (multiple d rows) _ within refl)))
    (after_within (multiple d rows) _ within (after_within (multiple d rows) _ within (after_within (multiple d rows) _ within refl)))

checks_skipped : Skips is_head_byte checks_text
checks_skipped = skips is_head_byte checks_text refl refl

-- the digits of an octet are within one line
digit_within : (n : ℕ) → is_within (48 + n) ≡ true
digit_within n = grind (arith, nat_tests)

octal_within : (octet : ℕ) → IsWithin (octal octet)
octal_within octet =
    and_from (is_within (48 + octet / 64)) _ (digit_within (octet / 64))
    (and_from (is_within (48 + octet / 8 % 8)) _ (digit_within (octet / 8 % 8)) (and_from (is_within (48 + octet % 8)) true (digit_within (octet % 8)) refl))

word_within : (n : ℕ) → IsWithin (octal_word n)
word_within n =
    within_then (octal (n % 256)) (octal (n / 256 % 256) ++ (octal (n / 65536 % 256) ++ octal (n / 16777216 % 256))) (octal_within (n % 256))
    (within_then (octal (n / 256 % 256)) (octal (n / 65536 % 256) ++ octal (n / 16777216 % 256)) (octal_within (n / 256 % 256))
    (within_then (octal (n / 65536 % 256)) (octal (n / 16777216 % 256)) (octal_within (n / 65536 % 256)) (octal_within (n / 16777216 % 256))))

object_skipped : (n : ℕ) → Skips is_head_byte (object_text n)
object_skipped n =
    skips is_head_byte (object_text n) (none_within is_head_byte (octal_word n) object_end (word_within n) refl)
    (after_within (octal_word n) object_end (word_within n) refl)

nothing_skipped : Skips is_head_byte []
nothing_skipped = skips is_head_byte [] refl refl

program_skipped : (d : Domain) (software : Bool) → Skips is_head_byte (program_text d software)
program_skipped d true = object_skipped d.cycle_time
program_skipped d false = nothing_skipped

note_by : (own : Bool) → Skips is_head_byte (if own then codes "# shellcheck disable=SC2086\n" else [])
note_by true = skips is_head_byte (codes "# shellcheck disable=SC2086\n") refl refl
note_by false = nothing_skipped

note_skipped : (d : Domain) → Skips is_head_byte (link_note d)
note_skipped d = note_by (list_any has_own_guard d.links)

old_gates_by : (few : Bool) → Skips is_head_byte (old_gates_text (if few then codes "1024" else codes "16384"))
old_gates_by true = skips is_head_byte (old_gates_text (codes "1024")) refl refl
old_gates_by false = skips is_head_byte (old_gates_text (codes "16384")) refl refl

old_gates_skipped : (d : Domain) → Skips is_head_byte (old_gates_text (last_gate d))
old_gates_skipped d = old_gates_by (nat_le (streams_within d.limits) 1024)

no_gates_skipped : Skips is_head_byte no_gates_text
no_gates_skipped = skips is_head_byte no_gates_text refl refl

-- the words of a list are within one line
hex_within : (n : ℕ) → is_within (hex_digit n) ≡ true
hex_within n = grind (arith, nat_tests)

pub tx_within : (entries : List Entry) → IsWithin (tx_words entries)
tx_within [] = refl
tx_within (entry ∷ entries) =
    let line : IsWithin (line_of_gates entry) =
    and_from (is_within (hex_digit (entry.0 / 16))) _ (hex_within (entry.0 / 16))
    (and_from (is_within (hex_digit (entry.0 % 16))) _ (hex_within (entry.0 % 16)) (decimal_within entry.1)) in
    within_then (line_of_gates entry) (tx_words entries) line (tx_within entries)

list_within : (d : Domain) (software : Bool) → IsWithin (list_command d software)
list_within d software =
    within_then (port_words d) (port_end software) (of_words (list_any has_own_guard d.links)) (end_of_port software)
  where
    common : IsWithin (common_words d)
    common = tx_within (port_list d.cycle_time d.guard)

    of_words : (own : Bool) → IsWithin (if own then given_words d else common_words d)
    of_words true = within_then (common_words d) (codes "}") common refl
    of_words false = common

    end_of_port : (b : Bool) → IsWithin (port_end b)
    end_of_port true = refl
    end_of_port false = refl

-- so are the words of a filter
filter_within : (software : Bool) → IsWithin (filter_words software)
filter_within true = refl
filter_within false = refl

class_within : (software : Bool) → IsWithin (class_words software)
class_within true = refl
class_within false = refl

words_within : (n : ℕ) → IsWithin (gate_words n)
words_within n = within_then (decimal n) _ (decimal_within n) (within_then (decimal n) (codes " 7 \"$5\"") (decimal_within n) refl)

gate_within : (d : Domain) (software : Bool) → IsWithin (gate_command d software)
gate_within d software =
    within_then (filter_words software) _ (filter_within software)
    (within_then (class_words software) _ (class_within software) (words_within d.cycle_time))

by_list_within : (software : Bool) → IsWithin (by_list_command software)
by_list_within true = refl
by_list_within false = refl

-- the lines of the two functions
abbrev lines_of_link : Domain → Bool → List (List ℕ)
lines_of_link d software =
    codes "# the transmission gates of the interface $1" ∷ codes "link() {" ∷ list_command d software ∷ undo_list ∷ codes "}" ∷ [] ∷ []

link_reads : (d : Domain) (software : Bool) → Reads (link_text d software) (lines_of_link d software)
link_reads d software = reads_joined (lines_of_link d software) (refl, (refl, (list_within d software, (refl, (refl, (refl, tt))))))

abbrev lines_of_gate : Domain → Bool → List (List ℕ)
lines_of_gate d software =
    codes "# stream gate $2 at the interface $1: address $3, VLAN $4, at most $5 octets a cycle" ∷ codes "gate() {" ∷ gate_command d software ∷ undo_gate
    ∷ codes "}" ∷ [] ∷ []

gate_reads : (d : Domain) (software : Bool) → Reads (tc_gate_text d software) (lines_of_gate d software)
gate_reads d software =
    subst (λ (text : List ℕ). Reads text (lines_of_gate d software)) same
    (reads_joined (lines_of_gate d software) (refl, (refl, (gate_within d software, (refl, (refl, (refl, tt)))))))
  where
    -- for hardware and for software
    same : joined (lines_of_gate d software) ≡ tc_gate_text d software
    same = by software
      where
        by : (b : Bool) → joined (lines_of_gate d b) ≡ tc_gate_text d b
        by true = refl
        by false = refl

-- the lines after a function's head in the script are those after it among the functions
abbrev last_of : Domain → Bool → (ℕ → ℕ) → List Row → List ℕ
last_of d software gates rows = bridges_text d gates rows ++ choice_text d software

abbrev rest_of : Domain → Bool → (ℕ → ℕ) → List Row → List ℕ
rest_of d software gates rows = list_gates_text software rows ++ last_of d software gates rows

module _ (d : Domain) (software : Bool) (gates : ℕ → ℕ) (rows : List Row) where
  to_functions : (y : ℕ) (head : List ℕ) → IsDomain d → is_head_byte y ≡ true →
      lines_after (y ∷ head) (lines_of (tc_text d software gates rows)) ≡ lines_after (y ∷ head)
      (lines_of (link_text d software ++ ((old_gates_text (last_gate d)) ++ (no_gates_text ++ (tc_gate_text d software ++ rest_of d software gates rows)))))
  to_functions y head domain of_head =
      let rest = rest_of d software gates rows in
      let tail = last_of d software gates rows in
      let own_gates = tc_gate_text d software ++ list_gates_text software rows in
      let last = no_gates_text ++ own_gates in
      let after_link = (old_gates_text (last_gate d)) ++ last in
      let after_note = link_text d software ++ after_link in
      let after_program = link_note d ++ after_note in
      let after_checks = program_text d software ++ after_program in
      let functions = link_text d software ++ ((old_gates_text (last_gate d)) ++ (no_gates_text ++ (tc_gate_text d software ++ rest))) in
      let one : (checks_text ++ after_checks) ++ tail ≡ checks_text ++ (program_text d software ++ (link_note d ++ functions)) =
      append_assoc checks_text after_checks tail
      ∙ ap (λ text. checks_text ++ text) (append_assoc (program_text d software) after_program tail
      ∙ ap (λ text. program_text d software ++ text) (append_assoc (link_note d) after_note tail
      ∙ ap (λ text. link_note d ++ text) (append_assoc (link_text d software) after_link tail
      ∙ ap (λ text. link_text d software ++ text) (append_assoc (old_gates_text (last_gate d)) last tail
      ∙ ap (λ text. (old_gates_text (last_gate d)) ++ text) (append_assoc no_gates_text own_gates tail
      ∙ ap (λ text. no_gates_text ++ text) (append_assoc (tc_gate_text d software) (list_gates_text software rows) tail)))))) in
      text_passed y head (usage_text d rows) _ of_head (usage_skipped d rows)
      ∙ text_passed y head (notes_text d software) _ of_head (notes_skipped (d.overhead == 0) software)
      ∙ text_passed y head (opening_text d) _ of_head (opening_skipped d domain)
      ∙ text_passed y head (given_text d rows) _ of_head (given_skipped d rows)
      ∙ ap (λ text. lines_after (y ∷ head) (lines_of text)) one
      ∙ text_passed y head checks_text (program_text d software ++ (link_note d ++ functions)) of_head checks_skipped
      ∙ text_passed y head (program_text d software) (link_note d ++ functions) of_head (program_skipped d software)
      ∙ text_passed y head (link_note d) functions of_head (note_skipped d)

  -- the function of a link is read
  pub link_found : IsDomain d → lines_of_function (codes "link") (tc_text d software gates rows) ≡ list_command d software ∷ undo_list ∷ []
  link_found domain =
      ap (lines_before (codes "}")) (to_functions 108 (codes "ink() {") domain refl
      ∙ ap (lines_after (head_of (codes "link")))
      (link_reads d software ((old_gates_text (last_gate d)) ++ (no_gates_text ++ (tc_gate_text d software ++ rest_of d software gates rows)))))

  -- after the function of a link, other functions are searched among those of gates and of bridges
  to_gate : (y : ℕ) (head : List ℕ) → IsDomain d → is_head_byte y ≡ true → is_text (codes "link() {") (y ∷ head) ≡ false →
      lines_after (y ∷ head) (lines_of (tc_text d software gates rows))
      ≡ lines_after (y ∷ head) (lines_of (tc_gate_text d software ++ rest_of d software gates rows))
  to_gate y head domain of_head other =
      let following = (old_gates_text (last_gate d)) ++ (no_gates_text ++ (tc_gate_text d software ++ rest_of d software gates rows)) in
      let more = list_command d software ∷ undo_list ∷ codes "}" ∷ [] ∷ lines_of following in
      to_functions y head domain of_head
      ∙ ap (lines_after (y ∷ head)) (link_reads d software following)
      ∙ passed_over y head (codes "# the transmission gates of the interface $1" ∷ []) (codes "link() {" ∷ more) of_head refl
      ∙ ap (λ (b : Bool). cond b more (lines_after (y ∷ head) more)) other
      ∙ passed_over y head (list_command d software ∷ undo_list ∷ codes "}" ∷ [] ∷ []) (lines_of following) of_head refl
      ∙ text_passed y head (old_gates_text (last_gate d)) (no_gates_text ++ (tc_gate_text d software ++ rest_of d software gates rows)) of_head
      (old_gates_skipped d)
      ∙ text_passed y head no_gates_text (tc_gate_text d software ++ rest_of d software gates rows) of_head no_gates_skipped

  -- the function of a gate is read
  pub gate_found : IsDomain d → lines_of_function (codes "gate") (tc_text d software gates rows) ≡ gate_command d software ∷ undo_gate ∷ []
  gate_found domain =
      ap (lines_before (codes "}")) (to_gate 103 (codes "ate() {") domain refl refl
      ∙ ap (lines_after (head_of (codes "gate"))) (gate_reads d software (rest_of d software gates rows)))

-- the lines of the function that sets a gate by a list
abbrev lines_of_by_list : Bool → List (List ℕ)
lines_of_by_list software =
    codes "# stream gate $2 at the interface $1: address $3, VLAN $4, and then the entries of its list" ∷ codes "gate_by_list() {"
    ∷ (by_list_lines software ++ (codes "}" ∷ [] ∷ []))

by_list_reads : (software : Bool) → Reads (by_list_text software) (lines_of_by_list software)
by_list_reads true = reads_joined (lines_of_by_list true) (refl, (refl, (refl, (refl, (by_list_within true, (refl, (refl, (refl, tt))))))))
by_list_reads false = reads_joined (lines_of_by_list false) (refl, (refl, (refl, (refl, (by_list_within false, (refl, (refl, (refl, tt))))))))

module _ (d : Domain) (software : Bool) (gates : ℕ → ℕ) (rows : List Row) where
  -- it is read if a stream pauses
  pub by_list_found : IsDomain d → list_any pauses rows ≡ true →
      lines_of_function (codes "gate_by_list") (tc_text d software gates rows) ≡ by_list_lines software
  by_list_found domain some =
      let head = head_of (codes "gate_by_list") in
      let tail = last_of d software gates rows in
      ap (lines_before (codes "}")) (to_gate d software gates rows 103 (codes "ate_by_list() {") domain refl refl
      ∙ ap (lines_after head) (gate_reads d software (rest_of d software gates rows))
      ∙ ap (λ (b : Bool). lines_after head (lines_of ((if b then by_list_text software else []) ++ tail))) some
      ∙ ap (lines_after head) (by_list_reads software tail))

  -- and is skipped if another function is searched
  lists_passed : (head : List ℕ) →
      lines_after (98 ∷ head) (lines_of (rest_of d software gates rows)) ≡ lines_after (98 ∷ head) (lines_of (last_of d software gates rows))
  lists_passed head = by_test (list_any pauses rows)
    where
      by_test : (b : Bool) → lines_after (98 ∷ head) (lines_of ((if b then by_list_text software else []) ++ last_of d software gates rows))
          ≡ lines_after (98 ∷ head) (lines_of (last_of d software gates rows))
      by_test true = ap (lines_after (98 ∷ head)) (by_list_reads software (last_of d software gates rows))
      by_test false = refl

  -- and the functions of bridges are searched after it
  pub to_bridges : (head : List ℕ) → IsDomain d →
      lines_after (98 ∷ head) (lines_of (tc_text d software gates rows))
      ≡ lines_after (98 ∷ head) (lines_of (bridges_text d gates rows ++ choice_text d software))
  to_bridges head domain =
      to_gate d software gates rows 98 head domain refl refl ∙ ap (lines_after (98 ∷ head)) (gate_reads d software (rest_of d software gates rows))
      ∙ lists_passed head
