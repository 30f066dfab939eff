-- The parts of a line, read one after the other.
use Rattle.std.proofs.Common.{ℕ, zero, suc, ◌≡◌, ◌<◌, ◌≤◌, ◌^◌, ◌%◌, ◌/◌, ◌++◌, ◌==◌, ◌∙◌, ◌&&◌, ◌||◌, Bool, true, false, not, List, [], ◌∷◌, Option, Some, None}
use Rattle.std.proofs.Common.{All, IsTrue, ap, append_assoc, arith, cond, decimal, eq-eqb, get_or, inl, inr, leb, length, refl, slice_get, sym}
use Rattle.std.specs.Prelude.{nat_le}
use Rattle.std.specs.Char.{is_ascii_digit}
use Rattle.std.specs.Fmt.{digit_glyph, digits, digits_onto}
use Rattle.std.specs.List.{list_all}
use Rattle.std.specs.Option.{option_map_or}
use Rattle.std.specs.Str.Parse.{digits_value}
use Rattle.std.proofs.lemmas.Bool.{and_from, cases_Bool, cases_lt}
use Rattle.std.proofs.lemmas.Bool.Decides.{nat_tests}
use Rattle.std.proofs.lemmas.Fmt.{decimal_nonempty, digits_decimal, digits_value-decimal, length-decimal-le}
use Rattle.std.proofs.lemmas.List.{get_or_past}
use Rattle.std.proofs.lemmas.List.Folds.{list_all-append}
use Rattle.cqf_addressing.specs.Interface.{is_alphanumeric, is_interface, is_interface_byte}
use Rattle.cqf_addressing.specs.Mac.{hex_digit, hex_pair, mac_text}
use Rattle.cqf_model.specs.declared.topology.Link.{Link}
use Rattle.cqf_model.specs.declared.topology.Node.{Node}
use Rattle.cqf_model.specs.declared.topology.Node.TheVariants.{Bridge, Station}
use Rattle.cqf_model.specs.Domain.{Domain}
use Rattle.cqf_program_json.specs.Arrays.{name_or_null, number_or_null}
use Rattle.cqf_program_json.specs.Items.{IsInterface, past, up_to}
use Rattle.cqf_text.proofs.DecimalLemmas.{own}
use Rattle.cqf_text.specs.Decimal.{decimal_value, is_decimal}
use Rattle.cqf_text.specs.Lines.{is_line_feed}
use Rattle.cqf_topology.specs.DomainText.{IsDomain}
use Rattle.cqf_topology.specs.NodeNames.{ends_of_link, name_of_bridge, name_of_link, name_of_node}
use Rattle.cqf_units.specs.Name.{is_name, is_name_byte}

pub both_true : (a b : Bool) → (a && b) ≡ true → (a ≡ true) × (b ≡ true)
both_true true b h = (refl, h)
both_true false b h = absurd cc

-- a byte that ends neither a line nor a value: no line feed, blank, quotation mark or comma
abbrev pub is_plain : ℕ → Bool
is_plain byte = nat_le 45 byte

abbrev pub IsPlain : List ℕ → Type 0
IsPlain text = list_all is_plain text ≡ true

-- a text without a line feed
abbrev pub is_within : ℕ → Bool
is_within byte = not (is_line_feed byte)

abbrev pub IsWithin : List ℕ → Type 0
IsWithin text = list_all is_within text ≡ true

pub within_then : (a b : List ℕ) → IsWithin a → IsWithin b → IsWithin (a ++ b)
within_then a b of_a of_b = list_all-append is_within a b ∙ and_from (list_all is_within a) (list_all is_within b) of_a of_b

pub plain_then : (a b : List ℕ) → IsPlain a → IsPlain b → IsPlain (a ++ b)
plain_then a b of_a of_b = list_all-append is_plain a b ∙ and_from (list_all is_plain a) (list_all is_plain b) of_a of_b

byte_within : (byte : ℕ) → is_plain byte ≡ true → is_within byte ≡ true
byte_within byte plain = grind (arith, nat_tests)

pub plain_within : (text : List ℕ) → IsPlain text → IsWithin text
plain_within [] plain = refl
plain_within (x ∷ text) plain =
    let parts = both_true (is_plain x) (list_all is_plain text) plain in
    and_from (is_within x) (list_all is_within text) (byte_within x parts.0) (plain_within text parts.1)

-- such a byte isn't the one at which a value ends
differs : (x byte : ℕ) → is_plain x ≡ true → byte < 45 → (x == byte) ≡ false
differs x byte plain low = grind (arith, nat_tests)

-- a value is read up to its end, and what follows it is read next
pub up_to_end : (byte : ℕ) (text rest : List ℕ) → byte < 45 → IsPlain text → up_to byte (text ++ byte ∷ rest) ≡ text
up_to_end byte [] rest low plain = ap (λ (b : Bool). cond b [] (byte ∷ up_to byte rest)) (eq-eqb byte byte refl)
up_to_end byte (x ∷ text) rest low plain =
    let parts = both_true (is_plain x) (list_all is_plain text) plain in
    ap (λ (b : Bool). cond b [] (x ∷ up_to byte (text ++ byte ∷ rest))) (differs x byte parts.0 low)
    ∙ ap (λ (front : List ℕ). x ∷ front) (up_to_end byte text rest low parts.1)

pub past_end : (byte : ℕ) (text rest : List ℕ) → byte < 45 → IsPlain text → past byte (text ++ byte ∷ rest) ≡ rest
past_end byte [] rest low plain = ap (λ (b : Bool). cond b rest (past byte rest)) (eq-eqb byte byte refl)
past_end byte (x ∷ text) rest low plain =
    let parts = both_true (is_plain x) (list_all is_plain text) plain in
    ap (λ (b : Bool). cond b (text ++ byte ∷ rest) (past byte (text ++ byte ∷ rest))) (differs x byte parts.0 low)
    ∙ past_end byte text rest low parts.1

-- ---- texts that are plain

glyph_plain : (n : ℕ) → is_plain (digit_glyph false n) ≡ true
glyph_plain n = grind (arith, nat_tests)

onto_plain : (count n : ℕ) (rest : List ℕ) → IsPlain rest → IsPlain (digits_onto count 10 false n rest)
onto_plain zero n rest plain = plain
onto_plain (suc count) n rest plain = elim (cases_Bool (n / 10 == 0)) [
  | inl last ↦ ap (λ b. list_all is_plain (cond b (digit_glyph false (n % 10) ∷ rest)
      (digits_onto count 10 false (n / 10) (digit_glyph false (n % 10) ∷ rest)))) last ∙ more
  | inr others ↦ ap (λ b. list_all is_plain (cond b (digit_glyph false (n % 10) ∷ rest)
      (digits_onto count 10 false (n / 10) (digit_glyph false (n % 10) ∷ rest)))) others
      ∙ onto_plain count (n / 10) (digit_glyph false (n % 10) ∷ rest) more
]
  where
    more : IsPlain (digit_glyph false (n % 10) ∷ rest)
    more = and_from _ _ (glyph_plain (n % 10)) plain

-- a number
pub decimal_plain : (n : ℕ) → IsPlain (decimal n)
unfolding digits
decimal_plain n = onto_plain 64 n [] refl

pub number_plain : (n : Option ℕ) → IsPlain (number_or_null n)
number_plain None = refl
number_plain (Some n) = decimal_plain n

-- and it is read as itself
pub decimal_read : (n : ℕ) → n < 2 ^ 64 → decimal_value (decimal n) ≡ Some n
decimal_read n small =
    let some = decimal_nonempty n small in
    let short = length-decimal-le 20 n (omega arith) (omega (arith, small)) small in
    let digits : list_all is_ascii_digit (decimal n) ≡ true = digits_decimal own n small in
    let value : digits_value 10 (decimal n) ≡ n = digits_value-decimal own n small in
    let one : leb 1 (length (decimal n)) ≡ true = grind (arith, nat_tests) in
    let twenty : leb (length (decimal n)) 20 ≡ true = grind (arith, nat_tests) in
    let form : is_decimal (decimal n) ≡ true = rw (one, twenty, digits) in
    rw (form, value)

-- a text whose bytes pass a test that only plain bytes pass
all_plain : (test : ℕ → Bool) → ((byte : ℕ) → test byte ≡ true → is_plain byte ≡ true) → (text : List ℕ) → list_all test text ≡ true → IsPlain text
all_plain test each [] all = refl
all_plain test each (x ∷ text) all =
    let parts = both_true (test x) (list_all test text) all in
    and_from (is_plain x) (list_all is_plain text) (each x parts.0) (all_plain test each text parts.1)

name_byte_plain : (byte : ℕ) → is_name_byte byte ≡ true → is_plain byte ≡ true
name_byte_plain byte h = grind (arith, nat_tests)

letter_plain : (byte : ℕ) → is_alphanumeric byte ≡ true → is_plain byte ≡ true
letter_plain byte h = grind (arith, nat_tests)

interface_byte_plain : (byte : ℕ) → is_interface_byte byte ≡ true → is_plain byte ≡ true
interface_byte_plain byte h = grind (arith, nat_tests)

-- a name
pub name_plain : (name : List ℕ) → is_name name ≡ true → IsPlain name
name_plain name named = all_plain is_name_byte name_byte_plain name (both_true _ (list_all is_name_byte name) named).1

-- the name of an interface
pub interface_plain : (name : List ℕ) → is_interface name ≡ true → IsPlain name
interface_plain [] named = refl
interface_plain (first ∷ rest) named =
    let parts = both_true (is_alphanumeric first && nat_le (length rest) 14) (list_all is_interface_byte rest) named in
    let front = both_true (is_alphanumeric first) (nat_le (length rest) 14) parts.0 in
    and_from (is_plain first) (list_all is_plain rest) (letter_plain first front.0) (all_plain is_interface_byte interface_byte_plain rest parts.1)

named_at : (names : List (List ℕ)) → All (λ (name : List ℕ). IsTrue (is_name name)) names → (index : ℕ) → IsPlain (get_or names index [])
named_at names named index = elim (cases_lt index (length names)) [
  | inl inside ↦ name_plain (get_or names index []) (named index [] inside)
  | inr past ↦ ap (list_all is_plain) (get_or_past names index [] past)
]

-- the names of nodes and links
pub bridge_plain : (d : Domain) → IsDomain d → (bridge : ℕ) → IsPlain (name_of_bridge d bridge)
bridge_plain d domain bridge = named_at d.bridges domain.bridges_named bridge

node_plain : (d : Domain) → IsDomain d → (node : Node) → IsPlain (name_of_node d node)
node_plain d domain (Bridge bridge) = bridge_plain d domain bridge
node_plain d domain (Station station) = named_at d.stations domain.stations_named station

pub link_plain : (d : Domain) → IsDomain d → (link : ℕ) → IsPlain (name_of_link d link)
link_plain d domain number = of_link (slice_get d.links number)
  where
    of_link : (link : Option Link) → IsPlain (option_map_or (ends_of_link d) link [])
    of_link None = refl
    of_link (Some link) =
        plain_then (name_of_bridge d link.from) (62 ∷ name_of_node d link.to) (bridge_plain d domain link.from) (node_plain d domain link.to)

-- ---- texts in quotation marks, and `null`

quotes_within : (text : List ℕ) → IsPlain text → IsWithin (34 ∷ (text ++ 34 ∷ []))
quotes_within text plain = within_then text (34 ∷ []) (plain_within text plain) refl

pub quoted_within : (name : Option (List ℕ)) → IsInterface name → IsWithin (name_or_null name)
quoted_within None named = refl
quoted_within (Some name) named = quotes_within name (interface_plain name named)

pub text_within : (text : List ℕ) → IsPlain text → IsWithin (34 ∷ (text ++ 34 ∷ []))
text_within text plain = quotes_within text plain

hex_plain : (n : ℕ) → is_plain (hex_digit n) ≡ true
hex_plain n = grind (arith, nat_tests)

pair_plain : (octet : ℕ) → IsPlain (hex_pair octet)
pair_plain octet = and_from _ _ (hex_plain (octet / 16)) (and_from _ _ (hex_plain (octet % 16)) refl)

pair_then : (octet : ℕ) (more : List ℕ) → IsPlain more → IsPlain (hex_pair octet ++ (58 ∷ [] ++ more))
pair_then octet more plain = plain_then (hex_pair octet) (58 ∷ more) (pair_plain octet) plain

-- an address
pub mac_plain : (octets : List ℕ) → IsPlain (mac_text octets)
mac_plain octets =
    let last : List ℕ = hex_pair (get_or octets 5 0) in
    let two : List ℕ = hex_pair (get_or octets 4 0) ++ (58 ∷ [] ++ last) in
    let three : List ℕ = hex_pair (get_or octets 3 0) ++ (58 ∷ [] ++ two) in
    let four : List ℕ = hex_pair (get_or octets 2 0) ++ (58 ∷ [] ++ three) in
    let five : List ℕ = hex_pair (get_or octets 1 0) ++ (58 ∷ [] ++ four) in
    pair_then (get_or octets 0 0) five (pair_then (get_or octets 1 0) four (pair_then (get_or octets 2 0) three (pair_then (get_or octets 3 0) two
    (pair_then (get_or octets 4 0) last (pair_plain (get_or octets 5 0))))))
