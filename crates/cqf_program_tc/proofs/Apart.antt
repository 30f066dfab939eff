-- Two links have different variables, and so have two streams.
use Rattle.std.proofs.Common.{ℕ, ◌≡◌, ◌≢◌, ◌<◌, ◌≤◌, ◌^◌, ◌++◌, ◌==◌, ◌∙◌, ◌&&◌, Bool, true, false, not, List, [], ◌∷◌, Contains, Option, Some, All}
use Rattle.std.proofs.Common.{ap, append-nil, append_assoc, arith, codes, decimal, get_or, inl, inr, length, refl, subst, suc, sym, take, zero}
use Rattle.std.specs.Prelude.{if◌then◌else◌, nat_lt, slice_get}
use Rattle.std.specs.Bool.{IsTrue}
use Rattle.std.specs.List.{list_all, list_any}
use Rattle.std.specs.Option.{option_map_or}
use Rattle.std.specs.Str.Parse.{digits_value}
use Rattle.std.proofs.lemmas.Bool.{and_from, cases_Bool, cases_lt, eqb-true, lt-ltb}
use Rattle.std.proofs.lemmas.Bool.Decides.{nat_tests}
use Rattle.std.proofs.lemmas.Fmt.{digits_value-decimal}
use Rattle.std.proofs.lemmas.List.{append_cancel_right, get_or_past, get_or-take, length-take}
use Rattle.std.proofs.lemmas.List.Folds.{list_all-append, list_any_at}
use Rattle.std.proofs.lemmas.Option.{slice_get_cases}
use Rattle.cqf_text.proofs.DecimalLemmas.{own}
use Rattle.cqf_units.specs.Name.{is_name, is_name_byte}
use Rattle.cqf_model.proofs.Represented.{few_links}
use Rattle.cqf_model.proofs.Texts.{is_text_itself}
use Rattle.cqf_model.specs.declared.topology.Link.{Link}
use Rattle.cqf_model.specs.declared.topology.Node.{Node}
use Rattle.cqf_model.specs.declared.topology.Node.TheVariants.{Bridge, Station}
use Rattle.cqf_model.specs.declared.topology.Row.{Row}
use Rattle.cqf_model.specs.Domain.{Domain, is_text}
use Rattle.cqf_topology.specs.DomainText.{IsDomain}
use Rattle.cqf_topology.specs.NodeNames.{name_of_bridge, name_of_node}
use Rattle.cqf_admission.specs.Grants.{HaveNames}
use Rattle.cqf_program_tc.specs.Variables.{VariablesAreApart, has_word_before, is_link_taken, is_stream_taken, link_variable, numbered}
use Rattle.cqf_program_tc.specs.Variables.{stream_variable, word_byte, word_of, word_of_link, word_of_stream}
use Rattle.cqf_program_tc.proofs.Lines.{both_true}

-- a text without the capital letter that precedes a number
abbrev is_plain : ℕ → Bool
is_plain byte = not (byte == 78)

abbrev IsPlain : List ℕ → Type 0
IsPlain text = list_all is_plain text ≡ true

plain_then : (a b : List ℕ) → IsPlain a → IsPlain b → IsPlain (a ++ b)
plain_then a b of_a of_b = list_all-append is_plain a b ∙ and_from (list_all is_plain a) (list_all is_plain b) of_a of_b

-- no name has it, nor has the word of a name
plain_byte : (byte : ℕ) → is_name_byte byte ≡ true → is_plain (word_byte byte) ≡ true
plain_byte byte named = by (byte == 45)
  where
    other : is_plain byte ≡ true
    other = grind (arith, nat_tests)

    by : (b : Bool) → is_plain (if b then 95 else byte) ≡ true
    by true = refl
    by false = other

plain_bytes : (name : List ℕ) → list_all is_name_byte name ≡ true → IsPlain (word_of name)
plain_bytes [] named = refl
plain_bytes (byte ∷ name) named =
    let parts = both_true (is_name_byte byte) (list_all is_name_byte name) named in
    and_from (is_plain (word_byte byte)) (list_all is_plain (word_of name)) (plain_byte byte parts.0) (plain_bytes name parts.1)

plain_name : (name : List ℕ) → is_name name ≡ true → IsPlain (word_of name)
plain_name name named = plain_bytes name (both_true _ (list_all is_name_byte name) named).1

plain_at : (names : List (List ℕ)) → All (λ (name : List ℕ). IsTrue (is_name name)) names → (index : ℕ) → IsPlain (word_of (get_or names index []))
plain_at names named index = elim (cases_lt index (length names)) [
  | inl inside ↦ plain_name (get_or names index []) (named index [] inside)
  | inr past ↦ ap (λ (name : List ℕ). list_all is_plain (word_of name)) (get_or_past names index [] past)
]

plain_node : (d : Domain) → IsDomain d → (node : Node) → IsPlain (word_of (name_of_node d node))
plain_node d domain (Bridge bridge) = plain_at d.bridges domain.bridges_named bridge
plain_node d domain (Station station) = plain_at d.stations domain.stations_named station

plain_link : (d : Domain) → IsDomain d → (link : Link) → IsPlain (word_of_link d link)
plain_link d domain link =
    plain_then (word_of (name_of_bridge d link.from)) (codes "_" ++ word_of (name_of_node d link.to)) (plain_at d.bridges domain.bridges_named link.from)
    (plain_node d domain link.to)

-- the part of a text before the first such capital letter, and the part after it
abbrev before : List ℕ → List ℕ
before [] = []
before (x ∷ xs) = if x == 78 then [] else x ∷ before xs

abbrev following : List ℕ → List ℕ
following [] = []
following (x ∷ xs) = if x == 78 then xs else following xs

none : (b : Bool) → not b ≡ true → b ≡ false
none false h = refl
none true h = absurd cc

before_number : (word end : List ℕ) → IsPlain word → before (word ++ (95 ∷ 78 ∷ end)) ≡ word ++ 95 ∷ []
before_number [] end plain = refl
before_number (x ∷ word) end plain =
    let parts = both_true (is_plain x) (list_all is_plain word) plain in
    ap (λ (b : Bool). if b then [] else x ∷ before (word ++ (95 ∷ 78 ∷ end))) (none (x == 78) parts.0)
    ∙ ap (λ (rest : List ℕ). x ∷ rest) (before_number word end parts.1)

after_number : (word end : List ℕ) → IsPlain word → following (word ++ (95 ∷ 78 ∷ end)) ≡ end
after_number [] end plain = refl
after_number (x ∷ word) end plain =
    let parts = both_true (is_plain x) (list_all is_plain word) plain in
    ap (λ (b : Bool). if b then word ++ (95 ∷ 78 ∷ end) else following (word ++ (95 ∷ 78 ∷ end))) (none (x == 78) parts.0)
    ∙ after_number word end parts.1

-- a word with a number isn't plain
not_plain : (word end : List ℕ) → IsPlain (word ++ (95 ∷ 78 ∷ end)) → ⊥
not_plain [] end plain = cc
not_plain (x ∷ word) end plain = not_plain word end (both_true (is_plain x) (list_all is_plain (word ++ (95 ∷ 78 ∷ end))) plain).1

-- two equal variables have equal words, and both have a number or neither has; the numbers are then equal
record AreSame (a b : List ℕ) (s t : Bool) (m n : ℕ) : Type 0 where
  pub words : a ≡ b
  pub taken : s ≡ t
  pub numbers : s ≡ true → decimal m ≡ decimal n

same_parts : (a b : List ℕ) (s t : Bool) (m n : ℕ) → IsPlain a → IsPlain b → numbered a s m ≡ numbered b t n → AreSame a b s t m n
same_parts a b false false m n of_a of_b e =
    record { words = sym (append-nil a) ∙ e ∙ append-nil b; taken = refl; numbers = λ some. absurd cc }
same_parts a b true false m n of_a of_b e =
    absurd (not_plain a (decimal m) (ap (list_all is_plain) (e ∙ append-nil b) ∙ of_b))
same_parts a b false true m n of_a of_b e =
    absurd (not_plain b (decimal n) (ap (list_all is_plain) (sym e ∙ append-nil a) ∙ of_a))
same_parts a b true true m n of_a of_b e = record {
  words = append_cancel_right a b (95 ∷ []) (sym (before_number a (decimal m) of_a) ∙ ap before e ∙ before_number b (decimal n) of_b);
  taken = refl;
  numbers = λ some. sym (after_number a (decimal m) of_a) ∙ ap following e ∙ after_number b (decimal n) of_b;
}

-- a decimal is the decimal of only one number
same_number : (m n : ℕ) → m < 2 ^ 64 → n < 2 ^ 64 → decimal m ≡ decimal n → m ≡ n
same_number m n small_m small_n e = sym (digits_value-decimal own m small_m) ∙ ap (digits_value 10) e ∙ digits_value-decimal own n small_n

-- if two variables are equal, and the second is taken if its word is the first's, their numbers are equal
apart : (a b : List ℕ) (s t : Bool) (m n : ℕ) → IsPlain a → IsPlain b → m < 2 ^ 64 → n < 2 ^ 64 → (a ≡ b → t ≡ true) → numbered a s m ≡ numbered b t n → m ≡ n
apart a b s t m n of_a of_b small_m small_n taken e =
    let same = same_parts a b s t m n of_a of_b e in
    same_number m n small_m small_n (same.numbers (same.taken ∙ taken same.words))

-- the link of a number in the domain's list
pub found_link : (d : Domain) (k : ℕ) → k < length d.links → (link : Link) × (slice_get d.links k ≡ Some link) × (link ≡ get_or d.links k link)
found_link d k below = elim ((slice_get_cases d.links k).1) [
  | inl h ↦ (h.0, h.2, sym h.3)
  | inr past ↦ absurd (omega (arith, below, past.0))
]

link_taken : (d : Domain) (a b : ℕ) (first second : Link) → a < b → a < length d.links → first ≡ get_or d.links a first →
    word_of_link d first ≡ word_of_link d second → is_link_taken d b second ≡ true
link_taken d a b first second less inside is same =
    let test = λ (other : Link). is_text (word_of_link d other) (word_of_link d second) in
    let at : get_or (take b d.links) a first ≡ first = get_or-take b d.links a first less ∙ sym is in
    list_any_at test (take b d.links) a first (omega (arith, less, inside, length-take b d.links))
    (ap test at ∙ ap (λ (word : List ℕ). is_text word (word_of_link d second)) same ∙ is_text_itself (word_of_link d second))

links_below : (d : Domain) (a b : ℕ) → IsDomain d → a < b → b < length d.links → link_variable d a ≡ link_variable d b → ⊥
links_below d a b domain less inside e =
    let one = found_link d a (omega (arith, less, inside)) in
    let two = found_link d b inside in
    let few = few_links d domain.accepted in
    let show = λ (k : ℕ) (link : Option Link). option_map_or (λ (l : Link). numbered (word_of_link d l) (is_link_taken d k l) k) link [] in
    let same : numbered (word_of_link d one.0) (is_link_taken d a one.0) a ≡ numbered (word_of_link d two.0) (is_link_taken d b two.0) b =
    sym (ap (show a) one.1) ∙ e ∙ ap (show b) two.1 in
    let equal : a ≡ b =
    apart (word_of_link d one.0) (word_of_link d two.0) (is_link_taken d a one.0) (is_link_taken d b two.0) a b (plain_link d domain one.0)
    (plain_link d domain two.0) (omega (arith, less, inside, few)) (omega (arith, inside, few))
    (λ words. link_taken d a b one.0 two.0 less (omega (arith, less, inside)) one.2 words) same in
    absurd (omega (arith, less, equal))

-- a stream is taken if a stream with a lower number has its word
stream_taken : (rows : List Row) (first second : Row) → Contains rows first → first.no < second.no → word_of_stream first ≡ word_of_stream second →
    is_stream_taken rows second ≡ true
stream_taken rows first second there less same =
    list_any_at (has_word_before second) rows there.0 first there.1
    (ap (has_word_before second) there.2
    ∙ and_from (nat_lt first.no second.no) (is_text (word_of_stream first) (word_of_stream second)) (lt-ltb first.no second.no less)
    (ap (λ (word : List ℕ). is_text word (word_of_stream second)) same ∙ is_text_itself (word_of_stream second)))

streams_below : (rows : List Row) (a b : Row) → HaveNames rows → Contains rows a → Contains rows b → a.no < b.no → b.no < 2 ^ 32 →
    stream_variable rows a ≡ stream_variable rows b → ⊥
streams_below rows a b names in_a in_b less small e =
    let equal : a.no ≡ b.no =
    apart (word_of_stream a) (word_of_stream b) (is_stream_taken rows a) (is_stream_taken rows b) a.no b.no (plain_name a.name (names a in_a))
    (plain_name b.name (names b in_b)) (omega (arith, less, small)) (omega (arith, small)) (λ words. stream_taken rows a b in_a less words) e in
    absurd (omega (arith, less, equal))

pub are_apart : VariablesAreApart
are_apart = record {
  links = λ d a b domain in_a in_b other e. elim (cases_lt a b) [
    | inl less ↦ links_below d a b domain less in_b e
    | inr more ↦ links_below d b a domain (greater a b more other) in_a (sym e)
  ];
  streams = λ rows a b names in_a in_b small_a small_b other e. elim (cases_lt a.no b.no) [
    | inl less ↦ streams_below rows a b names in_a in_b less small_b e
    | inr more ↦ streams_below rows b a names in_b in_a (greater a.no b.no more other) small_a (sym e)
  ];
}
  where
    greater : (m n : ℕ) → n ≤ m → m ≢ n → n < m
    greater m n more other = elim (cases_lt n m) [
      | inl less ↦ less
      | inr past ↦ absurd (other (omega (arith, more, past)))
    ]
