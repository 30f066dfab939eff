-- The bytes of variables: those of words of names, of a number, `_` and `N`.
use Rattle.std.proofs.Common.{ℕ, ◌≡◌, ◌++◌, ◌==◌, ◌∙◌, ◌/◌, ◌%◌, Bool, true, false, not, List, [], ◌∷◌, All, Option, Some, None, ap, arith, codes, cond, decimal}
use Rattle.std.proofs.Common.{get_or, inl, inr, length, refl, suc, zero}
use Rattle.std.specs.Prelude.{if◌then◌else◌, slice_get}
use Rattle.std.specs.Bool.{IsTrue}
use Rattle.std.specs.Fmt.{digit_glyph, digits, digits_onto}
use Rattle.std.specs.List.{list_all}
use Rattle.std.specs.Option.{option_map_or}
use Rattle.std.proofs.lemmas.Bool.{and_from, cases_Bool, cases_lt}
use Rattle.std.proofs.lemmas.Bool.Decides.{nat_tests}
use Rattle.std.proofs.lemmas.List.{get_or_past}
use Rattle.std.proofs.lemmas.List.Folds.{list_all-append}
use Rattle.cqf_units.specs.Name.{is_name, is_name_byte}
use Rattle.cqf_model.specs.declared.topology.Link.{Link}
use Rattle.cqf_model.specs.declared.topology.Node.{Node}
use Rattle.cqf_model.specs.declared.topology.Node.TheVariants.{Bridge, Station}
use Rattle.cqf_model.specs.declared.topology.Row.{Row}
use Rattle.cqf_model.specs.Domain.{Domain}
use Rattle.cqf_topology.specs.DomainText.{IsDomain}
use Rattle.cqf_topology.specs.NodeNames.{name_of_bridge, name_of_node}
use Rattle.cqf_program_tc.specs.Variables.{is_link_taken, is_stream_taken, link_variable, numbered, stream_variable, word_byte, word_of, word_of_link}
use Rattle.cqf_program_tc.specs.Variables.{word_of_stream}
use Rattle.cqf_program_tc.proofs.Lines.{IsWithin, both_true, is_within}

-- a test that each of these bytes passes
pub record PassAll (test : ℕ → Bool) : Type 0 where
  pub of_name : (byte : ℕ) → is_name_byte byte ≡ true → test byte ≡ true
  pub of_digit : (n : ℕ) → test (digit_glyph false n) ≡ true
  pub line : test 95 ≡ true
  pub mark : test 78 ≡ true

module _ (test : ℕ → Bool) (pass : PassAll test) where
  then_all : (a b : List ℕ) → list_all test a ≡ true → list_all test b ≡ true → list_all test (a ++ b) ≡ true
  then_all a b of_a of_b = list_all-append test a b ∙ and_from (list_all test a) (list_all test b) of_a of_b

  one_of : (b : Bool) (last more : List ℕ) → list_all test last ≡ true → list_all test more ≡ true → list_all test (cond b last more) ≡ true
  one_of true last more of_last of_more = of_last
  one_of false last more of_last of_more = of_more

  digits_all : (count n : ℕ) (following : List ℕ) → list_all test following ≡ true → list_all test (digits_onto count 10 false n following) ≡ true
  digits_all zero n following all = all
  digits_all (suc count) n following all =
      let last : List ℕ = digit_glyph false (n % 10) ∷ following in
      let more : list_all test last ≡ true = and_from _ _ (pass.of_digit (n % 10)) all in
      one_of (n / 10 == 0) last (digits_onto count 10 false (n / 10) last) more (digits_all count (n / 10) last more)

  pub decimal_all : (n : ℕ) → list_all test (decimal n) ≡ true
  unfolding digits
  decimal_all n = digits_all 64 n [] refl

  byte_all : (byte : ℕ) → is_name_byte byte ≡ true → test (word_byte byte) ≡ true
  byte_all byte named = by (byte == 45)
    where
      by : (b : Bool) → test (if b then 95 else byte) ≡ true
      by true = pass.line
      by false = pass.of_name byte named

  bytes_all : (name : List ℕ) → list_all is_name_byte name ≡ true → list_all test (word_of name) ≡ true
  bytes_all [] named = refl
  bytes_all (byte ∷ name) named =
      let parts = both_true (is_name_byte byte) (list_all is_name_byte name) named in
      and_from (test (word_byte byte)) (list_all test (word_of name)) (byte_all byte parts.0) (bytes_all name parts.1)

  word_all : (name : List ℕ) → is_name name ≡ true → list_all test (word_of name) ≡ true
  word_all name named = bytes_all name (both_true _ (list_all is_name_byte name) named).1

  at_all : (names : List (List ℕ)) → All (λ (name : List ℕ). IsTrue (is_name name)) names → (index : ℕ) →
      list_all test (word_of (get_or names index [])) ≡ true
  at_all names named index = elim (cases_lt index (length names)) [
    | inl inside ↦ word_all (get_or names index []) (named index [] inside)
    | inr past ↦ ap (λ (name : List ℕ). list_all test (word_of name)) (get_or_past names index [] past)
  ]

  node_all : (d : Domain) → IsDomain d → (node : Node) → list_all test (word_of (name_of_node d node)) ≡ true
  node_all d domain (Bridge bridge) = at_all d.bridges domain.bridges_named bridge
  node_all d domain (Station station) = at_all d.stations domain.stations_named station

  numbered_all : (word : List ℕ) (taken : Bool) (n : ℕ) → list_all test word ≡ true → list_all test (numbered word taken n) ≡ true
  numbered_all word taken n all = then_all word (if taken then codes "_N" ++ decimal n else []) all (by taken)
    where
      by : (b : Bool) → list_all test (if b then codes "_N" ++ decimal n else []) ≡ true
      by true = and_from (test 95) _ pass.line (and_from (test 78) _ pass.mark (decimal_all n))
      by false = refl

  -- that of a link, and that of a stream
  pub link_all : (d : Domain) → IsDomain d → (number : ℕ) → list_all test (link_variable d number) ≡ true
  link_all d domain number = of_link (slice_get d.links number)
    where
      of_link : (link : Option Link) →
          list_all test (option_map_or (λ (l : Link). numbered (word_of_link d l) (is_link_taken d number l) number) link []) ≡ true
      of_link None = refl
      of_link (Some link) =
          numbered_all (word_of_link d link) (is_link_taken d number link) number
          (then_all (word_of (name_of_bridge d link.from)) (codes "_" ++ word_of (name_of_node d link.to))
          (at_all d.bridges domain.bridges_named link.from)
          (and_from (test 95) (list_all test (word_of (name_of_node d link.to))) pass.line (node_all d domain link.to)))

  pub stream_all : (rows : List Row) (row : Row) → is_name row.name ≡ true → list_all test (stream_variable rows row) ≡ true
  stream_all rows row named = numbered_all (word_of_stream row) (is_stream_taken rows row) row.no (word_all row.name named)

-- none of them is a line feed, a space or `=`
abbrev pub is_no_space : ℕ → Bool
is_no_space byte = not (byte == 32)

abbrev pub is_no_equals : ℕ → Bool
is_no_equals byte = not (byte == 61)

pub pass_within : PassAll is_within
pass_within = record { of_name = λ byte named. grind (arith, nat_tests); of_digit = λ n. grind (arith, nat_tests); line = refl; mark = refl }

pub pass_space : PassAll is_no_space
pass_space = record { of_name = λ byte named. grind (arith, nat_tests); of_digit = λ n. grind (arith, nat_tests); line = refl; mark = refl }

pub pass_equals : PassAll is_no_equals
pass_equals = record { of_name = λ byte named. grind (arith, nat_tests); of_digit = λ n. grind (arith, nat_tests); line = refl; mark = refl }

pub link_variable_within : (d : Domain) → IsDomain d → (number : ℕ) → IsWithin (link_variable d number)
link_variable_within d domain number = link_all is_within pass_within d domain number

pub stream_variable_within : (rows : List Row) (row : Row) → is_name row.name ≡ true → IsWithin (stream_variable rows row)
stream_variable_within rows row named = stream_all is_within pass_within rows row named
