-- The lines of a text that is put together from pieces.
use Rattle.std.proofs.Common.{ℕ, ◌≡◌, ◌++◌, ◌==◌, ◌∙◌, ◌&&◌, ◌%◌, ◌/◌, Bool, true, false, not, List, [], ◌∷◌, All, append_assoc, ap, cond}
use Rattle.std.proofs.Common.{Option, Some, None, arith, decimal, get_or, inl, inr, length, refl, slice_get, subst, suc, sym, zero}
use Rattle.std.specs.Fmt.{digit_glyph, digits, digits_onto}
use Rattle.std.specs.List.{list_all, slice_split}
use Rattle.std.specs.Option.{option_map_or}
use Rattle.std.specs.Bool.{IsTrue}
use Rattle.std.proofs.lemmas.Bool.{and_from, cases_Bool, cases_lt, eqb-true}
use Rattle.std.proofs.lemmas.Bool.Decides.{nat_tests}
use Rattle.std.proofs.lemmas.List.{get_or_past}
use Rattle.std.proofs.lemmas.List.Folds.{list_all-append}
use Rattle.std.proofs.lemmas.List.Splits.{slice_split_at}
use Rattle.std.proofs.lemmas.List.Sums.{AllPass-from_list_all}
use Rattle.cqf_text.proofs.LineLemmas.{slice_split-some, without_empty_last-cons}
use Rattle.cqf_text.specs.Lines.{is_line_feed, lines_of, without_empty_last}
use Rattle.cqf_units.specs.Name.{is_name, is_name_byte}
use Rattle.cqf_model.specs.declared.topology.Node.{Node}
use Rattle.cqf_model.specs.declared.topology.Node.TheVariants.{Bridge, Station}
use Rattle.cqf_model.specs.declared.topology.Link.{Link}
use Rattle.cqf_model.specs.Domain.{Domain, end_of}
use Rattle.cqf_topology.specs.NodeNames.{ends_of_link, name_of_bridge, name_of_link, name_of_node}
use Rattle.cqf_topology.specs.DomainText.{IsDomain}
use Rattle.cqf_program_plans.specs.EndNames.{name_of_end}

is_true : (b : Bool) → not b ≡ true → b ≡ false
is_true false h = refl
is_true true h = absurd cc

pub both_true : (a b : Bool) → (a && b) ≡ true → (a ≡ true) × (b ≡ true)
both_true true b h = (refl, h)
both_true false b h = absurd cc

-- a text without a line feed
abbrev pub is_within : ℕ → Bool
is_within byte = not (is_line_feed byte)

abbrev pub IsWithin : List ℕ → Type 0
IsWithin text = list_all is_within text ≡ true

pub within_then : (a b : List ℕ) → IsWithin a → IsWithin b → IsWithin (a ++ b)
within_then a b of_a of_b = list_all-append is_within a b ∙ and_from (list_all is_within a) (list_all is_within b) of_a of_b

-- the first line of a text
first_line : (line rest : List ℕ) → IsWithin line → lines_of (line ++ 10 ∷ rest) ≡ line ∷ lines_of rest
first_line line rest within =
    let none : All (λ x. is_line_feed x ≡ false) line =
    λ k d inside. is_true (is_line_feed _) (AllPass-from_list_all is_within line within k d inside) in
    ap without_empty_last (slice_split_at is_line_feed line 10 rest none refl)
    ∙ without_empty_last-cons line (slice_split is_line_feed rest) (slice_split-some rest)

-- a text of whole lines, before any other text
abbrev pub Reads : List ℕ → List (List ℕ) → Type 0
Reads text lines = (rest : List ℕ) → lines_of (text ++ rest) ≡ lines ++ lines_of rest

pub reads_then : (a b : List ℕ) (x y : List (List ℕ)) → Reads a x → Reads b y → Reads (a ++ b) (x ++ y)
reads_then a b x y of_a of_b rest =
    ap lines_of (append_assoc a b rest) ∙ of_a (b ++ rest) ∙ ap (λ lines. x ++ lines) (of_b rest) ∙ sym (append_assoc x y (lines_of rest))

pub reads_none : Reads [] []
reads_none rest = refl

-- a line with its line feed, before others
pub reads_line : (line following : List ℕ) (lines : List (List ℕ)) → IsWithin line → Reads following lines → Reads (line ++ 10 ∷ following) (line ∷ lines)
reads_line line following lines within of_after rest =
    ap lines_of (append_assoc line (10 ∷ following) rest) ∙ first_line line (following ++ rest) within ∙ ap (λ more. line ∷ more) (of_after rest)

-- lines, each with its line feed
abbrev pub joined : List (List ℕ) → List ℕ
joined [] = []
joined (line ∷ lines) = line ++ 10 ∷ joined lines

abbrev pub AreLines : List (List ℕ) → Type 0
AreLines [] = Unit {0}
AreLines (line ∷ lines) = IsWithin line × AreLines lines

pub reads_joined : (lines : List (List ℕ)) → AreLines lines → Reads (joined lines) lines
reads_joined [] each = reads_none
reads_joined (line ∷ lines) each = reads_line line (joined lines) lines each.0 (reads_joined lines each.1)

-- pieces before the last one
abbrev pub onto : List (List ℕ) → List ℕ → List ℕ
onto [] last = last
onto (piece ∷ pieces) last = piece ++ onto pieces last

abbrev pub AreWithin : List (List ℕ) → List ℕ → Type 0
AreWithin [] last = IsWithin last
AreWithin (piece ∷ pieces) last = IsWithin piece × AreWithin pieces last

onto_then : (pieces : List (List ℕ)) (last more : List ℕ) → onto pieces last ++ more ≡ onto pieces (last ++ more)
onto_then [] last more = refl
onto_then (piece ∷ pieces) last more = append_assoc piece (onto pieces last) more ∙ ap (λ text. piece ++ text) (onto_then pieces last more)

pub within_onto : (pieces : List (List ℕ)) (last : List ℕ) → AreWithin pieces last → IsWithin (onto pieces last)
within_onto [] last within = within
within_onto (piece ∷ pieces) last within = within_then piece (onto pieces last) within.0 (within_onto pieces last within.1)

-- a line made of pieces
pub reads_pieces : (pieces : List (List ℕ)) (last following : List ℕ) (lines : List (List ℕ)) → AreWithin pieces last → Reads following lines →
    Reads (onto pieces (last ++ 10 ∷ following)) (onto pieces last ∷ lines)
reads_pieces pieces last following lines within of_after =
    subst (λ (text : List ℕ). Reads text (onto pieces last ∷ lines)) (onto_then pieces last (10 ∷ following))
    (reads_line (onto pieces last) following lines (within_onto pieces last within) of_after)

-- whether a line begins with a byte that passes a test
abbrev pub begins : (ℕ → Bool) → List ℕ → Bool
begins test [] = false
begins test (first ∷ line) = test first

-- whether no line of a text begins with such a byte, given whether the text is at the start of a line; and whether what follows the text is
abbrev pub none_begins : (ℕ → Bool) → Bool → List ℕ → Bool
none_begins test at [] = true
none_begins test at (first ∷ text) = not (at && test first) && none_begins test (first == 10) text

abbrev pub one_begins_after : Bool → List ℕ → Bool
one_begins_after at [] = at
one_begins_after at (first ∷ text) = one_begins_after (first == 10) text

-- a text of whole lines; none begins with such a byte
pub record Skips (test : ℕ → Bool) (text : List ℕ) : Type 0 where
  pub lines : List (List ℕ)
  pub reads : Reads text lines
  pub other : list_all (λ (line : List ℕ). not (begins test line)) lines ≡ true

pub skips_then : (test : ℕ → Bool) (a b : List ℕ) → Skips test a → Skips test b → Skips test (a ++ b)
skips_then test a b of_a of_b = record {
  lines = of_a.lines ++ of_b.lines;
  reads = reads_then a b of_a.lines of_b.lines of_a.reads of_b.reads;
  other = list_all-append (λ (line : List ℕ). not (begins test line)) of_a.lines of_b.lines ∙ and_from _ _ of_a.other of_b.other;
}

-- the part of a line that was read already
abbrev is_start : List ℕ → Bool
is_start [] = true
is_start (first ∷ line) = false

pub record SkipsFrom (test : ℕ → Bool) (line text : List ℕ) : Type 0 where
  pub lines : List (List ℕ)
  pub reads : (rest : List ℕ) → lines_of (line ++ (text ++ rest)) ≡ lines ++ lines_of rest
  pub other : list_all (λ (line : List ℕ). not (begins test line)) lines ≡ true

started : (line : List ℕ) (x : ℕ) → is_start (line ++ x ∷ []) ≡ false
started [] x = refl
started (first ∷ line) x = refl

-- it begins as before, or with the next byte
begun : (test : ℕ → Bool) (x : ℕ) (line : List ℕ) → not (begins test line) ≡ true → not (is_start line && test x) ≡ true →
    not (begins test (line ++ x ∷ [])) ≡ true
begun test x [] of_line of_byte = of_byte
begun test x (first ∷ line) of_line of_byte = of_line

nothing_begun : (line : List ℕ) → is_start line ≡ true → line ≡ []
nothing_begun [] h = refl
nothing_begun (first ∷ line) h = absurd cc

skips_from : (test : ℕ → Bool) (text line : List ℕ) → IsWithin line → not (begins test line) ≡ true → none_begins test (is_start line) text ≡ true →
    one_begins_after (is_start line) text ≡ true → SkipsFrom test line text
skips_from test [] line within other none end = record {
  lines = [];
  reads = λ rest. ap (λ (front : List ℕ). lines_of (front ++ rest)) (nothing_begun line end);
  other = refl;
}
skips_from test (x ∷ text) line within other none end = elim (cases_Bool (x == 10)) [
  | inl feed ↦
      let more = skips_from test text [] refl refl (ap (λ at. none_begins test at text) (sym feed) ∙ parts.1)
      (ap (λ at. one_begins_after at text) (sym feed) ∙ end) in
      record {
        lines = line ∷ more.lines;
        reads = λ rest. ap (λ (byte : ℕ). lines_of (line ++ byte ∷ (text ++ rest))) (eqb-true x 10 feed) ∙ first_line line (text ++ rest) within
            ∙ ap (λ lines. line ∷ lines) (more.reads rest);
        other = and_from _ _ other more.other;
      }
  | inr inside ↦
      let front : List ℕ = line ++ x ∷ [] in
      let at : is_start front ≡ (x == 10) = started line x ∙ sym inside in
      let more = skips_from test text front (within_then line (x ∷ []) within (ap (λ b. not b && true) inside)) (begun test x line other parts.0)
      (ap (λ at. none_begins test at text) at ∙ parts.1) (ap (λ at. one_begins_after at text) at ∙ end) in
      record {
        lines = more.lines;
        reads = λ rest. ap lines_of (sym (append_assoc line (x ∷ []) (text ++ rest))) ∙ more.reads rest;
        other = more.other;
      }
]
  where
    parts : (not (is_start line && test x) ≡ true) × (none_begins test (x == 10) text ≡ true)
    parts = both_true (not (is_start line && test x)) (none_begins test (x == 10) text) none

-- a text for which this was checked
pub skips : (test : ℕ → Bool) (text : List ℕ) → none_begins test true text ≡ true → one_begins_after true text ≡ true → Skips test text
skips test text none end =
    let found = skips_from test text [] refl refl none end in
    record { lines = found.lines; reads = found.reads; other = found.other }

-- the checks skip pieces within a line
pub none_within : (test : ℕ → Bool) (piece text : List ℕ) → IsWithin piece → none_begins test false text ≡ true → none_begins test false (piece ++ text) ≡ true
none_within test [] text within none = none
none_within test (x ∷ piece) text within none =
    let parts = both_true (is_within x) (list_all is_within piece) within in
    ap (λ at. none_begins test at (piece ++ text)) (is_true (x == 10) parts.0) ∙ none_within test piece text parts.1 none

pub after_within : (piece text : List ℕ) → IsWithin piece → one_begins_after false text ≡ true → one_begins_after false (piece ++ text) ≡ true
after_within [] text within end = end
after_within (x ∷ piece) text within end =
    let parts = both_true (is_within x) (list_all is_within piece) within in
    ap (λ at. one_begins_after at (piece ++ text)) (is_true (x == 10) parts.0) ∙ after_within piece text parts.1 end

-- no digit ends a line
glyph_within : (n : ℕ) → is_within (digit_glyph false n) ≡ true
glyph_within n = grind (arith, nat_tests)

onto_within : (count n : ℕ) (following : List ℕ) → IsWithin following → IsWithin (digits_onto count 10 false n following)
onto_within zero n following within = within
onto_within (suc count) n following within = elim (cases_Bool (n / 10 == 0)) [
  | inl last ↦ ap (λ b. list_all is_within (cond b (digit_glyph false (n % 10) ∷ following)
      (digits_onto count 10 false (n / 10) (digit_glyph false (n % 10) ∷ following)))) last ∙ more
  | inr more_digits ↦ ap (λ b. list_all is_within (cond b (digit_glyph false (n % 10) ∷ following)
      (digits_onto count 10 false (n / 10) (digit_glyph false (n % 10) ∷ following)))) more_digits
      ∙ onto_within count (n / 10) (digit_glyph false (n % 10) ∷ following) more
]
  where
    more : IsWithin (digit_glyph false (n % 10) ∷ following)
    more = and_from _ _ (glyph_within (n % 10)) within

pub decimal_within : (n : ℕ) → IsWithin (decimal n)
unfolding digits
decimal_within n = onto_within 64 n [] refl

-- nor does a byte of a name
byte_within : (byte : ℕ) → is_name_byte byte ≡ true → is_within byte ≡ true
byte_within byte named = elim (cases_Bool (byte == 10)) [
  | inl feed ↦ absurd (no_name (ap is_name_byte (sym (eqb-true byte 10 feed)) ∙ named))
  | inr other ↦ ap not other
]
  where
    no_name : is_name_byte 10 ≡ true → ⊥
    no_name h = cc

bytes_within : (name : List ℕ) → list_all is_name_byte name ≡ true → IsWithin name
bytes_within [] named = refl
bytes_within (byte ∷ name) named =
    let parts = both_true (is_name_byte byte) (list_all is_name_byte name) named in
    and_from (is_within byte) (list_all is_within name) (byte_within byte parts.0) (bytes_within name parts.1)

pub name_within : (name : List ℕ) → is_name name ≡ true → IsWithin name
name_within name named = bytes_within name (both_true _ (list_all is_name_byte name) named).1

named_at : (names : List (List ℕ)) → All (λ (name : List ℕ). IsTrue (is_name name)) names → (index : ℕ) → IsWithin (get_or names index [])
named_at names named index = elim (cases_lt index (length names)) [
  | inl inside ↦ name_within (get_or names index []) (named index [] inside)
  | inr past ↦ ap (list_all is_within) (get_or_past names index [] past)
]

-- the names of nodes and links
pub bridge_within : (d : Domain) → IsDomain d → (bridge : ℕ) → IsWithin (name_of_bridge d bridge)
bridge_within d domain bridge = named_at d.bridges domain.bridges_named bridge

pub node_within : (d : Domain) → IsDomain d → (node : Node) → IsWithin (name_of_node d node)
node_within d domain (Bridge bridge) = bridge_within d domain bridge
node_within d domain (Station station) = named_at d.stations domain.stations_named station

pub end_within : (d : Domain) → IsDomain d → (link : ℕ) → IsWithin (name_of_end d link)
end_within d domain link = of_end (end_of d link)
  where
    of_end : (end : Option Node) → IsWithin (option_map_or (name_of_node d) end [])
    of_end None = refl
    of_end (Some node) = node_within d domain node

pub link_within : (d : Domain) → IsDomain d → (link : ℕ) → IsWithin (name_of_link d link)
link_within d domain number = of_link (slice_get d.links number)
  where
    of_link : (link : Option Link) → IsWithin (option_map_or (ends_of_link d) link [])
    of_link None = refl
    of_link (Some link) =
        within_then (name_of_bridge d link.from) (62 ∷ name_of_node d link.to) (bridge_within d domain link.from) (node_within d domain link.to)
