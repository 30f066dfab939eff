-- Networks that differ nowhere are those that are alike.
use Rattle.std.proofs.Common.{◌≡◌, ◌∙◌, ◌<◌, ◌++◌, ◌∷◌, ◌==◌, [], ℕ, zero, suc, Bool, true, false, List, Option, Some, None, Contains, ap₂, arith, codes, cond, find}
use Rattle.std.proofs.Common.{flat_map}
use Rattle.std.proofs.Common.{inl, inr, length, refl, subst, sym}
use Rattle.std.proofs.lemmas.Bool.{and_from, and_parts, cases_Bool, cond-true, cond-false}
use Rattle.std.proofs.lemmas.Bool.Decides.{Decides-eqb}
use Rattle.std.proofs.lemmas.List.Elements.{Contains-append_left, Contains-append_right}
use Rattle.std.proofs.lemmas.Slice.Eq.{bytes_eq-Decides}
use Rattle.std.specs.Prelude.{bytes_eq, slice_index_or}
use Rattle.std.specs.List.{join_with_byte, list_any}
use Rattle.std.specs.Option.{option_map_or}
use Rattle.cqf_lists.specs.Lists.{each_below}
use Rattle.cqf_lists.proofs.EachBelow.{contains_below, none_below}
use Rattle.cqf_lists.proofs.Kept.{flat_none}
use Rattle.cqf_lists.proofs.Members.{contains_flat, contains_here, contains_none}
use Rattle.cqf_report.specs.Written.{line_of_fields}
use Rattle.cqf_program_diff.specs.Alike.{AlikeDifferNowhere, AreAlike, HaveSameValues, IsKept, SameIfNothingDiffers}
use Rattle.cqf_program_diff.specs.Changes.{addition_of, added_line, change_of, changed_figure, changed_lines, changed_value, changes, figure_line, is_named}
use Rattle.cqf_program_diff.specs.Changes.{is_same_figure, property_line, removed_line, value_of}
use Rattle.cqf_program_diff.specs.Element.{ElementText}
use Rattle.cqf_program_diff.specs.Kinds.{keys_of, name_of_kind}
use Rattle.cqf_program_diff.specs.Output.{element_header, element_lines, latency_header, latency_lines, link_lines, load_header, load_lines, node_lines, table_after}
use Rattle.cqf_program_diff.specs.declared.kinds.Kind.{Kind}
use Rattle.cqf_program_diff.specs.declared.kinds.Kind.TheVariants.{Network, Bridge, Station, Link, Stream}
use Rattle.cqf_program_diff.specs.declared.forms.Form.{Form}
use Rattle.cqf_program_diff.specs.declared.forms.Form.TheVariants.{Properties, Figures}

-- a list without a member is empty
no_member : {X : Type 0} (xs : List X) → ((x : X) → Contains xs x → ⊥) → xs ≡ []
no_member [] none = refl
no_member (x ∷ xs) none = absurd (none x (contains_here x xs))

-- the parts of an empty list are empty
left_empty : {X : Type 0} (xs ys : List X) → xs ++ ys ≡ [] → xs ≡ []
left_empty {X} xs ys none =
    no_member xs (λ x c. contains_none x (subst (λ (zs : List X). Contains zs x) none (Contains-append_left xs ys x c)))

right_empty : {X : Type 0} (xs ys : List X) → xs ++ ys ≡ [] → ys ≡ []
right_empty {X} xs ys none =
    no_member ys (λ x c. contains_none x (subst (λ (zs : List X). Contains zs x) none (Contains-append_right xs ys x c)))

flat_empty : {X Y : Type 0} (f : X → List Y) (xs : List X) → flat_map f xs ≡ [] → (x : X) → Contains xs x → f x ≡ []
flat_empty {X} {Y} f xs none x here =
    no_member (f x) (λ y c. contains_none y (subst (λ (zs : List Y). Contains zs y) none (contains_flat f xs x y here c)))

below_empty : {X : Type 0} (f : ℕ → List X) (n : ℕ) → each_below f n ≡ [] → (k : ℕ) → k < n → f k ≡ []
below_empty {X} f n none k below =
    no_member (f k) (λ x c. contains_none x (subst (λ (zs : List X). Contains zs x) none (contains_below f n k x below c)))

-- a line isn't empty
line_there : (fields : List (List ℕ)) → line_of_fields fields ≡ [] → ⊥
line_there fields none =
    let feed : 10 ∷ [] ≡ [] = right_empty (join_with_byte 44 fields) (10 ∷ []) none in
    contains_none 10 (subst (λ (zs : List ℕ). Contains zs 10) feed (contains_here 10 []))

-- a value is unwritten if and only if it is the same
same_value : (kind : Kind) (name what before after : List ℕ) → changed_value kind name what before after ≡ [] → before ≡ after
same_value kind name what before after none = elim (cases_Bool (bytes_eq before after)) [
  | inl same ↦ (bytes_eq-Decides before after).0 same
  | inr other ↦
      let line = property_line kind name what before after in
      absurd (line_there (name_of_kind kind ∷ name ∷ what ∷ before ∷ after ∷ []) (sym (cond-false (bytes_eq before after) [] line other) ∙ none))
]

value_unwritten : (kind : Kind) (name what before after : List ℕ) → before ≡ after → changed_value kind name what before after ≡ []
value_unwritten kind name what before after same =
    cond-true (bytes_eq before after) [] (property_line kind name what before after) ((bytes_eq-Decides before after).1 same)

-- a figure is unwritten if and only if both of its values are the same
figure_is_same : (before after : ElementText) → changed_figure before after ≡ [] → is_same_figure before after ≡ true
figure_is_same before after none = elim (cases_Bool (is_same_figure before after)) [
  | inl same ↦ same
  | inr other ↦
      let line = figure_line before.name (value_of before 0) (value_of after 0) (value_of after 1) in
      absurd (line_there (before.name ∷ value_of before 0 ∷ value_of after 0 ∷ value_of after 1 ∷ [])
      (sym (cond-false (is_same_figure before after) [] line other) ∙ none))
]

figure_values : (before after : ElementText) → is_same_figure before after ≡ true → HaveSameValues Figures before after
figure_values before after same zero below =
    (bytes_eq-Decides (value_of before 0) (value_of after 0)).0
    (and_parts (bytes_eq (value_of before 0) (value_of after 0)) (bytes_eq (value_of before 1) (value_of after 1)) same).0
figure_values before after same (suc zero) below =
    (bytes_eq-Decides (value_of before 1) (value_of after 1)).0
    (and_parts (bytes_eq (value_of before 0) (value_of after 0)) (bytes_eq (value_of before 1) (value_of after 1)) same).1
figure_values before after same (suc (suc index)) below = absurd (omega (arith, below))

-- an element is unwritten if and only if it has the same values
same_values : (form : Form) (before after : ElementText) → changed_lines form before after ≡ [] → HaveSameValues form before after
same_values (Properties kind) before after none = λ index below.
    same_value kind before.name (slice_index_or (keys_of kind) index []) (value_of before index) (value_of after index)
    (below_empty (λ at. changed_value kind before.name (slice_index_or (keys_of kind) at []) (value_of before at) (value_of after at)) (length (keys_of kind)) none
    index below)
same_values Figures before after none = figure_values before after (figure_is_same before after none)

unwritten : (form : Form) (before after : ElementText) → HaveSameValues form before after → changed_lines form before after ≡ []
unwritten (Properties kind) before after same =
    none_below (λ at. changed_value kind before.name (slice_index_or (keys_of kind) at []) (value_of before at) (value_of after at)) (length (keys_of kind))
    (λ index below. value_unwritten kind before.name (slice_index_or (keys_of kind) index []) (value_of before index) (value_of after index) (same index below))
unwritten Figures before after same =
    cond-true (is_same_figure before after) [] (figure_line before.name (value_of before 0) (value_of after 0) (value_of after 1))
    (and_from (bytes_eq (value_of before 0) (value_of after 0)) (bytes_eq (value_of before 1) (value_of after 1))
    ((bytes_eq-Decides (value_of before 0) (value_of after 0)).1 (same 0 (omega arith)))
    ((bytes_eq-Decides (value_of before 1) (value_of after 1)).1 (same 1 (omega arith))))

-- an element that only one of the networks has is written
removed_there : (form : Form) (before : ElementText) → removed_line form before ≡ [] → ⊥
removed_there (Properties kind) before none = line_there (name_of_kind kind ∷ before.name ∷ codes "removed" ∷ [] ∷ [] ∷ []) none
removed_there Figures before none = line_there (before.name ∷ value_of before 0 ∷ [] ∷ [] ∷ []) none

added_there : (form : Form) (after : ElementText) → added_line form after ≡ [] → ⊥
added_there (Properties kind) after none = line_there (name_of_kind kind ∷ after.name ∷ codes "added" ∷ [] ∷ [] ∷ []) none
added_there Figures after none = line_there (after.name ∷ [] ∷ value_of after 0 ∷ value_of after 1 ∷ []) none

kept_if_none : (form : Form) (before : ElementText) (found : Option ElementText) →
    option_map_or (changed_lines form before) found (removed_line form before) ≡ [] → IsKept form before found
kept_if_none form before None none = removed_there form before none
kept_if_none form before (Some after) none = same_values form before after none

none_if_kept : (form : Form) (before : ElementText) (found : Option ElementText) → IsKept form before found →
    option_map_or (changed_lines form before) found (removed_line form before) ≡ []
none_if_kept form before None kept = absurd kept
none_if_kept form before (Some after) kept = unwritten form before after kept

known_if_none : (form : Form) (befores : List ElementText) (after : ElementText) → addition_of form befores after ≡ [] → list_any (is_named after.name) befores ≡ true
known_if_none form befores after none = elim (cases_Bool (list_any (is_named after.name) befores)) [
  | inl known ↦ known
  | inr other ↦ absurd (added_there form after (sym (cond-false (list_any (is_named after.name) befores) [] (added_line form after) other) ∙ none))
]

-- no change is written if and only if two lists are alike
alike_if_none : (form : Form) (befores afters : List ElementText) → changes form befores afters ≡ [] → AreAlike form befores afters
alike_if_none form befores afters none =
    let changed = flat_map (change_of form afters) befores in
    let added = flat_map (addition_of form befores) afters in
    record {
      kept = λ before here. kept_if_none form before (find (is_named before.name) afters)
          (flat_empty (change_of form afters) befores (left_empty changed added none) before here);
      no_more = λ after here. known_if_none form befores after (flat_empty (addition_of form befores) afters (right_empty changed added none) after here);
    }

none_if_alike : (form : Form) (befores afters : List ElementText) → AreAlike form befores afters → changes form befores afters ≡ []
none_if_alike form befores afters alike =
    ap₂ (λ (xs ys : List ℕ). xs ++ ys)
    (flat_none (change_of form afters) befores (λ before here. none_if_kept form before (find (is_named before.name) afters) (alike.kept before here)))
    (flat_none (addition_of form befores) afters
    (λ after here. cond-true (list_any (is_named after.name) befores) [] (added_line form after) (alike.no_more after here)))

-- a list with an element has a length
has_length : (c : ℕ) (cs : List ℕ) → (length (c ∷ cs) == 0) ≡ false
has_length c cs = elim (cases_Bool (length (c ∷ cs) == 0)) [
  | inl none ↦ absurd (omega (arith, (Decides-eqb (length (c ∷ cs)) 0).0 none))
  | inr some ↦ some
]

-- tables are empty if and only if they have no lines
table_empty : (before header lines : List ℕ) → table_after before header lines ≡ [] → (before ≡ []) × (lines ≡ [])
table_empty before header [] none = (none, refl)
table_empty [] header (c ∷ cs) none =
    let joined : header ++ c ∷ cs ≡ [] = sym (cond-false (length (c ∷ cs) == 0) [] (header ++ c ∷ cs) (has_length c cs)) ∙ none in
    let rest : c ∷ cs ≡ [] = right_empty header (c ∷ cs) joined in
    absurd (contains_none c (subst (λ (zs : List ℕ). Contains zs c) rest (contains_here c cs)))
table_empty (b ∷ bs) header (c ∷ cs) none =
    let lines = header ++ c ∷ cs in
    let more = (b ∷ bs) ++ (codes "\n" ++ lines) in
    let joined : more ≡ [] = sym (cond-false (length (b ∷ bs) == 0) lines more (has_length b bs))
    ∙ sym (cond-false (length (c ∷ cs) == 0) (b ∷ bs) (cond (length (b ∷ bs) == 0) lines more) (has_length c cs)) ∙ none in
    let front : b ∷ bs ≡ [] = left_empty (b ∷ bs) (codes "\n" ++ lines) joined in
    absurd (contains_none b (subst (λ (zs : List ℕ). Contains zs b) front (contains_here b bs)))

table_none : (before header lines : List ℕ) → before ≡ [] → lines ≡ [] → table_after before header lines ≡ []
table_none before header lines first second = ap₂ (λ (xs ys : List ℕ). table_after xs header ys) first second

three_empty : (xs ys zs : List ℕ) → xs ++ (ys ++ zs) ≡ [] → (xs ≡ []) × (ys ≡ []) × (zs ≡ [])
three_empty xs ys zs none =
    let rest = right_empty xs (ys ++ zs) none in
    (left_empty xs (ys ++ zs) none, left_empty ys zs rest, right_empty ys zs rest)

three_none : (xs ys zs : List ℕ) → xs ≡ [] → ys ≡ [] → zs ≡ [] → xs ++ (ys ++ zs) ≡ []
three_none xs ys zs first second third = λ i. first i ++ (second i ++ third i)

pub nothing_differs : AlikeDifferNowhere
nothing_differs before after alike =
    let nodes : node_lines before after ≡ [] = three_none _ _ _ (none_if_alike (Properties Network) before.network after.network alike.network)
    (none_if_alike (Properties Bridge) before.bridges after.bridges alike.bridges)
    (none_if_alike (Properties Station) before.stations after.stations alike.stations) in
    let links : link_lines before after ≡ [] = three_none _ _ _ (none_if_alike (Properties Link) before.links after.links alike.links)
    (none_if_alike (Properties Link) before.access after.access alike.access)
    (none_if_alike (Properties Stream) before.streams after.streams alike.streams) in
    let elements : element_lines before after ≡ [] = ap₂ (λ (xs ys : List ℕ). xs ++ ys) nodes links in
    let latencies : latency_lines before after ≡ [] = none_if_alike Figures before.latencies after.latencies alike.latencies in
    let loads : load_lines before after ≡ [] = ap₂ (λ (xs ys : List ℕ). xs ++ ys) (none_if_alike Figures before.loads after.loads alike.loads)
    (none_if_alike Figures before.access_loads after.access_loads alike.access_loads) in
    let first = table_none [] element_header (element_lines before after) refl elements in
    let second = table_none (table_after [] element_header (element_lines before after)) latency_header (latency_lines before after) first latencies in
    table_none (table_after (table_after [] element_header (element_lines before after)) latency_header (latency_lines before after)) load_header
    (load_lines before after) second loads

pub all_is_alike : SameIfNothingDiffers
all_is_alike before after none =
    let first = table_after [] element_header (element_lines before after) in
    let third = table_empty (table_after first latency_header (latency_lines before after)) load_header (load_lines before after) none in
    let second = table_empty first latency_header (latency_lines before after) third.0 in
    let elements : element_lines before after ≡ [] = (table_empty [] element_header (element_lines before after) second.0).1 in
    let nodes = three_empty (changes (Properties Network) before.network after.network) (changes (Properties Bridge) before.bridges after.bridges)
    (changes (Properties Station) before.stations after.stations) (left_empty (node_lines before after) (link_lines before after) elements) in
    let links = three_empty (changes (Properties Link) before.links after.links) (changes (Properties Link) before.access after.access)
    (changes (Properties Stream) before.streams after.streams) (right_empty (node_lines before after) (link_lines before after) elements) in
    let loads = changes Figures before.loads after.loads in
    let access_loads = changes Figures before.access_loads after.access_loads in
    record {
      network = alike_if_none (Properties Network) before.network after.network nodes.0;
      bridges = alike_if_none (Properties Bridge) before.bridges after.bridges nodes.1;
      stations = alike_if_none (Properties Station) before.stations after.stations nodes.2;
      links = alike_if_none (Properties Link) before.links after.links links.0;
      access = alike_if_none (Properties Link) before.access after.access links.1;
      streams = alike_if_none (Properties Stream) before.streams after.streams links.2;
      latencies = alike_if_none Figures before.latencies after.latencies second.1;
      loads = alike_if_none Figures before.loads after.loads (left_empty loads access_loads third.1);
      access_loads = alike_if_none Figures before.access_loads after.access_loads (right_empty loads access_loads third.1);
    }
