-- What differs between two lists of elements, line by line.
use Rattle.std.specs.Prelude.{ℕ, ◌++◌, ◌&&◌, List, [], ◌∷◌, Bool, bytes_eq, codes, find, if◌then◌else◌, length, slice_index_or}
use Rattle.std.specs.List.{flat_map, list_any}
use Rattle.std.specs.Option.{option_map_or}
use Rattle.cqf_lists.specs.Lists.{each_below}
use Rattle.cqf_report.specs.Written.{line_of_fields}
use Rattle.cqf_program_diff.specs.Element.{ElementText}
use Rattle.cqf_program_diff.specs.Kinds.{keys_of, name_of_kind}
use Rattle.cqf_program_diff.specs.declared.kinds.Kind.{Kind}
use Rattle.cqf_program_diff.specs.declared.forms.Form.{Form}
use Rattle.cqf_program_diff.specs.declared.forms.Form.TheVariants.{Properties, Figures}

-- whether an element has a name
abbrev pub is_named : List ℕ → ElementText → Bool
is_named name element = bytes_eq element.name name

-- the value at an index; empty if there is none
abbrev pub value_of : ElementText → ℕ → List ℕ
value_of element index = slice_index_or element.values index []

-- a line about an element: its kind, its name, what differs, and what it was and is
abbrev pub property_line : Kind → List ℕ → List ℕ → List ℕ → List ℕ → List ℕ
property_line kind name what before after = line_of_fields (name_of_kind kind ∷ name ∷ what ∷ before ∷ after ∷ [])

abbrev pub changed_value : Kind → List ℕ → List ℕ → List ℕ → List ℕ → List ℕ
changed_value kind name what before after = if bytes_eq before after then [] else property_line kind name what before after

-- the lines of an element that both networks have: one for each key whose value differs
abbrev pub changed_values : Kind → ElementText → ElementText → List ℕ
changed_values kind before after =
    each_below (λ index. changed_value kind before.name (slice_index_or (keys_of kind) index []) (value_of before index) (value_of after index))
    (length (keys_of kind))

-- a line about a figure: its name, what it was and is, and what is left
abbrev pub figure_line : List ℕ → List ℕ → List ℕ → List ℕ → List ℕ
figure_line name before after left = line_of_fields (name ∷ before ∷ after ∷ left ∷ [])

-- the line of a figure that both networks have, if it or what is left differs
abbrev pub is_same_figure : ElementText → ElementText → Bool
is_same_figure before after = bytes_eq (value_of before 0) (value_of after 0) && bytes_eq (value_of before 1) (value_of after 1)

abbrev pub changed_figure : ElementText → ElementText → List ℕ
changed_figure before after =
    if is_same_figure before after
    then []
    else figure_line before.name (value_of before 0) (value_of after 0) (value_of after 1)

-- the lines of an element that both networks have, that only the first has, and that only the second has
abbrev pub changed_lines : Form → ElementText → ElementText → List ℕ
changed_lines (Properties kind) before after = changed_values kind before after
changed_lines Figures before after = changed_figure before after

abbrev pub removed_line : Form → ElementText → List ℕ
removed_line (Properties kind) before = property_line kind before.name (codes "removed") [] []
removed_line Figures before = figure_line before.name (value_of before 0) [] []

abbrev pub added_line : Form → ElementText → List ℕ
added_line (Properties kind) after = property_line kind after.name (codes "added") [] []
added_line Figures after = figure_line after.name [] (value_of after 0) (value_of after 1)

-- the lines of an element of the first network, compared with the elements of the second
abbrev pub change_of : Form → List ElementText → ElementText → List ℕ
change_of form afters before = option_map_or (changed_lines form before) (find (is_named before.name) afters) (removed_line form before)

-- those of an element of the second, compared with the elements of the first
abbrev pub addition_of : Form → List ElementText → ElementText → List ℕ
addition_of form befores after = if list_any (is_named after.name) befores then [] else added_line form after

-- the lines of all elements: those of the first network in its order, then those that only the second has
abbrev pub changes : Form → List ElementText → List ElementText → List ℕ
changes form befores afters = flat_map (change_of form afters) befores ++ flat_map (addition_of form befores) afters
