-- How arrays and their elements are written: each element on lines of its own, with a comma after each but the last.
use Rattle.std.specs.Prelude.{ℕ, ◌++◌, List, [], ◌∷◌, Bool, true, false, Option, Some, None, codes, decimal, if◌then◌else◌}

-- whether a list is empty
abbrev pub is_nil : {A : Type 0} → List A → Bool
is_nil [] = true
is_nil (x ∷ xs) = false

-- what precedes an element: the end of the line before, and a comma if that line ends another element
abbrev pub front_text : Bool → List ℕ
front_text is_first = if is_first then codes "\n" else codes ",\n"

-- elements, each after what precedes it
abbrev pub listed : Bool → List (List ℕ) → List ℕ
listed is_first [] = []
listed is_first (text ∷ texts) = front_text is_first ++ (text ++ listed false texts)

-- the end of an array, which follows these blanks if there are elements
abbrev pub end_text : List ℕ → Bool → List ℕ
end_text blanks true = codes "]"
end_text blanks false = codes "\n" ++ (blanks ++ codes "]")

-- what follows the `[` of an array; and the whole array
abbrev pub elements : List ℕ → List (List ℕ) → List ℕ
elements blanks texts = listed true texts ++ end_text blanks (is_nil texts)

abbrev pub array : List ℕ → List (List ℕ) → List ℕ
array blanks texts = codes "[" ++ elements blanks texts

-- a text in quotation marks; and a text or a number, or `null` if there is none
abbrev pub quoted : List ℕ → List ℕ
quoted text = codes "\"" ++ (text ++ codes "\"")

abbrev pub name_or_null : Option (List ℕ) → List ℕ
name_or_null None = codes "null"
name_or_null (Some name) = quoted name

abbrev pub number_or_null : Option ℕ → List ℕ
number_or_null None = codes "null"
number_or_null (Some number) = decimal number
