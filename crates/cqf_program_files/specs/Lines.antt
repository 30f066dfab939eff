-- The lines of a plan that are too long to be parsed: the cost of parsing is quadratic in a name's length, and each dot takes much memory.
use Rattle.std.specs.Prelude.{ℕ, ◌==◌, ◌&&◌, ◌||◌, ◌+◌, Bool, true, false, List, [], ◌∷◌, Option, Some, None, fold, if◌then◌else◌, length, nat_le, nat_lt}
use Rattle.cqf_text.specs.Lines.{lines_of}
use Rattle.cqf_program_files.specs.declared.lines.Seen.{Seen}

-- the most octets of a line, and the most dots between two dividers: a key with that many dots has one part more
abbrev pub most_octets : ℕ
most_octets = 4096

abbrev pub most_dots : ℕ
most_dots = 3

-- nothing of a line was read yet
abbrev pub none_seen : Seen
none_seen = record { quote = None; comment = false; dots = 0; long = false }

-- a quote of either kind; an octet between keys and values; and one that ends a key
abbrev pub is_quote : ℕ → Bool
is_quote octet = octet == 34 || octet == 39

abbrev pub is_divider : ℕ → Bool
is_divider octet = octet == 61 || (octet == 44 || (octet == 123 || (octet == 125 || (octet == 91 || octet == 93))))

abbrev pub ends_key : ℕ → Bool
ends_key octet = octet == 61 || octet == 93

-- one more dot; dots beyond one too many aren't counted
abbrev pub with_dot : Seen → Seen
with_dot seen = if nat_le seen.dots most_dots then record seen { dots = seen.dots + 1 } else seen

-- a divider: a key that it ends may have had too many dots
abbrev pub with_divider : Seen → ℕ → Seen
with_divider seen octet = if ends_key octet && nat_lt most_dots seen.dots then record seen { long = true } else record seen { dots = 0 }

-- one more octet, if no quote is open and no comment has begun
abbrev pub with_open : Seen → ℕ → Seen
with_open seen octet =
    if is_quote octet then record seen { quote = Some octet }
    else (if octet == 35 then record seen { comment = true }
    else (if octet == 46 then with_dot seen
    else (if is_divider octet then with_divider seen octet else seen)))

-- one more octet within a quote, which ends at the next octet that is the same quote
abbrev pub with_quoted : Seen → ℕ → ℕ → Seen
with_quoted seen quote octet = if quote == octet then record seen { quote = None } else seen

-- one more octet of a line; a comment is ignored
abbrev pub by_quote : Seen → ℕ → Option ℕ → Seen
by_quote seen octet None = with_open seen octet
by_quote seen octet (Some quote) = with_quoted seen quote octet

abbrev pub with_octet : Seen → ℕ → Seen
with_octet seen octet = if seen.comment then seen else by_quote seen octet seen.quote

abbrev pub seen_of : List ℕ → Seen
seen_of line = fold with_octet none_seen line

-- a line has a key of more parts than are parsed, or, if octets count, too many octets
abbrev pub is_too_long : Bool → List ℕ → Bool
is_too_long counts line = (counts && nat_lt most_octets (length line)) || (seen_of line).long

-- the number of the first of some lines that is too long, if the first of them has this number
abbrev pub first_long_from : Bool → ℕ → List (List ℕ) → Option ℕ
first_long_from counts number [] = None
first_long_from counts number (line ∷ lines) = if is_too_long counts line then Some number else first_long_from counts (number + 1) lines

-- the number of the first such line of a text, from 1
abbrev pub first_long_line : Bool → List ℕ → Option ℕ
first_long_line counts text = first_long_from counts 1 (lines_of text)
