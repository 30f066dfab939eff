-- The text of a stream gate's list.
use Rattle.std.specs.Prelude.{ℕ, List, [], ◌∷◌, ◌++◌, ◌==◌, Bool, false, if◌then◌else◌, codes, Option, Some, None}
use Rattle.std.specs.Fmt.{decimal}
use Rattle.cqf_model.specs.declared.gates.StreamEntry.{StreamEntry}

-- the octet maximum, or `-` if there is none
abbrev pub octet_max_text : Option ℕ → List ℕ
octet_max_text None = codes "-"
octet_max_text (Some most) = decimal most

-- whether no frame of one or more octets passes
abbrev pub is_shut : Option ℕ → Bool
is_shut None = false
is_shut (Some most) = most == 0

-- the line of an entry in which frames may pass: `open`, the internal priority value, the interval and the octet maximum
abbrev pub line_of_open : StreamEntry → List ℕ
line_of_open entry = codes "open " ++ decimal entry.ipv ++ codes " " ++ decimal entry.interval ++ codes " " ++ octet_max_text entry.octet_max

-- the line of an entry: `closed` and the interval if no frame may pass, otherwise the line with `open`
abbrev pub line_of_stream_entry : StreamEntry → List ℕ
line_of_stream_entry entry = if is_shut entry.octet_max then codes "closed " ++ decimal entry.interval else line_of_open entry

-- the text of entries, one a line
abbrev pub text_of_stream_entries : List StreamEntry → List ℕ
text_of_stream_entries [] = []
text_of_stream_entries (entry ∷ entries) = line_of_stream_entry entry ++ 10 ∷ text_of_stream_entries entries
