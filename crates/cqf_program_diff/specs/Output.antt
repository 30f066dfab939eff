-- The result of the command `diff` for its input.
use Rattle.std.specs.Prelude.{ℕ, ◌++◌, ◌==◌, List, [], ◌∷◌, Bool, Result, Ok, Err, codes, if◌then◌else◌, length}
use Rattle.cqf_lists.specs.Results.{and_then}
use Rattle.cqf_model.specs.declared.limits.Limits.{Limits}
use Rattle.cqf_output.specs.Stops.{line_of, or_line}
use Rattle.cqf_program_scenario.specs.Parts.{two_parts}
use Rattle.cqf_text.specs.Parts.{parts_of}
use Rattle.cqf_program_diff.specs.Changes.{changes}
use Rattle.cqf_program_diff.specs.Description.{Description, description_of}
use Rattle.cqf_program_diff.specs.declared.kinds.Kind.TheVariants.{Network, Bridge, Station, Link, Stream}
use Rattle.cqf_program_diff.specs.declared.forms.Form.TheVariants.{Properties, Figures}

-- the lines of what differs in the network itself, its bridges and its stations; and in its links and its streams
abbrev pub node_lines : Description → Description → List ℕ
node_lines before after =
    changes (Properties Network) before.network after.network
    ++ (changes (Properties Bridge) before.bridges after.bridges ++ changes (Properties Station) before.stations after.stations)

abbrev pub link_lines : Description → Description → List ℕ
link_lines before after =
    changes (Properties Link) before.links after.links
    ++ (changes (Properties Link) before.access after.access ++ changes (Properties Stream) before.streams after.streams)

abbrev pub element_lines : Description → Description → List ℕ
element_lines before after = node_lines before after ++ link_lines before after

-- in latencies, and in what links hold
abbrev pub latency_lines : Description → Description → List ℕ
latency_lines before after = changes Figures before.latencies after.latencies

abbrev pub load_lines : Description → Description → List ℕ
load_lines before after = changes Figures before.loads after.loads ++ changes Figures before.access_loads after.access_loads

-- the headers of the three tables
abbrev pub element_header : List ℕ
element_header = codes "kind,name,what,before,after\n"

abbrev pub latency_header : List ℕ
latency_header = codes "stream,listener,most-before,most-after,slack-after\n"

abbrev pub load_header : List ℕ
load_header = codes "link,held-before,held-after,left-after\n"

-- a table after others: a header and its lines, none if there are no lines. An empty line divides it from those before it
abbrev pub table_after : List ℕ → List ℕ → List ℕ → List ℕ
table_after before header lines =
    if length lines == 0 then before else (if length before == 0 then header ++ lines else before ++ (codes "\n" ++ (header ++ lines)))

-- what differs; empty if nothing does
abbrev pub differences : Description → Description → List ℕ
differences before after =
    table_after
    (table_after (table_after [] element_header (element_lines before after)) latency_header (latency_lines before after))
    load_header (load_lines before after)

-- the line of a fault of one of the two plans: the words that name the plan come before what follows `cqf: `
abbrev pub after_mark : List ℕ → List ℕ
after_mark (c ∷ q ∷ f ∷ colon ∷ blank ∷ rest) = rest
after_mark line = []

abbrev pub file_line : List ℕ → List ℕ → List ℕ
file_line which line = (codes "cqf: diff: " ++ (which ++ codes ": ")) ++ after_mark line

-- the text; or, if it is only asked whether something differs, and something does, the line that says so
abbrev pub differs_line : List ℕ
differs_line = line_of (codes "cqf: diff: differs")

abbrev pub unless_quiet : Bool → List ℕ → Result (List ℕ) (List ℕ)
unless_quiet quiet text = if quiet then (if length text == 0 then Ok text else Err differs_line) else Ok text

-- what differs between the two plans of an input, each a part; or the line of the first fault
abbrev pub diff_of_input : Limits → Bool → List ℕ → Result (List ℕ) (List ℕ)
diff_of_input limits quiet input = and_then (two_parts (parts_of input)) (λ parts.
    and_then (or_line (file_line (codes "old")) (description_of limits parts.0)) (λ before.
    and_then (or_line (file_line (codes "new")) (description_of limits parts.1)) (λ after.
    unless_quiet quiet (differences before after))))
