-- The line about words that clap accepts and that mean no job. It says which value is wrong, and which values are accepted.
use Rattle.std.specs.Prelude.{◌++◌, ◌||◌, Bool, List, [], Option, Some, None, if◌then◌else◌, bytes_eq, codes, unwrap_or}
use Rattle.std.specs.Borrow.{Bor}
use Rattle.clap.specs.Words.{Row, Text, first_of}
use Rattle.cqf_units.specs.Name.{is_name}
use Rattle.cqf_program_words.specs.Links.{first_no_link}
use Rattle.cqf_program_words.specs.Texts.{texts_of}

-- a line in three texts: the text before a word that is shown, the word, and the text after it
abbrev pub written_of : Bor Text × Bor Text × Bor Text → Text
written_of texts = texts.0.now ++ (texts.1.now ++ texts.2.now)

-- the value of an option; an empty text if it isn't given
abbrev pub value_of : Text → List Row → Text
value_of option rows = unwrap_or (first_of option rows) []

-- the line of `port`, if the rate isn't one of the nine
abbrev pub mistake_of_rate : Text → Text
mistake_of_rate rate = codes "--rate " ++ (rate ++ codes " isn't a rate: 10, 100, 1000, 2500, 5000, 10000, 25000, 40000 or 100000 (Mb/s)")

-- the line of `plan`, if one of the words names no link, or else the word names no candidates
abbrev pub mistake_of_link : Text → Text
mistake_of_link word = codes "--without " ++ (word ++ codes " isn't a link: 'FROM>TO' in quotes, with the names of its ends")

abbrev pub mistake_of_candidates : Text → Text
mistake_of_candidates word = codes "--cycle "
    ++ (word ++ codes " isn't N or FROM..TO/STEP: cycle times of 10000 to 10000000 ns, FROM no greater than TO, at most 1000 in all")

abbrev pub mistake_of_plan : Option Text → Text → Text
mistake_of_plan None cycle = mistake_of_candidates cycle
mistake_of_plan (Some word) cycle = mistake_of_link word

-- the line of `compile`: the format isn't one of the four; the bridge of `env` isn't given, or not by a name; a bridge is given for another
-- format; or else an option that is for `tc` alone is given for another format
abbrev pub is_form : Text → Bool
is_form format = bytes_eq format (codes "list") || (bytes_eq format (codes "tc") || (bytes_eq format (codes "env") || bytes_eq format (codes "json")))

abbrev pub mistake_of_env : Option Text → Text
mistake_of_env None = codes "--format env needs a bridge: --bridge NAME"
mistake_of_env (Some bridge) = if is_name bridge
    then codes "--software is only for --format tc"
    else codes "--bridge " ++ (bridge ++ codes " isn't a name: 1 to 32 characters, each a to z, 0 to 9, - or _")

abbrev pub mistake_of_others : Option Text → Text
mistake_of_others None = codes "--software is only for --format tc"
mistake_of_others (Some bridge) = codes "--bridge is only for --format env"

abbrev pub mistake_of_format : Text → Option Text → Text
mistake_of_format format bridge = if is_form format
    then (if bytes_eq format (codes "env") then mistake_of_env bridge else mistake_of_others bridge)
    else codes "--format " ++ (format ++ codes " isn't a format: list, tc, env or json")

-- the line of a command, by its name and its values. No other command has values that clap accepts and that are wrong
abbrev pub mistake_in : Text → List Row → Text
mistake_in name rows = if bytes_eq name (codes "port") then mistake_of_rate (value_of (codes "rate") rows)
    else (if bytes_eq name (codes "plan") then mistake_of_plan (first_no_link (texts_of (codes "without") rows)) (value_of (codes "cycle") rows)
    else (if bytes_eq name (codes "compile") then mistake_of_format (value_of (codes "format") rows) (first_of (codes "bridge") rows)
    else codes "the command doesn't take one of the values"))

abbrev pub mistake_of : Option (Text × List Row) → Text
mistake_of None = codes "a command is needed"
mistake_of (Some command) = mistake_in command.0 command.1
