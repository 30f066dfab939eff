-- The options of the program's commands, as given to clap.
use Rattle.std.specs.Prelude.{ℕ, ◌&&◌, ◌++◌, Bool, true, false, [], ◌∷◌, Option, Some, None, bytes_eq, codes, unwrap_or}
use Rattle.clap.specs.Words.{Rule, Text, new_rule}
use Rattle.clap.specs.declared.builder.action.ArgAction.{ArgAction}
use Rattle.clap.specs.declared.builder.action.ArgAction.TheVariants.{Append, Set, SetTrue}
use Rattle.clap.specs.declared.builder.value_parser.ValueParser.{ValueParser}
use Rattle.clap.specs.declared.builder.value_parser.ValueParser.TheVariants.{Unsigned}
use Rattle.cqf_model.specs.Limits.{last_until, limits_where, most_cycles}
use Rattle.cqf_program_words.specs.declared.options.CommandOption.{CommandOption}
use Rattle.cqf_program_words.specs.declared.options.CommandOption.TheVariants.{Until, Rate, Cycles, Format, Bridge, Seed, Stream, Frame, Cycle, Tries, Without, Strict, Streams, Threads, Table, Best, Verbose, Software, EdgeGates, Quiet, Large}

-- an option `--NAME N` that has to be given
abbrev pub wanted_rule : Text → Rule
wanted_rule name = record (new_rule name) { long = Some name; action = Some Set; required = true; value_names = 1 }

-- an option `--NAME VALUE`, and its default text
abbrev pub default_rule : Text → Text → Rule
default_rule name text = record (new_rule name) { long = Some name; action = Some Set; defaults = text ∷ []; value_names = 1 }

-- an option `--NAME VALUE` that may be given
abbrev pub free_rule : Text → Rule
free_rule name = record (new_rule name) { long = Some name; action = Some Set; value_names = 1 }

-- an option `--NAME VALUE` that may be given several times
abbrev pub repeated_rule : Text → Rule
repeated_rule name = record (new_rule name) { long = Some name; action = Some Append; value_names = 1 }

-- a flag `--NAME`; and one that a letter after a single minus gives too
abbrev pub flag_rule : Text → Rule
flag_rule name = record (new_rule name) { long = Some name; action = Some SetTrue }

abbrev pub letter_rule : ℕ → Text → Rule
letter_rule letter name = record (flag_rule name) { short = Some letter }

-- how each option is given
abbrev pub option_rule : CommandOption → Rule
option_rule Until = wanted_rule (codes "until")
option_rule Rate = default_rule (codes "rate") (codes "1000")
option_rule Cycles = wanted_rule (codes "cycles")
option_rule Format = default_rule (codes "format") (codes "list")
option_rule Bridge = free_rule (codes "bridge")
option_rule Seed = free_rule (codes "seed")
option_rule Stream = free_rule (codes "stream")
option_rule Frame = free_rule (codes "frame")
option_rule Cycle = free_rule (codes "cycle")
option_rule Tries = default_rule (codes "tries") (codes "50")
option_rule Without = repeated_rule (codes "without")
option_rule Strict = flag_rule (codes "strict")
option_rule Streams = flag_rule (codes "streams")
option_rule Threads = flag_rule (codes "threads")
option_rule Table = flag_rule (codes "table")
option_rule Best = flag_rule (codes "best")
option_rule Verbose = flag_rule (codes "verbose")
option_rule Software = flag_rule (codes "software")
option_rule EdgeGates = flag_rule (codes "edge-gates")
option_rule Quiet = letter_rule 113 (codes "quiet")
option_rule Large = flag_rule (codes "large")

-- the name of an option, which follows `--` on the command line
abbrev pub long_of : Rule → Text
long_of rule = unwrap_or rule.long []

-- an option's name
abbrev pub name_of : CommandOption → Text
name_of option = long_of (option_rule option)

-- the numbers that the option's value may be, for large plans or not; none if the value needn't be a number. A frame's number is one that
-- an offer may have
abbrev pub parser_of : Bool → CommandOption → Option ValueParser
parser_of is_large Until = Some (Unsigned 1 last_until)
parser_of is_large Cycles = Some (Unsigned 1 most_cycles)
parser_of is_large Seed = Some (Unsigned 0 4294967295)
parser_of is_large Tries = Some (Unsigned 0 1000)
parser_of is_large Frame = Some (Unsigned 1 (limits_where is_large).rows)
parser_of is_large option = None

abbrev pub with_parser_of : Option ValueParser → Rule → Rule
with_parser_of None rule = rule
with_parser_of (Some parser) rule = record rule { parser = Some parser }

-- the option with these numbers
abbrev pub rule_for : Bool → CommandOption → Rule
rule_for is_large option = with_parser_of (parser_of is_large option) (option_rule option)

-- a value follows an option
abbrev pub is_set : Option ArgAction → Bool
is_set (Some Set) = true
is_set (Some Append) = true
is_set action = false

abbrev pub takes_value : Rule → Bool
takes_value rule = is_set rule.action

-- the word gives the option, and its value follows as a separate word
abbrev pub gives_value : Text → Rule → Bool
gives_value word rule = takes_value rule && bytes_eq word (codes "--" ++ long_of rule)
