-- What the words of a command line mean: clap's reading of them, for the command that is defined here.
use Rattle.std.specs.Prelude.{ℕ, ◌≡◌, ◌≢◌, ◌⊎◌, ◌≤◌, ◌++◌, Bool, true, false, List, [], Option, Some, None, IsTrue, codes, bytes_eq, option_map, string_bytes}
use Rattle.std.specs.List.{list_any}
use Rattle.std.specs.Str.Parse.{IsNumeral, digits_value, without_leading_plus}
use Rattle.clap.specs.Words.{App, Row, Text, first_of, fault_of, subcommand_of, IsAmong}
use Rattle.clap.specs.declared.error.kind.ErrorKind.{ErrorKind}
use Rattle.clap.specs.declared.error.kind.ErrorKind.TheVariants.{DisplayHelp, DisplayVersion, OutOfMemory}
use Rattle.cqf_units.specs.Name.{is_name}
use Rattle.cqf_units.specs.declared.timing.Rate.{Rate}
use Rattle.cqf_units.specs.declared.timing.Rate.TheVariants.{Mb10, Mb100, Mb1000, Mb2500, Mb5000, Mb10000, Mb25000, Mb40000, Mb100000}
use Rattle.cqf_program_words.specs.declared.candidates.Candidates.{Candidates}
use Rattle.cqf_program_words.specs.declared.plan_words.PlanOptions.{PlanOptions}
use Rattle.cqf_program_words.specs.declared.words.Format.{Format}
use Rattle.cqf_program_words.specs.declared.words.Format.TheVariants as form
use Rattle.cqf_program_words.specs.declared.words.Job.{Job}
use Rattle.cqf_program_words.specs.declared.words.Job.TheVariants.{Check, Compile, Deliveries, Diff, Hops, Latency, Line}
use Rattle.cqf_program_words.specs.declared.words.Job.TheVariants.{Load, Offers, Plan, Port, Report, Run, Summary}
use Rattle.cqf_output.specs.Stops.{line_of}
use Rattle.cqf_output.specs.declared.stops.Stop.{Stop}
use Rattle.cqf_model.specs.declared.limits.Limits.{Limits}
use Rattle.cqf_model.specs.Limits.{large, limits_where, most_cycles}
use Rattle.cqf_program_words.specs.Candidates.{AreNamed}
use Rattle.cqf_program_words.specs.Commands.{cqf_app}
use Rattle.cqf_program_words.specs.Links.{AreLinks}
use Rattle.cqf_program_words.specs.Mistakes.{mistake_of}
use Rattle.cqf_program_words.specs.Texts.{texts_of}

-- whether words request large plans: one of them is `--large`
abbrev pub is_large_word : Text → Bool
is_large_word word = bytes_eq word (codes "--large")

abbrev pub ask_for_large : List Text → Bool
ask_for_large words = list_any is_large_word words

-- the limits within which the plans of the words are read
abbrev pub limits_of : List Text → Limits
limits_of words = limits_where (ask_for_large words)

-- the commands as these words may use them
abbrev pub app_for : List Text → App
app_for words = cqf_app (ask_for_large words)

-- the text of a value writes a number from least to most: digits, possibly after a plus
abbrev pub IsNumberIn : ℕ → ℕ → ℕ → Option Text → Type 0
IsNumberIn least most number None = ⊥
IsNumberIn least most number (Some text) = IsNumeral 10 (without_leading_plus text)
    × (digits_value 10 (without_leading_plus text) ≡ number) × (least ≤ number) × (number ≤ most)

-- the text of a rate
abbrev pub rate_text : Rate → Text
rate_text Mb10 = codes "10"
rate_text Mb100 = codes "100"
rate_text Mb1000 = codes "1000"
rate_text Mb2500 = codes "2500"
rate_text Mb5000 = codes "5000"
rate_text Mb10000 = codes "10000"
rate_text Mb25000 = codes "25000"
rate_text Mb40000 = codes "40000"
rate_text Mb100000 = codes "100000"

-- a flag is given if and only if its value is `true`
abbrev pub IsFlagGiven : Bool → Option Text → Type 0
IsFlagGiven true value = value ≡ Some (codes "true")
IsFlagGiven false value = value ≢ Some (codes "true")

-- whether the text is the format for one bridge
abbrev pub is_of_bridge : Option Text → Bool
is_of_bridge None = false
is_of_bridge (Some format) = bytes_eq format (codes "env")

-- the form of a configuration, by the values of its options: `env` is for a bridge by its name, and `tc` may be for software
abbrev pub IsFormat : Format → Option Text → Option Text → Option Text → Type 0
IsFormat form.List format bridge software = (format ≡ Some (codes "list")) × (bridge ≡ None) × IsFlagGiven false software
IsFormat (form.Tc is_software) format bridge software = (format ≡ Some (codes "tc")) × (bridge ≡ None) × IsFlagGiven is_software software
IsFormat (form.Env node) format bridge software = (format ≡ Some (codes "env")) × (bridge ≡ Some node) × IsTrue (is_name node) × IsFlagGiven false software
IsFormat form.Json format bridge software = (format ≡ Some (codes "json")) × (bridge ≡ None) × IsFlagGiven false software

abbrev pub IsFormatOf : Format → List Row → Type 0
IsFormatOf format rows = IsFormat format (first_of (codes "format") rows) (first_of (codes "bridge") rows) (first_of (codes "software") rows)

-- a number from least to most, or none
abbrev pub IsFreeIn : ℕ → ℕ → Option ℕ → Option Text → Type 0
IsFreeIn least most None value = value ≡ None
IsFreeIn least most (Some number) value = IsNumberIn least most number value

-- the text of a value names candidates for a cycle time; or candidates may be missing
abbrev pub AreNamedBy : Option Text → Candidates → Type 0
AreNamedBy None given = ⊥
AreNamedBy (Some word) given = AreNamed word given

abbrev pub AreGiven : Option Candidates → Option Text → Type 0
AreGiven None value = value ≡ None
AreGiven (Some given) value = AreNamedBy value given

-- the options of `plan`
pub record ArePlanOptions (options : PlanOptions) (rows : List Row) : Type 0 where
  pub table : IsFlagGiven options.table (first_of (codes "table") rows)
  pub given : AreGiven options.given (first_of (codes "cycle") rows)
  pub tries : IsNumberIn 0 1000 options.tries (first_of (codes "tries") rows)
  pub best : IsFlagGiven options.best (first_of (codes "best") rows)
  pub without : AreLinks (texts_of (codes "without") rows) options.without.items
  pub verbose : IsFlagGiven options.verbose (first_of (codes "verbose") rows)

-- the job of a command with its values
abbrev pub IsJobOf : Job → Text → List Row → Type 0
IsJobOf (Port until rate) name rows = (name ≡ codes "port")
    × IsNumberIn 1 100000000 until (first_of (codes "until") rows)
    × (first_of (codes "rate") rows ≡ Some (rate_text rate))
IsJobOf (Line cycles) name rows = (name ≡ codes "line")
    × IsNumberIn 1 most_cycles cycles (first_of (codes "cycles") rows)
IsJobOf (Compile format edge_gates) name rows = (name ≡ codes "compile")
    × IsFormatOf format rows
    × IsFlagGiven edge_gates (first_of (codes "edge-gates") rows)
IsJobOf (Load streams) name rows = (name ≡ codes "load")
    × IsFlagGiven streams (first_of (codes "streams") rows)
IsJobOf (Latency strict) name rows = (name ≡ codes "latency")
    × IsFlagGiven strict (first_of (codes "strict") rows)
IsJobOf (Run cycles threads) name rows = (name ≡ codes "run")
    × IsNumberIn 1 most_cycles cycles (first_of (codes "cycles") rows)
    × IsFlagGiven threads (first_of (codes "threads") rows)
IsJobOf (Report cycles) name rows = (name ≡ codes "report")
    × IsNumberIn 1 most_cycles cycles (first_of (codes "cycles") rows)
IsJobOf (Deliveries cycles) name rows = (name ≡ codes "deliveries")
    × IsNumberIn 1 most_cycles cycles (first_of (codes "cycles") rows)
IsJobOf (Check cycles) name rows = (name ≡ codes "check")
    × IsNumberIn 1 most_cycles cycles (first_of (codes "cycles") rows)
IsJobOf (Summary cycles) name rows = (name ≡ codes "summary")
    × IsNumberIn 1 most_cycles cycles (first_of (codes "cycles") rows)
IsJobOf (Offers cycles seed) name rows = (name ≡ codes "offers")
    × IsNumberIn 1 most_cycles cycles (first_of (codes "cycles") rows)
    × IsFreeIn 0 4294967295 seed (first_of (codes "seed") rows)
IsJobOf (Hops cycles stream frame) name rows = (name ≡ codes "hops")
    × IsNumberIn 1 most_cycles cycles (first_of (codes "cycles") rows)
    × (option_map string_bytes stream ≡ first_of (codes "stream") rows)
    × IsFreeIn 1 large.rows frame (first_of (codes "frame") rows)
IsJobOf (Plan options) name rows = (name ≡ codes "plan")
    × ArePlanOptions options rows
IsJobOf (Diff quiet) name rows = (name ≡ codes "diff")
    × IsFlagGiven quiet (first_of (codes "quiet") rows)

-- whether the input of a job begins with a domain, followed by its streams, and the first files may be those of one network. `diff` takes
-- two networks
abbrev pub takes_domain : Job → Bool
takes_domain (Port until rate) = false
takes_domain (Line cycles) = false
takes_domain (Diff quiet) = false
takes_domain job = true

-- the job of the command that the words name, if they name one
abbrev pub IsJob : Job → Option (Text × List Row) → Type 0
IsJob job None = ⊥
IsJob job (Some command) = IsJobOf job command.0 command.1

-- the words mean the job: clap takes them, and the command and the values that it reads are the job's
pub record Mean (words : List Text) (job : Job) : Type 0 where
  pub taken : fault_of (app_for words) words ≡ []
  pub read : IsJob job (subcommand_of (app_for words) words)

-- the words request help
abbrev pub AskForHelp : List Text → Type 0
AskForHelp words = IsAmong DisplayHelp (fault_of (app_for words) words) ⊎ IsAmong DisplayVersion (fault_of (app_for words) words)

-- a kind of error that shows no help
abbrev pub ShowsNoHelp : ErrorKind → Type 0
ShowsNoHelp kind = (kind ≢ DisplayHelp) × (kind ≢ DisplayVersion)

-- the words are a mistake: clap refuses them, and not for a request for help; or it accepts them, and no job is read from them
abbrev pub AreMistaken : List Text → Type 0
AreMistaken words = ((kind : ErrorKind) × IsAmong kind (fault_of (app_for words) words) × ShowsNoHelp kind)
    ⊎ ((fault_of (app_for words) words ≡ []) × ((job : Job) → ¬ IsJob job (subcommand_of (app_for words) words)))

-- how an error of clap's ends the run: a request for help with status 0, a mistake with status 2. If an allocation fails, the status is
-- 3, and there is no text
pub record EndsBy (kind : ErrorKind) (stop : Stop) : Type 0 where
  pub statuses : (stop.status ≡ 0) ⊎ ((stop.status ≡ 2) ⊎ (stop.status ≡ 3))
  pub help : stop.status ≡ 0 → (kind ≡ DisplayHelp) ⊎ (kind ≡ DisplayVersion)
  pub mistake : stop.status ≡ 2 → ShowsNoHelp kind
  pub known : stop.status ≢ 3 → kind ≢ OutOfMemory
  pub memory : stop.status ≡ 3 → stop.text.items ≡ []

-- how words that mean no job end the run: with status 2 if they are a mistake, or with status 0 if they request help. If an allocation
-- fails, the status is 3, and there is no text
pub record EndsWords (words : List Text) (stop : Stop) : Type 0 where
  pub statuses : (stop.status ≡ 0) ⊎ ((stop.status ≡ 2) ⊎ (stop.status ≡ 3))
  pub no_job : stop.status ≢ 3 → (job : Job) → ¬ Mean words job
  pub help : stop.status ≡ 0 → AskForHelp words
  pub mistake : stop.status ≡ 2 → AreMistaken words
  pub memory : stop.status ≡ 3 → stop.text.items ≡ []

-- if clap accepts the words, and they are a mistake, the line is the program's own: which value is wrong, and which are accepted
abbrev pub WritesMistake : List Text → Stop → Type 0
WritesMistake words stop = fault_of (app_for words) words ≡ [] → stop.status ≡ 2
    → stop.text.items ≡ line_of (codes "cqf: words: " ++ mistake_of (subcommand_of (app_for words) words))
