-- The program's commands, as given to clap.
use Rattle.std.specs.Prelude.{Bool, true, List, [], ◌∷◌, codes, fold}
use Rattle.std.specs.List.{list_any}
use Rattle.clap.specs.Words.{App, Text, new_app, with_rule, with_subcommand}
use Rattle.clap.specs.Simple.{on_top}
use Rattle.cqf_program_words.specs.declared.options.CommandOption.{CommandOption}
use Rattle.cqf_program_words.specs.declared.options.CommandOption.TheVariants as options
use Rattle.cqf_program_words.specs.declared.commands.Subcommand.{Subcommand}
use Rattle.cqf_program_words.specs.declared.commands.Subcommand.TheVariants.{Port, Line, Compile, Load, Latency, Run, Report, Deliveries, Check, Summary, Hops, Offers, Plan, Diff}
use Rattle.cqf_program_words.specs.Options.{gives_value, option_rule, rule_for}

-- the commands
abbrev pub all_commands : List Subcommand
all_commands = Plan ∷ Load ∷ Latency ∷ Compile ∷ Diff ∷ Offers ∷ Check ∷ Run ∷ Summary ∷ Report ∷ Hops ∷ Deliveries ∷ Port ∷ Line ∷ []

-- their names
abbrev pub name_of : Subcommand → Text
name_of Port = codes "port"
name_of Line = codes "line"
name_of Compile = codes "compile"
name_of Load = codes "load"
name_of Latency = codes "latency"
name_of Run = codes "run"
name_of Report = codes "report"
name_of Deliveries = codes "deliveries"
name_of Check = codes "check"
name_of Summary = codes "summary"
name_of Hops = codes "hops"
name_of Offers = codes "offers"
name_of Plan = codes "plan"
name_of Diff = codes "diff"

-- their options: `port --until N [--rate RATE]`,
-- `line --cycles N`,
-- `compile [--format FORMAT] [--bridge NAME] [--software] [--edge-gates] [--large]`,
-- `load [--streams] [--large]`,
-- `latency [--strict] [--large]`,
-- `run --cycles N [--threads] [--large]`,
-- `report --cycles N [--large]`,
-- `deliveries --cycles N [--large]`,
-- `check --cycles N [--large]`,
-- `summary --cycles N [--large]`,
-- `hops --cycles N [--stream NAME] [--frame F] [--large]`,
-- `offers --cycles N [--seed S] [--large]`,
-- `plan [--table] [--cycle WORD] [--tries N] [--best] [--without LINK].. [--verbose] [--large]`,
-- `diff [--quiet] [--large]`
abbrev pub options_of : Subcommand → List CommandOption
options_of Port = options.Until ∷ options.Rate ∷ []
options_of Line = options.Cycles ∷ []
options_of Compile = options.Format ∷ options.Bridge ∷ options.Software ∷ options.EdgeGates ∷ options.Large ∷ []
options_of Load = options.Streams ∷ options.Large ∷ []
options_of Latency = options.Strict ∷ options.Large ∷ []
options_of Run = options.Cycles ∷ options.Threads ∷ options.Large ∷ []
options_of Report = options.Cycles ∷ options.Large ∷ []
options_of Deliveries = options.Cycles ∷ options.Large ∷ []
options_of Check = options.Cycles ∷ options.Large ∷ []
options_of Summary = options.Cycles ∷ options.Large ∷ []
options_of Hops = options.Cycles ∷ options.Stream ∷ options.Frame ∷ options.Large ∷ []
options_of Offers = options.Cycles ∷ options.Seed ∷ options.Large ∷ []
options_of Plan = options.Table ∷ options.Cycle ∷ options.Tries ∷ options.Best ∷ options.Without ∷ options.Verbose ∷ options.Large ∷ []
options_of Diff = options.Quiet ∷ options.Large ∷ []

-- the word is one of the command's options, and its value follows as a separate word
abbrev pub does_want_value : Text → Subcommand → Bool
does_want_value word command = list_any (λ option. gives_value word (option_rule option)) (options_of command)

-- a command with one more option, for large plans or not
abbrev pub with_option : Bool → App → CommandOption → App
with_option is_large app option = with_rule app (rule_for is_large option)

-- a command with its options
abbrev pub command_app : Bool → Subcommand → App
command_app is_large command = fold (with_option is_large) (new_app (name_of command)) (options_of command)

-- the program's name, and settings: the words don't include the program's name, and one of the commands has to be given
abbrev pub named_app : App
named_app = on_top (λ s. record s { no_binary_name = true; subcommand_required = true }) (new_app (codes "cqf"))

-- a program with one more command
abbrev pub with_command : Bool → App → Subcommand → App
with_command is_large app command = with_subcommand app (command_app is_large command).top

-- the program with all of its commands
abbrev pub cqf_app : Bool → App
cqf_app is_large = fold (with_command is_large) named_app all_commands
