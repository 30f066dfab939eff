-- Values of a command, and the jobs that they exclude.
use Rattle.std.specs.Prelude.{String}
use Rattle.std.specs.declared.alloc.Global.{Global}
use Rattle.std.proofs.Common.{◌≡◌, ◌≢◌, ◌∙◌, ◌+◌, ◌*◌, ◌++◌, ℕ, true, false, refl, List, [], Option, Some, None, sym, ap, ap₂, subst}
use Rattle.std.proofs.Common.{slice_index, codes, arith, inl, inr, ◌⊎◌, Bool}
use Rattle.clap.specs.Words.{App, Row, Text, first_of, fault_of, is_simple, is_simple_and_free, HasKind, HasMatchesOf, IsAmong, Kinds, kind_of, subcommand_of}
use Rattle.clap.specs.Words.{Rule, rule_of, subcommand_rows_of}
use Rattle.clap.specs.declared.builder.arg.Arg.{Arg}
use Rattle.clap.specs.declared.builder.value_parser.ValueParser.{ValueParser}
use Rattle.clap.specs.declared.error.Error.{Error}
use Rattle.clap.specs.declared.parser.matches.ArgMatches.{ArgMatches}
use Rattle.clap.specs.declared.error.kind.ErrorKind.{ErrorKind}
use Rattle.clap.specs.declared.error.kind.ErrorKind.TheVariants.{DisplayHelp, DisplayVersion, InvalidValue, OutOfMemory}
use Rattle.cqf_units.specs.declared.timing.Rate.{Rate}
use Rattle.cqf_program_words.specs.declared.candidates.Candidates.{Candidates}
use Rattle.cqf_program_words.specs.declared.plan_words.PlanOptions.{PlanOptions}
use Rattle.cqf_program_words.specs.declared.words.Format.{Format}
use Rattle.cqf_program_words.specs.declared.words.Job.{Job}
use Rattle.cqf_program_words.specs.declared.words.Job.TheVariants.{Check, Compile, Deliveries, Diff, Hops, Latency, Line}
use Rattle.cqf_program_words.specs.declared.words.Job.TheVariants.{Load, Offers, Plan, Port, Report, Run, Summary}
use Rattle.cqf_output.specs.Stops.{EndsWith, line_of}
use Rattle.cqf_output.specs.declared.stops.Stop.{Stop}
use Rattle.cqf_program_words.specs.Candidates.{AreNamed}
use Rattle.cqf_program_words.specs.Commands.{cqf_app}
use Rattle.cqf_program_words.specs.Mistakes.{mistake_of}
use Rattle.cqf_program_words.specs.Words.{app_for, ask_for_large, rate_text, IsJob, IsFormat, IsFormatOf, IsFreeIn, IsJobOf, IsNumberIn, AreGiven, ArePlanOptions}
use Rattle.cqf_program_words.specs.Words.{Mean, AskForHelp, EndsBy, EndsWords, WritesMistake}

-- an option whose parser was set has the same rule except for the parser
pub with_parser : (before after : Arg) (rule : Rule) (parser : ValueParser) → after ≡ record before { value_parser = after.value_parser } →
    rule_of before ≡ rule → after.value_parser ≡ Some parser → rule_of after ≡ record rule { parser = Some parser }
with_parser before after rule parser is went set =
    ap rule_of is ∙ ap₂ (λ (r : Rule) (p : Option ValueParser). record r { parser = p }) went set

-- the first and the third letter of a command's name, which distinguish it from the others
abbrev mark : Text → ℕ
mark name = 256 * slice_index name 0 + slice_index name 2

-- names with two marks are different
marked : (one two : Text) → one ≡ two → mark one ≡ mark two
marked one two e = ap mark e

-- of `port` there are only its own jobs
pub only_port : (rows : List Row) → ((until : ℕ) (rate : Rate) → ¬ IsJobOf (Port until rate) (codes "port") rows) →
    (job : Job) → ¬ IsJobOf job (codes "port") rows
only_port rows none (Port until rate) job = none until rate job
only_port rows none (Line cycles) job = omega (arith, marked (codes "port") (codes "line") job.0)
only_port rows none (Compile format edge_gates) job = omega (arith, marked (codes "port") (codes "compile") job.0)
only_port rows none (Load streams) job = omega (arith, marked (codes "port") (codes "load") job.0)
only_port rows none (Latency strict) job = omega (arith, marked (codes "port") (codes "latency") job.0)
only_port rows none (Run cycles threads) job = omega (arith, marked (codes "port") (codes "run") job.0)
only_port rows none (Report cycles) job = omega (arith, marked (codes "port") (codes "report") job.0)
only_port rows none (Deliveries cycles) job = omega (arith, marked (codes "port") (codes "deliveries") job.0)
only_port rows none (Check cycles) job = omega (arith, marked (codes "port") (codes "check") job.0)
only_port rows none (Summary cycles) job = omega (arith, marked (codes "port") (codes "summary") job.0)
only_port rows none (Offers cycles seed) job = omega (arith, marked (codes "port") (codes "offers") job.0)
only_port rows none (Hops cycles stream frame) job = omega (arith, marked (codes "port") (codes "hops") job.0)
only_port rows none (Plan options) job = omega (arith, marked (codes "port") (codes "plan") job.0)
only_port rows none (Diff quiet) job = omega (arith, marked (codes "port") (codes "diff") job.0)

-- and so of `compile`
pub only_compile : (rows : List Row) → ((format : Format) (edge_gates : Bool) → ¬ IsJobOf (Compile format edge_gates) (codes "compile") rows) →
    (job : Job) → ¬ IsJobOf job (codes "compile") rows
only_compile rows none (Port until rate) job = omega (arith, marked (codes "compile") (codes "port") job.0)
only_compile rows none (Line cycles) job = omega (arith, marked (codes "compile") (codes "line") job.0)
only_compile rows none (Compile format edge_gates) job = none format edge_gates job
only_compile rows none (Load streams) job = omega (arith, marked (codes "compile") (codes "load") job.0)
only_compile rows none (Latency strict) job = omega (arith, marked (codes "compile") (codes "latency") job.0)
only_compile rows none (Run cycles threads) job = omega (arith, marked (codes "compile") (codes "run") job.0)
only_compile rows none (Report cycles) job = omega (arith, marked (codes "compile") (codes "report") job.0)
only_compile rows none (Deliveries cycles) job = omega (arith, marked (codes "compile") (codes "deliveries") job.0)
only_compile rows none (Check cycles) job = omega (arith, marked (codes "compile") (codes "check") job.0)
only_compile rows none (Summary cycles) job = omega (arith, marked (codes "compile") (codes "summary") job.0)
only_compile rows none (Offers cycles seed) job = omega (arith, marked (codes "compile") (codes "offers") job.0)
only_compile rows none (Hops cycles stream frame) job = omega (arith, marked (codes "compile") (codes "hops") job.0)
only_compile rows none (Plan options) job = omega (arith, marked (codes "compile") (codes "plan") job.0)
only_compile rows none (Diff quiet) job = omega (arith, marked (codes "compile") (codes "diff") job.0)

-- of `offers`
pub only_offers : (rows : List Row) → ((cycles : ℕ) (seed : Option ℕ) → ¬ IsJobOf (Offers cycles seed) (codes "offers") rows) →
    (job : Job) → ¬ IsJobOf job (codes "offers") rows
only_offers rows none (Port until rate) job = omega (arith, marked (codes "offers") (codes "port") job.0)
only_offers rows none (Line cycles) job = omega (arith, marked (codes "offers") (codes "line") job.0)
only_offers rows none (Compile format edge_gates) job = omega (arith, marked (codes "offers") (codes "compile") job.0)
only_offers rows none (Load streams) job = omega (arith, marked (codes "offers") (codes "load") job.0)
only_offers rows none (Latency strict) job = omega (arith, marked (codes "offers") (codes "latency") job.0)
only_offers rows none (Run cycles threads) job = omega (arith, marked (codes "offers") (codes "run") job.0)
only_offers rows none (Report cycles) job = omega (arith, marked (codes "offers") (codes "report") job.0)
only_offers rows none (Deliveries cycles) job = omega (arith, marked (codes "offers") (codes "deliveries") job.0)
only_offers rows none (Check cycles) job = omega (arith, marked (codes "offers") (codes "check") job.0)
only_offers rows none (Summary cycles) job = omega (arith, marked (codes "offers") (codes "summary") job.0)
only_offers rows none (Offers cycles seed) job = none cycles seed job
only_offers rows none (Hops cycles stream frame) job = omega (arith, marked (codes "offers") (codes "hops") job.0)
only_offers rows none (Plan options) job = omega (arith, marked (codes "offers") (codes "plan") job.0)
only_offers rows none (Diff quiet) job = omega (arith, marked (codes "offers") (codes "diff") job.0)

-- of `hops`
pub only_hops : (rows : List Row) →
    ((cycles : ℕ) (stream : Option (String Global)) (frame : Option ℕ) → ¬ IsJobOf (Hops cycles stream frame) (codes "hops") rows) →
    (job : Job) → ¬ IsJobOf job (codes "hops") rows
only_hops rows none (Port until rate) job = omega (arith, marked (codes "hops") (codes "port") job.0)
only_hops rows none (Line cycles) job = omega (arith, marked (codes "hops") (codes "line") job.0)
only_hops rows none (Compile format edge_gates) job = omega (arith, marked (codes "hops") (codes "compile") job.0)
only_hops rows none (Load streams) job = omega (arith, marked (codes "hops") (codes "load") job.0)
only_hops rows none (Latency strict) job = omega (arith, marked (codes "hops") (codes "latency") job.0)
only_hops rows none (Run cycles threads) job = omega (arith, marked (codes "hops") (codes "run") job.0)
only_hops rows none (Report cycles) job = omega (arith, marked (codes "hops") (codes "report") job.0)
only_hops rows none (Deliveries cycles) job = omega (arith, marked (codes "hops") (codes "deliveries") job.0)
only_hops rows none (Check cycles) job = omega (arith, marked (codes "hops") (codes "check") job.0)
only_hops rows none (Summary cycles) job = omega (arith, marked (codes "hops") (codes "summary") job.0)
only_hops rows none (Offers cycles seed) job = omega (arith, marked (codes "hops") (codes "offers") job.0)
only_hops rows none (Hops cycles stream frame) job = none cycles stream frame job
only_hops rows none (Plan options) job = omega (arith, marked (codes "hops") (codes "plan") job.0)
only_hops rows none (Diff quiet) job = omega (arith, marked (codes "hops") (codes "diff") job.0)

-- and of `plan`
pub only_plan : (rows : List Row) → ((options : PlanOptions) → ¬ IsJobOf (Plan options) (codes "plan") rows) →
    (job : Job) → ¬ IsJobOf job (codes "plan") rows
only_plan rows none (Port until rate) job = omega (arith, marked (codes "plan") (codes "port") job.0)
only_plan rows none (Line cycles) job = omega (arith, marked (codes "plan") (codes "line") job.0)
only_plan rows none (Compile format edge_gates) job = omega (arith, marked (codes "plan") (codes "compile") job.0)
only_plan rows none (Load streams) job = omega (arith, marked (codes "plan") (codes "load") job.0)
only_plan rows none (Latency strict) job = omega (arith, marked (codes "plan") (codes "latency") job.0)
only_plan rows none (Run cycles threads) job = omega (arith, marked (codes "plan") (codes "run") job.0)
only_plan rows none (Report cycles) job = omega (arith, marked (codes "plan") (codes "report") job.0)
only_plan rows none (Deliveries cycles) job = omega (arith, marked (codes "plan") (codes "deliveries") job.0)
only_plan rows none (Check cycles) job = omega (arith, marked (codes "plan") (codes "check") job.0)
only_plan rows none (Summary cycles) job = omega (arith, marked (codes "plan") (codes "summary") job.0)
only_plan rows none (Offers cycles seed) job = omega (arith, marked (codes "plan") (codes "offers") job.0)
only_plan rows none (Hops cycles stream frame) job = omega (arith, marked (codes "plan") (codes "hops") job.0)
only_plan rows none (Plan options) job = none options job
only_plan rows none (Diff quiet) job = omega (arith, marked (codes "plan") (codes "diff") job.0)

-- so without a number there is no job of `port`
pub no_port-until : (rows : List Row) (text : Option Text) → text ≡ first_of (codes "until") rows → ((n : ℕ) → ¬ IsNumberIn 1 100000000 n text) → (job : Job) →
    ¬ IsJobOf job (codes "port") rows
no_port-until rows text same none =
    only_port rows (λ until rate job. let P : Option Text → Type 0 = λ t. IsNumberIn 1 100000000 until t in none until (subst P (sym same) job.1))

-- nor without a rate
pub no_port-rate : (rows : List Row) (text : Option Text) → text ≡ first_of (codes "rate") rows → ((rate : Rate) → ¬ (text ≡ Some (rate_text rate))) →
    (job : Job) → ¬ IsJobOf job (codes "port") rows
no_port-rate rows text same none = only_port rows (λ until rate job. none rate (same ∙ job.2))

-- without a format there is no job of `compile`
pub no_compile-format : (rows : List Row) → ((format : Format) → ¬ IsFormatOf format rows) → (job : Job) → ¬ IsJobOf job (codes "compile") rows
no_compile-format rows none = only_compile rows (λ format edge_gates job. none format job.1)

-- without a number of cycles there is no job of a command that takes only these
pub no_cycles : (name : Text) (rows : List Row) → name ≢ codes "port" → name ≢ codes "compile" → name ≢ codes "load" → name ≢ codes "latency" →
    name ≢ codes "offers" → name ≢ codes "hops" → name ≢ codes "plan" → name ≢ codes "diff" → ((n : ℕ) → ¬ IsNumberIn 1 100000 n (first_of (codes "cycles") rows)) →
    (job : Job) → ¬ IsJobOf job name rows
no_cycles name rows not_port not_compile not_load not_latency not_offers not_hops not_plan not_diff none (Port until rate) job = not_port job.0
no_cycles name rows not_port not_compile not_load not_latency not_offers not_hops not_plan not_diff none (Line cycles) job = none cycles job.1
no_cycles name rows not_port not_compile not_load not_latency not_offers not_hops not_plan not_diff none (Compile format edge_gates) job = not_compile job.0
no_cycles name rows not_port not_compile not_load not_latency not_offers not_hops not_plan not_diff none (Load streams) job = not_load job.0
no_cycles name rows not_port not_compile not_load not_latency not_offers not_hops not_plan not_diff none (Latency strict) job = not_latency job.0
no_cycles name rows not_port not_compile not_load not_latency not_offers not_hops not_plan not_diff none (Run cycles threads) job = none cycles job.1
no_cycles name rows not_port not_compile not_load not_latency not_offers not_hops not_plan not_diff none (Report cycles) job = none cycles job.1
no_cycles name rows not_port not_compile not_load not_latency not_offers not_hops not_plan not_diff none (Deliveries cycles) job = none cycles job.1
no_cycles name rows not_port not_compile not_load not_latency not_offers not_hops not_plan not_diff none (Check cycles) job = none cycles job.1
no_cycles name rows not_port not_compile not_load not_latency not_offers not_hops not_plan not_diff none (Summary cycles) job = none cycles job.1
no_cycles name rows not_port not_compile not_load not_latency not_offers not_hops not_plan not_diff none (Offers cycles seed) job = not_offers job.0
no_cycles name rows not_port not_compile not_load not_latency not_offers not_hops not_plan not_diff none (Hops cycles stream frame) job = not_hops job.0
no_cycles name rows not_port not_compile not_load not_latency not_offers not_hops not_plan not_diff none (Plan options) job = not_plan job.0
no_cycles name rows not_port not_compile not_load not_latency not_offers not_hops not_plan not_diff none (Diff quiet) job = not_diff job.0

-- without a number of cycles there is no job of `offers`
pub no_offers-cycles : (rows : List Row) → ((n : ℕ) → ¬ IsNumberIn 1 100000 n (first_of (codes "cycles") rows)) → (job : Job) →
    ¬ IsJobOf job (codes "offers") rows
no_offers-cycles rows none = only_offers rows (λ cycles seed job. none cycles job.1)

-- nor with something else than a seed
pub no_offers-seed : (rows : List Row) → ((seed : Option ℕ) → ¬ IsFreeIn 0 4294967295 seed (first_of (codes "seed") rows)) → (job : Job) →
    ¬ IsJobOf job (codes "offers") rows
no_offers-seed rows none = only_offers rows (λ cycles seed job. none seed job.2)

-- without a number of cycles there is no job of `hops`
pub no_hops-cycles : (rows : List Row) → ((n : ℕ) → ¬ IsNumberIn 1 100000 n (first_of (codes "cycles") rows)) → (job : Job) →
    ¬ IsJobOf job (codes "hops") rows
no_hops-cycles rows none = only_hops rows (λ cycles stream frame job. none cycles job.1)

-- nor with something else than a frame
pub no_hops-frame : (rows : List Row) → ((frame : Option ℕ) → ¬ IsFreeIn 1 10000000 frame (first_of (codes "frame") rows)) → (job : Job) →
    ¬ IsJobOf job (codes "hops") rows
no_hops-frame rows none = only_hops rows (λ cycles stream frame job. none frame job.3)

-- without its options there is no job of `plan`
pub no_plan : (rows : List Row) → ((options : PlanOptions) → ¬ ArePlanOptions options rows) → (job : Job) → ¬ IsJobOf job (codes "plan") rows
no_plan rows none = only_plan rows (λ options job. none options job.1)

-- a number of a value is one of its text
pub number_of-text : (least most number : ℕ) (text value : Option Text) → text ≡ value → IsNumberIn least most number text → IsNumberIn least most number value
number_of-text least most number text value same h =
    let P : Option Text → Type 0 = λ t. IsNumberIn least most number t in subst P same h

-- if a text is given that writes no number, then there is neither a number nor no text
pub no_free_number : (least most : ℕ) (text : Text) (value : Option Text) → Some text ≡ value → ((n : ℕ) → ¬ IsNumberIn least most n (Some text)) →
    (number : Option ℕ) → ¬ IsFreeIn least most number value
no_free_number least most text value same none None is = absurd (cc)
no_free_number least most text value same none (Some number) is = none number (number_of-text least most number value (Some text) (sym same) is)

-- if a word is given that names no candidates, then there are neither candidates nor no word
pub none_given : (word : Text) (value : Option Text) → Some word ≡ value → ((given : Candidates) → ¬ AreNamed word given) → (given : Option Candidates) →
    ¬ AreGiven given value
none_given word value same none None is = absurd (cc)
none_given word value same none (Some given) is =
    let P : Option Text → Type 0 = λ v. AreGiven (Some given) v in none given (subst P (sym same) is)

-- if clap's error is one of the words' faults, and isn't for memory, they mean no job
pub no_job-by_fault : (words : List Text) (kind : ErrorKind) → (kind ≡ OutOfMemory) ⊎ IsAmong kind (fault_of (app_for words) words) → kind ≢ OutOfMemory → (job : Job) →
    ¬ Mean words job
no_job-by_fault words kind (inl none) known job m = known none
no_job-by_fault words kind (inr among) known job m = let P : Kinds → Type 0 = λ kinds. IsAmong kind kinds in subst P m.taken among

-- an error that shows help is for words that request it
asked : (words : List Text) (kind : ErrorKind) → (kind ≡ OutOfMemory) ⊎ IsAmong kind (fault_of (app_for words) words) → kind ≢ OutOfMemory →
    (kind ≡ DisplayHelp) ⊎ (kind ≡ DisplayVersion) → AskForHelp words
asked words kind (inl none) known shown = absurd (known none)
asked words kind (inr among) known shown =
    let P : ErrorKind → Type 0 = λ k. IsAmong k (fault_of (app_for words) words) in
    elim shown [ inl h ↦ inl (subst P h among) | inr v ↦ inr (subst P v among) ]

-- an error that isn't for memory is one of the words' faults
among_faults : (words : List Text) (kind : ErrorKind) → (kind ≡ OutOfMemory) ⊎ IsAmong kind (fault_of (app_for words) words) → kind ≢ OutOfMemory →
    IsAmong kind (fault_of (app_for words) words)
among_faults words kind (inl none) known = absurd (known none)
among_faults words kind (inr among) known = among

-- an end with status 0 has no status 3
not_three : (stop : Stop) → stop.status ≡ 0 → stop.status ≢ 3
not_three stop zero three = omega arith

-- a fault of the words ends the run by its kind
pub EndsWords-by_fault : (words : List Text) (kind : ErrorKind) (stop : Stop) → (kind ≡ OutOfMemory) ⊎ IsAmong kind (fault_of (app_for words) words) →
    EndsBy kind stop → EndsWords words stop
EndsWords-by_fault words kind stop h e = record {
  statuses = e.statuses;
  no_job = λ known job. no_job-by_fault words kind h (e.known known) job;
  help = λ zero. asked words kind h (e.known (not_three stop zero)) (e.help zero);
  mistake = λ two. inl (kind, among_faults words kind h (e.known (λ three. omega arith)), e.mistake two);
  memory = e.memory;
}

-- the program's command is one whose faults clap states, for large plans or not
simple_and_free : (is_large : Bool) → is_simple_and_free (cqf_app is_large) ≡ true
simple_and_free true = refl
simple_and_free false = refl

simple_app : (is_large : Bool) → is_simple (cqf_app is_large) ≡ true
simple_app true = refl
simple_app false = refl

simple : (words : List Text) → is_simple_and_free (app_for words) ≡ true
simple words = simple_and_free (ask_for_large words)

-- the same of what clap says of an error, for a command that is the program's
pub EndsWords-by_error : (app : App) (words : List Text) (error : Error) (stop : Stop) → app ≡ app_for words →
    (is_simple_and_free app ≡ true → HasKind (fault_of app words) error) → EndsBy (kind_of error) stop → EndsWords words stop
EndsWords-by_error app words error stop same fails e =
    let P : App → Type 0 = λ a. HasKind (fault_of a words) error in
    EndsWords-by_fault words (kind_of error) stop (subst P same (fails (ap is_simple_and_free same ∙ simple words))) e

-- if clap takes the words, and no job is read from them, they mean none
pub EndsWords-by_value : (words : List Text) (stop : Stop) → EndsBy InvalidValue stop → fault_of (app_for words) words ≡ [] →
    ((job : Job) → ¬ IsJob job (subcommand_of (app_for words) words)) → EndsWords words stop
EndsWords-by_value words stop e taken none = record {
  statuses = e.statuses;
  no_job = λ known job m. none job m.read;
  help = λ zero. elim (e.help zero) [ inl h ↦ (cc) | inr h ↦ (cc) ];
  mistake = λ two. inr (taken, none);
  memory = e.memory;
}

-- the rows of the command's matches, for a command that is the program's
pub EndsWords-by_matches : (app : App) (words : List Text) (matches : ArgMatches) (stop : Stop) → app ≡ app_for words →
    (is_simple_and_free app ≡ true → fault_of app words ≡ []) → HasMatchesOf app words matches → EndsBy InvalidValue stop →
    ((job : Job) → ¬ IsJob job (subcommand_rows_of matches)) → EndsWords words stop
EndsWords-by_matches app words matches stop same taken has e none =
    let rows : subcommand_rows_of matches ≡ subcommand_of (app_for words) words = (has (ap is_simple same ∙ simple_app (ask_for_large words))).1 ∙ ap (λ (a : App). subcommand_of a words) same in
    let P : Option (Text × List Row) → Type 0 = λ r. (job : Job) → ¬ IsJob job r in
    EndsWords-by_value words stop e (ap (λ (a : App). fault_of a words) (sym same) ∙ taken (ap is_simple_and_free same ∙ simple words)) (subst P rows none)

-- and the job that is read from them is what the words mean
pub Mean-by_matches : (app : App) (words : List Text) (matches : ArgMatches) (job : Job) → app ≡ app_for words →
    (is_simple_and_free app ≡ true → fault_of app words ≡ []) → HasMatchesOf app words matches → IsJob job (subcommand_rows_of matches) → Mean words job
Mean-by_matches app words matches job same taken has is_job =
    let rows : subcommand_rows_of matches ≡ subcommand_of (app_for words) words = (has (ap is_simple same ∙ simple_app (ask_for_large words))).1 ∙ ap (λ (a : App). subcommand_of a words) same in
    let P : Option (Text × List Row) → Type 0 = λ r. IsJob job r in
    record {
      taken = ap (λ (a : App). fault_of a words) (sym same) ∙ taken (ap is_simple_and_free same ∙ simple words);
      read = subst P rows is_job;
    }

-- words that mean no job end so too if the stop is given another text
pub EndsWords-reported : (words : List Text) (stop reported : Stop) → EndsWords words stop → (reported.status ≡ stop.status) ⊎ (reported.status ≡ 3)
    → (reported.status ≡ 3 → reported.text.items ≡ []) → EndsWords words reported
EndsWords-reported words stop reported e (inl same) memory = record {
  statuses = elim e.statuses [
    | inl zero_is ↦ inl (same ∙ zero_is)
    | inr other ↦
        inr (elim other [ inl two ↦ inl (same ∙ two) | inr three ↦ inr (same ∙ three) ])
  ];
  no_job = λ known. e.no_job (λ three. known (same ∙ three));
  help = λ zero_is. e.help (sym same ∙ zero_is);
  mistake = λ two. e.mistake (sym same ∙ two);
  memory = memory;
}
EndsWords-reported words stop reported e (inr three) memory = record {
  statuses = inr (inr three);
  no_job = λ known. absurd (known three);
  help = λ zero_is. absurd (omega arith);
  mistake = λ two. absurd (omega arith);
  memory = memory;
}

-- if clap takes the words, its matches say which command they name, with which values
pub WritesMistake-by_matches : (app : App) (words : List Text) (matches : ArgMatches) (stop : Stop) → app ≡ app_for words → HasMatchesOf app words matches →
    EndsWith 2 (line_of (codes "cqf: words: " ++ mistake_of (subcommand_rows_of matches))) stop → WritesMistake words stop
WritesMistake-by_matches app words matches stop same has ends = λ taken two.
    let rows : subcommand_rows_of matches ≡ subcommand_of (app_for words) words = (has (ap is_simple same ∙ simple_app (ask_for_large words))).1 ∙ ap (λ (a : App). subcommand_of a words) same in
    ends.line_is two ∙ ap (λ (r : Option (Text × List Row)). line_of (codes "cqf: words: " ++ mistake_of r)) rows

-- if clap refuses the words, it doesn't take them
pub WritesMistake-by_error : (app : App) (words : List Text) (error : Error) (stop : Stop) → app ≡ app_for words →
    (is_simple_and_free app ≡ true → HasKind (fault_of app words) error) → EndsBy (kind_of error) stop → WritesMistake words stop
WritesMistake-by_error app words error stop same fails e = λ taken two.
    let P : App → Type 0 = λ a. HasKind (fault_of a words) error in
    let among = among_faults words (kind_of error) (subst P same (fails (ap is_simple_and_free same ∙ simple words))) (e.known (λ three. omega arith)) in
    let Q : Kinds → Type 0 = λ kinds. IsAmong (kind_of error) kinds in
    absurd (subst Q taken among)

-- a mistake with another text ends so too
pub EndsBy-helped : (kind : ErrorKind) (stop reported : Stop) → EndsBy kind stop → stop.status ≡ 2 → (reported.status ≡ 2) ⊎ (reported.status ≡ 3)
    → (reported.status ≡ 3 → reported.text.items ≡ []) → EndsBy kind reported
EndsBy-helped kind stop reported e two statuses memory = record {
  statuses = inr statuses;
  help = λ zero_is. elim statuses [ inl is ↦ absurd (omega arith) | inr is ↦ absurd (omega arith) ];
  mistake = λ _. e.mistake two;
  known = λ _. e.known (λ three. omega arith);
  memory = memory;
}
