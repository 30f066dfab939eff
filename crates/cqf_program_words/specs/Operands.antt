-- Which words of a command line name files.
use Rattle.std.specs.Prelude.{ℕ, ◌≡◌, ◌==◌, ◌++◌, Bool, true, false, List, [], ◌∷◌, Option, Some, None, if◌then◌else◌, bytes_eq, codes, count_by, fold, length, map, nat_le}
use Rattle.std.specs.List.{list_any}
use Rattle.clap.specs.Words.{Text}
use Rattle.cqf_program_words.specs.declared.operands.WordPosition.{WordPosition}
use Rattle.cqf_program_words.specs.declared.operands.WordPosition.TheVariants.{Start, Free, Value, After, Other}
use Rattle.cqf_program_words.specs.declared.operands.Operands.{Operands}
use Rattle.cqf_program_words.specs.declared.words.Job.{Job}
use Rattle.cqf_program_words.specs.declared.words.Job.TheVariants.{Diff}
use Rattle.cqf_output.specs.Stops.{line_of}
use Rattle.cqf_program_words.specs.Commands.{all_commands, cqf_app, does_want_value, name_of}
use Rattle.cqf_program_words.specs.Options.{gives_value}

-- a command; all commands take files
abbrev pub is_command : Text → Bool
is_command word = list_any (λ command. bytes_eq word (name_of command)) all_commands

-- an option of some command, with its value as a separate word after it
abbrev pub wants_value : Text → Bool
wants_value word = list_any (does_want_value word) all_commands

-- law: the words that are read as commands are those that clap has as commands, and no others
abbrev pub ReadsCommands : Type 0
ReadsCommands = (is_large : Bool) (word : Text) → is_command word ≡ list_any (λ shape. bytes_eq word shape.name) (cqf_app is_large).subs

-- law: a word is read as one with a value after it if and only if clap has it as an option with a value, of some command
abbrev pub ReadsOptions : Type 0
ReadsOptions = (is_large : Bool) (word : Text)
    → wants_value word ≡ list_any (λ shape. list_any (gives_value word) shape.rules) (cqf_app is_large).subs

-- the word that ends the options
abbrev pub ends_options : Text → Bool
ends_options word = bytes_eq word (codes "--")

-- an option: it begins with a minus, and isn't a minus alone
abbrev pub is_option : Text → Bool
is_option (first ∷ second ∷ more) = first == 45
is_option word = false

-- what a word is read as, by the words before it
abbrev pub after_word : WordPosition → Text → WordPosition
after_word Start word = if is_command word then Free else Other
after_word Free word = if wants_value word then Value else (if ends_options word then After else Free)
after_word Value word = Free
after_word After word = After
after_word Other word = Other

-- whether a word names a file: after a command, each word that is neither an option nor an option's value; after `--`, each word
abbrev pub names_file : WordPosition → Text → Bool
names_file Free word = if is_option word then false else true
names_file After word = true
names_file position word = false

-- the words so far: those that name no files, those that do, and what the next word is read as
pub record Split : Type 0 where
  pub words : List Text
  pub files : List Text
  pub position : WordPosition

abbrev pub no_words : Split
no_words = record { words = []; files = []; position = Start }

-- with one more word
abbrev pub with_word : Split → Text → Split
with_word split word = record {
  words = if names_file split.position word then split.words else split.words ++ word ∷ [];
  files = if names_file split.position word then split.files ++ word ∷ [] else split.files;
  position = after_word split.position word;
}

-- a command line, split
abbrev pub split_of : List Text → Split
split_of words = fold with_word no_words words

-- what was split so far
abbrev pub split_so_far : Operands → Split
split_so_far operands = record {
  words = map (λ word. word.now) operands.words.items;
  files = map (λ word. word.now) operands.files.items;
  position = operands.position;
}

-- the file is standard input; and two of some files are
abbrev pub is_standard : Text → Bool
is_standard file = bytes_eq file (codes "-")

abbrev pub is_standard_twice : List Text → Bool
is_standard_twice files = nat_le 2 (count_by is_standard files)

-- a number of files that the job takes: `diff` takes those of two networks, any other job takes any number
abbrev pub takes_files : Job → ℕ → Bool
takes_files (Diff quiet) count = count == 2
takes_files job count = true

-- the line if standard input is named twice, or else if the job doesn't take that number of files
abbrev pub standard_twice_line : Text
standard_twice_line = line_of (codes "cqf: words: - is named twice: standard input can be read only once")

abbrev pub two_files_line : Text
two_files_line = line_of (codes "cqf: words: diff takes two files: cqf diff OLD NEW")

abbrev pub files_fault : Job → List Text → Option Text
files_fault job files =
    if is_standard_twice files then Some standard_twice_line
    else (if takes_files job (length files) then None else Some two_files_line)
