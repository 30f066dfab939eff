-- What `load` reads, in the form of the definitions.
use Rattle.std.specs.Prelude.{map}
use Rattle.cqf_admission.specs.Asking.{asked_paced}
use Rattle.cqf_program_plans.specs.declared.load.command.LoadInput.{LoadInput}
use Rattle.cqf_program_plans.specs.Load.Output.{LoadedInput}

abbrev pub load_input_value : LoadInput → LoadedInput
load_input_value found = record { domain = found.domain; access = found.access.items; handed = found.handed.items; streams = map asked_paced found.requests.items }
