-- What administrators call for, other than Seals.
use Rattle.std.specs.Arc.{arc_value}
use Rattle.std.specs.Prelude.{string_bytes}
use Rattle.cqf_model.specs.History.{Act, Admits, Withdraws}
use Rattle.cqf_admission.specs.declared.entries.Command.{Command}
use Rattle.cqf_admission.specs.declared.entries.Command.TheVariants.{Admit, AdmitPaced, Withdraw}
use Rattle.cqf_admission.specs.Asking.{asked_of, asked_paced}

-- a command as the definitions have it
abbrev pub act_of_command : Command → Act
act_of_command (Admit request) = Admits (asked_of request)
act_of_command (AdmitPaced request) = Admits (asked_paced (arc_value request))
act_of_command (Withdraw name) = Withdraws (string_bytes name)
