-- Commands that were read, in the form of the definitions.
use Rattle.std.specs.Prelude.{List, map}
use Rattle.std.specs.Global.{Global}
use Rattle.std.specs.declared.vec.Vec.{Vec}
use Rattle.cqf_model.specs.History.{Act}
use Rattle.cqf_admission.specs.declared.entries.Command.{Command}
use Rattle.cqf_admission.specs.Commands.{act_of_command}

-- the acts of one administrator's commands, and of each administrator's
abbrev pub acts_parted : Vec Command Global → List Act
acts_parted commands = map act_of_command commands.items

abbrev pub acts_of_each : List (Vec Command Global) → List (List Act)
acts_of_each lists = map acts_parted lists
