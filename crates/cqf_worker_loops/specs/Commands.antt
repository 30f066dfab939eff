-- What administrators request in a run.
use Rattle.std.specs.Prelude.{ℕ, ◌≡◌, ◌<◌, List, length, map, take}
use Rattle.cqf_model.specs.declared.history.Refused.{Refused}
use Rattle.cqf_model.specs.declared.history.Refused.TheVariants as refused
use Rattle.cqf_model.specs.History.{Act}
use Rattle.cqf_model.specs.Calls.{acts_of}
use Rattle.cqf_admission.specs.declared.entries.Command.{Command}
use Rattle.cqf_admission.specs.Commands.{act_of_command}
use Rattle.cqf_desk.specs.Desk.{Sitting}
use Rattle.cqf_worker_loops.specs.declared.calling.CallFault.{CallFault}
use Rattle.cqf_worker_loops.specs.declared.calling.CallFault.TheVariants as call
use Rattle.cqf_worker_loops.specs.declared.calling.Unmade.{Unmade}

-- the acts that an administrator's commands request, in order
abbrev pub acts_asked : List Command → List Act
acts_asked commands = map act_of_command commands

-- a seat with which all of an administrator's commands were made, in order, and no other calls
pub record HasCalled (commands : List Command) (seat done : Sitting) : Type 0 where
  pub number : done.number ≡ seat.number
  pub calls : acts_of done.calls ≡ acts_asked commands

-- the answer to a call that isn't entered, from the fault with which its administrator gives up
abbrev pub answer_of : CallFault → Refused
answer_of call.HistoryFull = refused.HistoryFull
answer_of call.Memory = refused.Memory

-- an administrator that gives up at one of its commands: with its seat the commands before that one were made, in order, and no other calls
pub record HasLeftOff (commands : List Command) (seat : Sitting) (why : Unmade) : Type 0 where
  pub index : ℕ
  pub there : index < length commands
  pub called : HasCalled (take index commands) seat why.seat
