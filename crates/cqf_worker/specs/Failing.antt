-- Which fault a run on threads may report, and for what cause.
use Rattle.std.specs.Prelude.{ℕ, ◌≡◌, ◌+◌, ◌<◌, ◌⊎◌, List, Contains, length}
use Rattle.cqf_model.specs.declared.frames.Background.{Background}
use Rattle.cqf_model.specs.declared.frames.Offer.{Offer}
use Rattle.cqf_model.specs.Domain.{Domain}
use Rattle.cqf_model.specs.History.{Recorded}
use Rattle.cqf_admission.specs.declared.entries.Command.{Command}
use Rattle.cqf_desk.specs.declared.faults.CloseFault.{CloseFault}
use Rattle.cqf_desk.specs.declared.faults.CloseFault.TheVariants as desk
use Rattle.cqf_desk.specs.Closing.{IsCloseFault}
use Rattle.cqf_desk.specs.Desk.{Counter, Sitting}
use Rattle.cqf_laws_account.specs.Seated.{AreSeated}
use Rattle.cqf_worker.specs.Account.{all_asked}
use Rattle.cqf_worker.specs.declared.faults.ConductFault.{ConductFault}
use Rattle.cqf_worker.specs.declared.faults.ConductFault.TheVariants as conduct

-- one of the administrators has commands
abbrev pub SomeCall : List (List Command) → Type 0
SomeCall admins = (commands : List Command) × Contains admins commands × (0 < length commands)

-- the desk of a run before it begins, with one seat more than there are administrators
abbrev pub desk_of_run : Domain → List Recorded → ℕ → Counter
desk_of_run d opening admins = record { opening = record { domain = d; entries = opening }; seats = admins + 1 }

-- all calls were made and all cycles closed, but the desk can't be closed with the seats of the run, for a cause other than memory
pub record KeepsDeskOpen (d : Domain) (opening : List Recorded) (cycles : ℕ) (admins : List (List Command)) : Type 0 where
  pub seats : List Sitting
  pub seated : AreSeated (all_asked admins) cycles seats
  pub why : CloseFault
  pub other : ¬ (why ≡ desk.Memory)
  pub fault : IsCloseFault (desk_of_run d opening (length admins)) seats why

-- which fault a run may report. Memory and Spawn are possible in every run. DeskDisagrees is possible if there are cycles to close, if an
-- administrator has commands, or if the desk can't be closed. ChannelLost is possible only if there are cycles to go through: it never
-- arises from closing the pipes
abbrev pub IsConductFault : Domain → List Recorded → List Offer → List Background → ℕ → List (List Command) → ConductFault → Type 0
IsConductFault d opening offers background cycles admins conduct.Memory = Unit {0}
IsConductFault d opening offers background cycles admins conduct.DeskDisagrees =
    (0 < cycles) ⊎ (SomeCall admins ⊎ KeepsDeskOpen d opening cycles admins)
IsConductFault d opening offers background cycles admins conduct.ChannelLost = 0 < cycles
IsConductFault d opening offers background cycles admins conduct.Spawn = Unit {0}
