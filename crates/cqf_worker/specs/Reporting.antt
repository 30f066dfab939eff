-- Which fault a run on threads may report.
use Rattle.std.specs.Prelude.{ℕ, ◌<◌, ◌⊎◌, Contains, length}
use Rattle.cqf_worker.specs.declared.faults.ConductFault.{ConductFault}
use Rattle.cqf_worker.specs.declared.faults.ConductFault.TheVariants as conduct
use Rattle.cqf_worker.specs.declared.threads.Administrator.{Administrator}
use Rattle.cqf_worker.specs.declared.threads.ReadyRun.{ReadyRun}

-- why a run doesn't begin: an allocation fails, or not all of its threads can be started
abbrev pub IsStartFault : ConductFault → Type 0
IsStartFault conduct.Memory = Unit {0}
IsStartFault conduct.DeskDisagrees = ⊥
IsStartFault conduct.ChannelLost = ⊥
IsStartFault conduct.Spawn = Unit {0}

-- one of the run's administrators has commands
pub record OneCalls (r : ReadyRun) : Type 0 where
  pub administrator : Administrator
  pub there : Contains r.administrators.items administrator
  pub some : 0 < length administrator.commands.items

-- which fault a run may report. Memory and Spawn are always possible. DeskDisagrees is possible if there are cycles to close or an
-- administrator has commands. ChannelLost is possible if there are cycles to go through
abbrev pub MayBeReported : ℕ → ReadyRun → ConductFault → Type 0
MayBeReported cycles r conduct.Memory = Unit {0}
MayBeReported cycles r conduct.DeskDisagrees = (0 < cycles) ⊎ OneCalls r
MayBeReported cycles r conduct.ChannelLost = 0 < cycles
MayBeReported cycles r conduct.Spawn = Unit {0}
