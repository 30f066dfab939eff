-- What is used of the laws of one cycle; each is obtained by a call of its function.
use Rattle.cqf_laws_cycle.specs.Beside.{StreamsAreSentAsAlone}
use Rattle.cqf_laws_cycle.specs.Compiled.{GateCountsCycles, GateGivesClass}
use Rattle.cqf_laws_cycle.specs.OnePort.{PortIsOneCycleLate}

-- a port is one cycle late; beside background frames it sends the streams' frames that it sends if they are alone; and a gate gives
-- classes and counts octets by the cycle
pub record CycleLaws : Type 0 where
  pub late : PortIsOneCycleLate
  pub alone : StreamsAreSentAsAlone
  pub gives : GateGivesClass
  pub counts : GateCountsCycles

-- the four laws in one record
pub cycle_laws : PortIsOneCycleLate → StreamsAreSentAsAlone → GateGivesClass → GateCountsCycles → CycleLaws
cycle_laws late alone gives counts = record { late = late; alone = alone; gives = gives; counts = counts }
