-- The main law: the gates mean the shift.
use Rattle.cqf_model.specs.Network.{Network}
use Rattle.cqf_model.specs.Promise.{MeansTheShift}
use Rattle.cqf_model.specs.Run.{Run}
use Rattle.cqf_laws_shift.specs.Run.{IsLegalRun}

-- for every accepted domain, the tables of a history and any offers, beside any background frames
abbrev pub GatesMeanTheShift : Type 0
GatesMeanTheShift = (run : Run) (net : Network) → IsLegalRun run net → MeansTheShift run net.carried
