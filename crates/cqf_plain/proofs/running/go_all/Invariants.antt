use Rattle.cqf_model.specs.Network.{Network}
use Rattle.cqf_model.specs.Run.{Run}
use Rattle.cqf_plain.specs.SoFar.{IsAt, IsRunOver}
use Rattle.cqf_plain.proofs.running.go_all.Given as goal

-- the run is at the cycle
abbrev pub invariant-loop-index : goal.invariant-loop-index
invariant-loop-index l = (run : Run) (net : Network) → IsRunOver l.domain l.tables run net → IsAt run net 0 l.fn.so_far → IsAt run net l.index l.so_far
