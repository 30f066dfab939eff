use Rattle.std.specs.Prelude.{map}
use Rattle.cqf_bridge.specs.Taking.{received_as}
use Rattle.cqf_plain.proofs.losing.lost_among.Given as goal
use Rattle.cqf_plain.proofs.Policing.{IsPolicing}

-- none of the frames so far is lost
abbrev pub invariant-loop-frame : goal.invariant-loop-frame
invariant-loop-frame l = IsPolicing l.domain l.number l.table.cycle l.table.rows (map received_as l.frames) l.frame-index l.gates
