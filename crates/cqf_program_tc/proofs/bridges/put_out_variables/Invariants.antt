-- The interfaces so far are put.
use Rattle.std.proofs.Common.{take}
use Rattle.std.specs.List.{flat_map}
use Rattle.cqf_output.specs.Writer.{Puts}
use Rattle.cqf_program_tc.specs.Bridge.{out_variable}
use Rattle.cqf_program_tc.proofs.bridges.put_out_variables.Given as goal

abbrev pub invariant-loop-hop : goal.invariant-loop-hop
invariant-loop-hop g l = Puts g.W.Write.contents l.initial.writer l.writer (flat_map (out_variable l.plan.domain.now l.bridge) (take l.hop-index l.hop-items))
