-- The functions so far are put.
use Rattle.cqf_addressing.specs.Streams.{gate_index}
use Rattle.cqf_lists.specs.Lists.{each_below}
use Rattle.cqf_output.specs.Writer.{Puts}
use Rattle.cqf_program_tc.specs.Bridge.{bridge_text}
use Rattle.cqf_program_tc.proofs.written.put_bridges.Given as goal

abbrev pub invariant-loop-bridge : goal.invariant-loop-bridge
invariant-loop-bridge g l = Puts g.W.Write.contents l.initial.writer l.writer (each_below (bridge_text l.plan.domain.now (gate_index l.plan.addresses.now) l.plan.rows.now) l.bridge)
