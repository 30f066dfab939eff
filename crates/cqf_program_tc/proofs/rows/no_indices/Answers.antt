use Rattle.std.proofs.Common.{arith}
use Rattle.cqf_lists.proofs.ByNumber.{list_more, no_lists}
use Rattle.cqf_program_tc.proofs.NotedRows.{below_none, no_index}
use Rattle.cqf_program_tc.proofs.rows.no_indices.Goals as goal

pub loop-bridge-init : goal.loop-bridge-init
loop-bridge-init c = no_lists no_index c.new-lists.result.items c.new-lists.ensures.items

pub loop-bridge-preserved : goal.loop-bridge-preserved
loop-bridge-preserved c =
    list_more no_index c.loop-bridge._bridge c.loop-bridge.lists.items c.push.new.self.items c.new.result c.loop-bridge.invariant c.new.ensures.items
    c.in_ok-push.ensures.items

pub returns : goal.returns
returns c rows =
    below_none c.args.domain.now rows c.loop-bridge.lists.items c.loop-bridge._bridge
    (omega (arith, c.loop-bridge-test.false, c.loop-bridge.auto._bridge-end, c.bridges-bridge-end.ensures)) c.loop-bridge.invariant
