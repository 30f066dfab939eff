use Rattle.std.proofs.Common.{sym, ◌∙◌}
use Rattle.cqf_topology.proofs.Alike.{alike_in, one_more_same}
use Rattle.cqf_topology.proofs.same.have_same_bridges.Goals as goal

pub loop-bridge-preserved : goal.loop-bridge-preserved
loop-bridge-preserved c =
    one_more_same c.args.one.now.bridges c.args.other.now.bridges c.loop-bridge.bridge c.bridge_name.result.now
    c.bridge_name-in-loop-bridge.result.now c.loop-bridge.invariant
    c.bridge_name.ensures c.bridge_name-in-loop-bridge.ensures (c.is_same_name.ensures.0 c.if-not-is_same_name.false)

pub returns-then-not-is_same_name : goal.returns-then-not-is_same_name
returns-then-not-is_same_name c = (
  λ none. absurd cc,
  λ same. sym c.if-not-is_same_name.true ∙ c.is_same_name.ensures.1 (alike_in c.args.one.now.bridges c.args.other.now.bridges c.loop-bridge.bridge
      c.bridge_name.result.now c.bridge_name-in-loop-bridge.result.now c.bridge_name.ensures c.bridge_name-in-loop-bridge.ensures same),
)
