use Rattle.std.proofs.Common.{◌∙◌, ◌-◌, arith, ap, length, reverse}
use Rattle.cqf_trace.proofs.Gathered.{all_gathered, next_gathered, none_gathered, none_missing}
use Rattle.cqf_trace.proofs.gathering.gather.Goals as goal

-- at first the bridges have all traces
pub loop-following-init : goal.loop-following-init
loop-following-init c =
    none_gathered c.args.domain.now c.args.bridge_traces.items c.in_ok-left.left.items (length c.args.domain.now.links - 0) (reverse c.new-links.result.items)
    c.requires (omega arith) (ap reverse c.new-links.ensures.items) c.in_ok-left.ensures.many_traces c.in_ok-left.ensures.traces

-- the bridge of the greatest link left is one of the domain's
pub take_last-requires : goal.take_last-requires
take_last-requires c =
    omega (
      arith,
      ap length c.as_mut_slice.ensures.value,
      c.loop-following.invariant.many,
      (c.know.ensures.accepted.links_good (c.links-count.result - 1 - c.loop-following.following) c.link-bridge.result c.link-bridge.ensures).from_bridge,
    )

-- and has a trace
pub unreachable-requires : goal.unreachable-requires
unreachable-requires c =
    none_missing c.args.domain.now c.args.bridge_traces.items c.loop-following.left.items c.as_mut_slice.result.now c.links-count.result c.loop-following.following
    c.link-bridge.result (reverse c.loop-following.links.items) c.know.ensures.accepted c.links-count.ensures c.loop-following-test.true c.link-bridge.ensures
    c.as_mut_slice.ensures.value c.in-None.ensures.none c.loop-following.invariant

-- which is the next
pub loop-following-preserved : goal.loop-following-preserved
loop-following-preserved c =
    next_gathered c.args.domain.now c.args.bridge_traces.items c.loop-following.left.items c.as_mut_slice.result.now c.take_last.new.traces c.links-count.result
    c.loop-following.following c.loop-following.left.len c.link-bridge.result c.in-Some.trace c.loop-following.links.items c.push.new.self.items c.know.ensures.accepted
    c.links-count.ensures c.loop-following-test.true c.link-bridge.ensures c.as_mut_slice.ensures.value c.loop-following.left.ok.0 c.in-Some.ensures.some
    c.in_ok-push-in-Some.ensures.items c.loop-following.invariant

-- in the end all are gathered
pub returns : goal.returns
returns c =
    all_gathered c.args.domain.now c.args.bridge_traces.items c.loop-following.left.items (length c.args.domain.now.links - c.loop-following.following)
    (reverse c.loop-following.links.items) _ c.loop-following.invariant
    (omega (arith, c.loop-following-test.false, c.links-count.ensures))
    c.reverse.ensures.items (c.in_ok-left.ensures.many_drops ∙ c.requires.many) c.in_ok-left.ensures.drops
