use Rattle.std.proofs.Common.{◌≡◌, ◌+◌, arith}
use Rattle.cqf_model.specs.History.{held_in, seals}
use Rattle.cqf_program_placing.specs.ActiveCycles.{hop_at, share_at}
use Rattle.cqf_program_placing.proofs.Loads.{loads_more}
use Rattle.cqf_program_placing.proofs.phases.loads_at.Goals as goal

-- one more hop
pub loop-hop-preserved : goal.loop-hop-preserved
loop-hop-preserved c =
    let d = c.args.domain.now in
    let entries = c.args.admission.now.entries in
    record {
      loads = loads_more (share_at d (held_in d entries (seals entries)) c.args.cost c.args.pace) c.args.tree.now c.loop-hop.hop-index (hop_at 0)
          c.loop-hop.loads.items c.put_down.new.loads.items c.share_at.result c.loop-hop-test.true c.loop-hop.invariant.loads c.share_at.ensures
          c.put_down.ensures.items;
      many = omega (arith, c.put_down.ensures.len, c.loop-hop.invariant.many);
    }
