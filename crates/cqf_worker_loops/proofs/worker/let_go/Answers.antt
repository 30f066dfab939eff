use Rattle.cqf_worker_loops.proofs.Stopping.{reported_at_each, wires_back}
use Rattle.cqf_worker_loops.proofs.worker.let_go.Goals as goal

-- a Stop was put at each end, or nothing
pub returns-clause-stopped : goal.returns-clause-stopped
returns-clause-stopped g c =
    let outs = c.args.worker.outs in
    (reported_at_each outs.items c.as_mut_slice.result.now c.stop_each.new.ports outs.len outs.ok.0 c.as_mut_slice.ensures.value c.stop_each.ensures.count
    c.stop_each.ensures.stopped c.requires.batches).0

-- so it is the last item there
pub returns-clause-carried : goal.returns-clause-carried
returns-clause-carried g c =
    let outs = c.args.worker.outs in
    (reported_at_each outs.items c.as_mut_slice.result.now c.stop_each.new.ports outs.len outs.ok.0 c.as_mut_slice.ensures.value c.stop_each.ensures.count
    c.stop_each.ensures.stopped c.requires.batches).1

-- and the wires stay the same
pub returns-clause-outs : goal.returns-clause-outs
returns-clause-outs g c =
    let outs = c.args.worker.outs in
    wires_back outs.items c.as_mut_slice.result.now c.stop_each.new.ports outs.len outs.ok.0 c.as_mut_slice.ensures.value c.stop_each.ensures.count
    c.stop_each.ensures.stopped
