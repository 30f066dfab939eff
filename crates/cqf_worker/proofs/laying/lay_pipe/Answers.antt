use Rattle.std.proofs.Common.{ap, refl}
use Rattle.cqf_worker_loops.specs.Workers.{SegmentPort}
use Rattle.cqf_worker.specs.Laying.{cycles_at}
use Rattle.cqf_worker.specs.Wires.{tables_pipe}
use Rattle.cqf_worker.proofs.Wiring.{pipe_keeps, pipe_laid_at}
use Rattle.cqf_worker.proofs.laying.lay_pipe.Goals as goal

-- one worker has the putting end, the other one the taking end
pub returns-clause-laid : goal.returns-clause-laid
returns-clause-laid c =
    let out : SegmentPort = record { link = c.args.link; pipe = c.in_ok-putting.putting } in
    let into : SegmentPort = record { link = c.args.link; pipe = c.in_ok-putting.taking } in
    pipe_laid_at c.args.workers.now.items c.args.link c.args.from c.args.to c.from-3.result c.from-4.result c.index_mut.result.now c.add_out.new.worker
    c.index_mut-2.result.now c.add_in.new.worker out into c.from-3.ensures c.from-4.ensures c.requires.from c.requires.to c.index_mut.ensures.value
    c.in_ok-add_out.ensures c.index_mut-2.ensures.value c.in_ok-add_in.ensures refl refl c.in_ok-putting.ensures.nothing_put
    c.in_ok-putting.ensures.nothing_taken c.in_ok-putting.ensures.pair

-- and both keep their pipes for tables
pub returns-clause-tables : goal.returns-clause-tables
returns-clause-tables c =
    pipe_keeps tables_pipe c.args.workers.now.items c.from-3.result c.from-4.result c.index_mut.result.now c.add_out.new.worker c.index_mut-2.result.now
    c.add_in.new.worker c.index_mut.ensures.value (ap tables_pipe c.in_ok-add_out.ensures.same) c.index_mut-2.ensures.value (ap tables_pipe c.in_ok-add_in.ensures.same)

-- and their numbers of cycles
pub returns-clause-cycles : goal.returns-clause-cycles
returns-clause-cycles c =
    pipe_keeps cycles_at c.args.workers.now.items c.from-3.result c.from-4.result c.index_mut.result.now c.add_out.new.worker c.index_mut-2.result.now
    c.add_in.new.worker c.index_mut.ensures.value (ap cycles_at c.in_ok-add_out.ensures.same) c.index_mut-2.ensures.value (ap cycles_at c.in_ok-add_in.ensures.same)
