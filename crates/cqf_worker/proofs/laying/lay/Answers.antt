use Rattle.std.proofs.Common.{length}
use Rattle.cqf_worker.specs.Laying.{traffic_of}
use Rattle.cqf_worker.proofs.Wiring.{all_laid, cycles_kept, wired_laid, workers_laid, workers_may}
use Rattle.cqf_worker.proofs.laying.lay.Goals as goal

-- the workers are those of the traffic
pub returns-clause-workers : goal.returns-clause-workers
returns-clause-workers c =
    let t = traffic_of c.args.domain.now c.args.offers.now in
    let all = all_laid t c.in_ok-laid.laid.workers.items c.lay_links.new.workers.items c.in_ok-laid.ensures.workers c.in_ok-lay_links.ensures.laid in
    workers_laid t all.0 c.lay_links.new.workers.items c.requires.offers all.1

-- so they may work
pub returns-clause-may_work : goal.returns-clause-may_work
returns-clause-may_work c =
    let t = traffic_of c.args.domain.now c.args.offers.now in
    let all = all_laid t c.in_ok-laid.laid.workers.items c.lay_links.new.workers.items c.in_ok-laid.ensures.workers c.in_ok-lay_links.ensures.laid in
    workers_may t c.args.cycles c.lay_links.new.workers.items (workers_laid t all.0 c.lay_links.new.workers.items c.requires.offers all.1)
    (cycles_kept c.args.cycles c.in_ok-laid.laid.workers.items c.lay_links.new.workers.items c.in_ok-lay_links.ensures.cycles c.in_ok-laid.ensures.cycles)

-- and their ports are of the pipes on their links
pub returns-clause-wired : goal.returns-clause-wired
returns-clause-wired c =
    let t = traffic_of c.args.domain.now c.args.offers.now in
    let all = all_laid t c.in_ok-laid.laid.workers.items c.lay_links.new.workers.items c.in_ok-laid.ensures.workers c.in_ok-lay_links.ensures.laid in
    (all.0, wired_laid t all.0 (length c.args.domain.now.links) (length c.args.domain.now.links) c.lay_links.new.workers.items all.1)
