use Rattle.std.proofs.Common.{◌∷◌, [], ap, arith, length, length-append, subst, sym}
use Rattle.std.specs.Prelude.{All}
use Rattle.cqf_model.specs.Domain.{Domain}
use Rattle.std.proofs.lemmas.List.Elements.{All-push}
use Rattle.cqf_worker.specs.Laying.{AreBare, HasCycles, IsBare, traffic_of}
use Rattle.cqf_worker.proofs.Wiring.{bare_more, nothing_more, pipes_more}
use Rattle.cqf_worker.proofs.laying.ready_workers.Goals as goal

-- the bridge is one of the domain
pub ready_worker-requires-clause-bridge : goal.ready_worker-requires-clause-bridge
ready_worker-requires-clause-bridge c =
    omega (arith, c.loop-number-test.true, c.bridges-number-end.ensures, ap (λ (d : Domain). length d.bridges) c.in_ok-shared.ensures)

-- one worker more, and its end
pub loop-number-preserved : goal.loop-number-preserved
loop-number-preserved c =
    let t = traffic_of c.args.domain.now c.args.offers.now in
    let workers = c.loop-number.workers.items in
    let worker = c.in_ok-worker.worker in
    record {
      within = omega (arith, c.loop-number-test.true, c.bridges-number-end.ensures);
      count = omega (arith, ap length c.in_ok-push.ensures.items, length-append workers (worker ∷ []), c.loop-number.invariant.count);
      bare = subst (AreBare t) (sym c.in_ok-push.ensures.items)
          (bare_more t workers worker c.loop-number.number (sym c.loop-number.invariant.count) c.loop-number.invariant.bare
          (subst (λ (d : Domain). IsBare (traffic_of d c.args.offers.now) c.loop-number.number worker) c.in_ok-shared.ensures c.in_ok-worker.ensures.worker));
      cycles = subst (All (HasCycles c.args.cycles)) (sym c.in_ok-push.ensures.items)
          (All-push (HasCycles c.args.cycles) workers worker c.loop-number.invariant.cycles c.in_ok-worker.ensures.cycles);
      pipes = pipes_more c.loop-number.tables.items c.push-in-loop-number.new.self.items workers c.push.new.self.items c.in_ok-worker.putting worker
          c.in_ok-push-2.ensures.items c.in_ok-push.ensures.items c.in_ok-worker.ensures.pipe c.loop-number.invariant.pipes;
      nothing_put = nothing_more c.loop-number.tables.items c.push-in-loop-number.new.self.items c.in_ok-worker.putting c.in_ok-push-2.ensures.items
          c.in_ok-worker.ensures.nothing_put c.loop-number.invariant.nothing_put;
    }

-- as many as there are bridges
pub returns-clause-count : goal.returns-clause-count
returns-clause-count c =
    omega (
      arith,
      c.loop-number.invariant.count,
      c.loop-number.invariant.within,
      c.loop-number-test.false,
      c.bridges-number-end.ensures,
    )
