use Rattle.std.proofs.Common.{◌-◌, ◌+◌, ◌++◌, ◌≡◌, arith, drop, length, rules, subst, take, ℕ}
use Rattle.std.specs.Prelude.{◌&&◌}
use Rattle.std.proofs.lemmas.Bool.{and_cases}
use Rattle.cqf_worker_loops.specs.Handing.{HasClosed, LacksOne}
use Rattle.cqf_worker_loops.proofs.SealedCycles.{IsSealing, closes_some, none_left, none_stopped, reported_stop, seals_back, seals_closed}
use Rattle.cqf_worker_loops.proofs.sealing.seal_cycles.Goals as goal

-- count more cycles are closed
pub loop-left-preserved : goal.loop-left-preserved
loop-left-preserved g c =
    let closed = c.args.cycles - c.loop-left.left in
    let more = c.min-count.result in
    let now : closed + more ≡ c.args.cycles - (c.loop-left.left - more) = omega (arith, c.loop-left.invariant.1, c.min-count.ensures) in (
      subst (λ (count : ℕ). IsSealing c.args.conductor.now.seat c.args.conductor.now.tables.items count c.seal_next.new.seat
          (take c.loop-left.conductor.tables.len
          (c.seal_next.new.tables ++ drop (length c.seal_next.new.tables) c.loop-left.conductor.tables.items)) (c.loop-left.all && c.in-Ok.given)) now
          (seals_back c.args.conductor.now.seat c.args.conductor.now.tables.items closed more c.loop-left.conductor.seat c.seal_next.new.seat
          c.loop-left.conductor.tables.items c.as_mut_slice-tables.result.now c.seal_next.new.tables c.loop-left.conductor.tables.len c.loop-left.all
          c.in-Ok.given (c.loop-left.all && c.in-Ok.given) c.loop-left.invariant.0 c.loop-left.conductor.tables.ok.0
          c.as_mut_slice-tables.ensures.value c.seal_next.ensures.pipes
          c.seal_next.ensures.some c.in-Ok.ensures.ok (omega (arith, c.tables_at_once.ensures.some, c.loop-left-test.true, c.min-count.ensures))
          (record { had = λ is. (search rules, search rules); lack = and_cases c.loop-left.all c.in-Ok.given })),
      omega (arith, c.loop-left.invariant.1),
    )

-- some aren't, and the workers are notified
pub returns-in-Err-clause-put : goal.returns-in-Err-clause-put
returns-in-Err-clause-put g c =
    reported_stop c.args.conductor.now.seat c.args.conductor.now.tables.items (c.args.cycles - c.loop-left.left) c.min-count.result c.loop-left.conductor.seat
    c.loop-left.conductor.tables.items c.as_mut_slice-tables.result.now c.seal_next.new.tables c.as_mut_slice.result.now c.stop_tables.new.tables
    c.loop-left.conductor.tables.len c.loop-left.all c.loop-left.invariant.0 c.loop-left.conductor.tables.ok.0 c.as_mut_slice-tables.ensures.value
    c.seal_next.ensures.pipes c.seal_next.ensures.some c.as_mut_slice.ensures.value c.stop_tables.ensures.pipes c.stop_tables.ensures.stopped

-- all are closed
pub returns-clause-put : goal.returns-clause-put
returns-clause-put g c =
    none_stopped c.args.conductor.now.seat c.args.conductor.now.tables.items (c.args.cycles - c.loop-left.left) c.loop-left.conductor.seat
    c.loop-left.conductor.tables.items c.loop-left.all c.loop-left.invariant.0

pub returns-clause-closed : goal.returns-clause-closed
returns-clause-closed g c =
    subst (λ (count : ℕ). HasClosed count c.args.conductor.now.seat c.loop-left.conductor.seat)
    (none_left c.args.cycles c.loop-left.left (omega (arith, c.loop-left-test.false)))
    (seals_closed c.args.conductor.now.seat c.args.conductor.now.tables.items (c.args.cycles - c.loop-left.left) c.loop-left.conductor.seat
    c.loop-left.conductor.tables.items c.loop-left.all c.loop-left.invariant.0)

-- if a worker had ended, it lacks tables
pub returns-clause-missed : goal.returns-clause-missed
returns-clause-missed g c is =
    subst (LacksOne c.loop-left.conductor.tables.items) (none_left c.args.cycles c.loop-left.left (omega (arith, c.loop-left-test.false)))
    (c.loop-left.invariant.0.lacks is)

-- some are closed
pub returns-in-Err-clause-err : goal.returns-in-Err-clause-err
returns-in-Err-clause-err g c =
    closes_some c.args.conductor.now.seat c.args.conductor.now.tables.items (c.args.cycles - c.loop-left.left) c.min-count.result c.args.cycles
    c.loop-left.conductor.seat c.seal_next.new.seat c.loop-left.conductor.tables.items c.loop-left.all c.in-Err.fault c.loop-left.invariant.0
    c.in-Err.ensures.err (omega (arith, c.loop-left.invariant.1, c.min-count.ensures))
