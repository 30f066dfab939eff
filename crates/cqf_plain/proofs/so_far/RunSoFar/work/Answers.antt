use Rattle.std.proofs.Common.{List, refl, subst, sym}
use Rattle.cqf_plain.specs.declared.driven.RunBridge.{RunBridge}
use Rattle.cqf_plain.specs.SoFar.{SoFarState, IsHalfway}
use Rattle.cqf_plain.specs.Due.{AreNextStarts, ports_of}
use Rattle.cqf_plain.proofs.Going.{next_at, stops_so}
use Rattle.cqf_plain.proofs.so_far.RunSoFar.work.Goals as goal

-- it goes on
pub returns-clause-goes : goal.returns-clause-goes
returns-clause-goes c = λ run net may.
    let half = subst (λ (m : SoFarState). IsHalfway run net c.args.table.now.cycle c.args.self.now m) (sym c.self.view_is) (c.in_ok-send.ensures run net may) in
    let due = subst (λ (xs : List RunBridge). AreNextStarts c.in_ok-due.due.entries (ports_of xs)) c.as_slice.ensures.value c.in_ok-due.ensures in
    next_at run net c.args.table.now.cycle may.of_run c.run_is_its_cycles.ensures.losses c.args.self.now _ _ may.at half.lists
    (c.in-Ok.ensures.before run net may.of_run may.table_is half.stand) due refl refl
    (c.in-Ok.ensures.dropped run net may.of_run may.table_is half.stand)
    (c.in-Ok.ensures.none_lost run net may.of_run may.table_is half.stand)

-- or not
pub returns-in-Err-clause-stops : goal.returns-in-Err-clause-stops
returns-in-Err-clause-stops c = λ run net may.
    let half = subst (λ (m : SoFarState). IsHalfway run net c.args.table.now.cycle c.args.self.now m) (sym c.self.view_is) (c.in_ok-send.ensures run net may) in
    stops_so run net c.args.table.now.cycle may.of_run c.run_is_its_cycles.ensures.losses c.args.self.now c.in-Err.fault may.at
    (c.in-Err.ensures.stops run net may.of_run may.table_is half.stand)
