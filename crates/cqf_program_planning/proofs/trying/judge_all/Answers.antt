use Rattle.std.proofs.Common.{get_or, map}
use Rattle.std.proofs.lemmas.List.{get_or_default}
use Rattle.cqf_program_placing.specs.Settled.{settled_value}
use Rattle.cqf_program_planning.proofs.ChoiceLemmas.{judged_step}
use Rattle.cqf_program_planning.proofs.trying.judge_all.Goals as goal

-- one more is judged
pub loop-cycle_time-preserved : goal.loop-cycle_time-preserved
loop-cycle_time-preserved c =
    let cycles = c.candidates-cycle_time-items.result.now in
    let k = c.loop-cycle_time.cycle_time-index in
    let low = c.loop-cycle_time-test.true in
    judged_step c.args.network.now (map settled_value c.args.streams.now) c.args.tries cycles k (get_or cycles k 0) low (get_or_default cycles k 0 (get_or cycles k 0) low)
    c.loop-cycle_time.reported.items c.push.new.self.items c.in_ok-candidate.candidate c.loop-cycle_time.invariant c.in_ok-candidate.ensures
    c.in_ok-push.ensures.items
