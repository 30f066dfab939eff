use Rattle.std.proofs.Common.{subst}
use Rattle.cqf_model.specs.Policing.{whole_at}
use Rattle.cqf_laws_timing.specs.Latency.{IsTimely, least_of, most_of}
use Rattle.cqf_laws_timing.specs.Verdicts.{IsAsSaid, sure_of}
use Rattle.cqf_program_plans.proofs.GrantedPlans.{plan_paced, table_costs_most}
use Rattle.cqf_program_plans.proofs.latency.laws.written_latencies_hold_loosely.Goals as goal

pub returns : goal.returns
returns c d streams plan entries offers background cycles net heard admitted only loose link sent h of shift =
    let costs = c.lists_bound_costs.ensures.admitted in
    let laws = c.loose_history_is_timely.ensures in
    let at = shift.x.offer.at.0 in
    let whole = whole_at d link h in
    let paced = plan_paced d streams plan admitted in
    let time = laws.timely d entries offers background cycles streams net heard loose only paced link sent h of shift in
    let says = laws.verdicts d entries offers background cycles streams net heard loose only paced link sent h of shift in
    record {
      timely = subst (λ n. IsTimely d link shift.hop_number n at whole) (table_costs_most d streams plan shift.row link costs admitted time.0) time.1;
      verdict = λ deadline. subst (λ n. IsAsSaid at whole deadline (sure_of (least_of d link shift.hop_number) (most_of d link shift.hop_number n) deadline))
          (table_costs_most d streams plan shift.row link costs admitted says.0) (says.1 deadline);
    }
