use Rattle.std.proofs.Common.{◌≡◌, ◌∙◌, [], map, subst, sym}
use Rattle.cqf_admission.specs.Asking.{asked_paced}
use Rattle.cqf_program_runs.specs.Deliveries.Deadlines.{Due, deadline_in}
use Rattle.cqf_program_runs.specs.Deliveries.Ending.{Over, over_by}
use Rattle.cqf_program_runs.specs.Deliveries.Following.{IsFollowed}
use Rattle.cqf_program_summary.specs.Summary.Counting.{SummaryWithin}
use Rattle.cqf_program_summary.specs.Summary.Gathering.{IsSummaryOver}
use Rattle.cqf_program_summary.specs.Summary.{summary_by}
use Rattle.cqf_program_summary.specs.Summary.Written.{written_streams}
use Rattle.cqf_program_summary.proofs.Written.{IsSummaryOf-noted}
use Rattle.cqf_program_summary.proofs.Within.{none_within}
use Rattle.cqf_program_summary.proofs.summary.gathering.sums_of_scenario.Goals as goal

pub gathered-requires-clause-followed : goal.gathered-requires-clause-followed
gathered-requires-clause-followed c =
    let noted = c.in_ok-noted.ensures in
    record {
      whole = noted.whole;
      is = subst (λ (over : Over). IsFollowed over 0 c.in_ok-noted.under_way) (sym (c.over.ensures noted.whole)) noted.followed;
    }

pub gathered-requires-clause-fresh : goal.gathered-requires-clause-fresh
gathered-requires-clause-fresh c =
    let due : Due = record { requests = c.as_slice-requests.result.now; deadlines = c.as_slice.result.now } in
    subst (SummaryWithin 0) (sym c.in_ok-sums.ensures)
    (none_within c.args.planned.now.given.domain (written_streams (map asked_paced c.as_slice-requests.result.now)) (deadline_in due))

pub returns : goal.returns
returns c =
    let planned = c.args.planned.now in
    let d = planned.given.domain in
    let requests = planned.given.requests.items in
    let due : Due = record { requests = requests; deadlines = planned.deadlines.items } in
    let first : c.in_ok-sums.sums ≡ summary_by d (written_streams (map asked_paced requests)) (deadline_in due) [] [] =
    c.in_ok-sums.ensures
    ∙ (λ i. summary_by d (written_streams (map asked_paced (c.as_slice-requests.ensures.value i)))
    (deadline_in (record { requests = c.as_slice-requests.ensures.value i; deadlines = c.as_slice.ensures.value i })) [] []) in
    let noted = c.in_ok-noted.ensures in
    let same = c.over.ensures noted.whole in
    let followed = subst (λ (o : Over). IsFollowed o 0 c.in_ok-noted.under_way) (sym same) noted.followed in
    let over : IsSummaryOver (over_by planned c.args.cycles c.in_ok-noted.noted noted.whole) c.in_ok-sums.sums c.gathered.result =
    subst (λ (o : Over). IsSummaryOver o c.in_ok-sums.sums c.gathered.result) same (c.gathered.ensures noted.whole followed) in
    IsSummaryOf-noted c.args.cycles planned c.in_ok-noted.noted c.in_ok-noted.under_way c.gathered.result noted
    (over (map asked_paced requests) (deadline_in due) first)
