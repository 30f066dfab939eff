use Rattle.std.proofs.Common.{◌≡◌, ◌∙◌, map}
use Rattle.std.proofs.lemmas.Result.{IfOk-weaker}
use Rattle.cqf_model.specs.declared.frames.Offer.{Offer}
use Rattle.cqf_program_runs.specs.Deliveries.Deadlines.{Due, deadline_in}
use Rattle.cqf_program_runs.proofs.deliveries.noted.dues_of_scenario.Goals as goal

pub returns : goal.returns
returns c =
    let due : Due = c.in_ok-deadlines.deadlines in
    let given = c.args.planned.now.given in
    let read : due ≡ record { requests = given.requests.items; deadlines = c.args.planned.now.deadlines.items } =
    c.in_ok-deadlines.ensures ∙ (λ i. record { requests = c.as_slice-requests.ensures.value i; deadlines = c.as_slice.ensures.value i }) in
    IfOk-weaker c.dues_of.result _ _
    (λ dues are. are ∙ (λ i. map (λ (offer : Offer). deadline_in (read i) offer.stream) (c.as_slice-2.ensures.value i)))
    c.dues_of.ensures
