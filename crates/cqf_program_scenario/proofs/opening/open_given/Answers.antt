use Rattle.std.proofs.Common.{◌≡◌, ◌∙◌, [], List, map, ap, subst, sym}
use Rattle.cqf_admission.specs.Asking.{asked_paced}
use Rattle.cqf_admission.specs.Orders.{ordered_in}
use Rattle.cqf_admission.specs.Script.{Called, called_of}
use Rattle.cqf_program_scenario.specs.Calls.{HasRoom}
use Rattle.cqf_program_scenario.specs.Closing.{scenario_given}
use Rattle.cqf_program_scenario.specs.Parting.{opening_calls}
use Rattle.cqf_program_scenario.proofs.Commands.{HasRoom-opening}
use Rattle.cqf_program_scenario.proofs.opening.open_given.Goals as goal

pub open-requires : goal.open-requires
open-requires c =
    let s = scenario_given c.args.given in
    let calls : map called_of c.in_ok-calls.calls.items ≡ s.calls =
    c.in_ok-calls.ensures
    ∙ (λ i. map (ordered_in (map asked_paced (c.as_slice-requests.ensures.value i)) (c.as_slice-script.ensures.value i)) (c.as_slice-orders.ensures.value i)) in
    subst (λ (found : List Called). HasRoom 0 [] found)
    (sym (ap (map called_of) c.as_slice.ensures.value ∙ c.in_ok-opening.ensures.opening ∙ ap opening_calls calls))
    (HasRoom-opening c.args.cycles s.calls c.requires.may.room)
