use Rattle.std.proofs.Common.{◌∙◌, List, ap, map}
use Rattle.std.proofs.lemmas.List.{take_all}
use Rattle.cqf_topology.specs.declared.paced.PacedRequest.{PacedRequest}
use Rattle.cqf_admission.specs.Asking.{asked_paced}
use Rattle.cqf_program_placing.specs.Placing.{Placed}
use Rattle.cqf_program_planning.proofs.Searches.{placed_push}
use Rattle.cqf_program_planning.proofs.searching.all_placed.Goals as goal

pub loop-request-preserved : goal.loop-request-preserved
loop-request-preserved c =
    placed_push c.args.requests.now c.loop-request.request-index c.request-item.result c.in_ok-copy.copy c.loop-request.outcomes.items c.push.new.self.items
    c.loop-request-test.true c.request-item.is c.in_ok-copy.ensures c.loop-request.invariant c.in_ok-push.ensures.items

pub returns : goal.returns
returns c =
    c.loop-request.invariant
    ∙ ap (λ (xs : List PacedRequest). map Placed (map asked_paced xs)) (take_all c.loop-request.request-index c.args.requests.now c.loop-request-test.false)
