use Rattle.std.proofs.Common.{◌∙◌, ap, subst}
use Rattle.cqf_topology.specs.declared.paced.PacedRequest.{PacedRequest}
use Rattle.cqf_admission.specs.Branches.{branches_of}
use Rattle.cqf_admission.specs.Shared.{IsFound, IsFoundOf}
use Rattle.cqf_admission.specs.Spelled.{spelled}
use Rattle.cqf_admission.proofs.shared.SharedRequest.text.Goals as goal

pub returns : goal.returns
returns c =
    let is : IsFound c.self.inside.request c.in-Some.found = subst (IsFoundOf c.self.inside.request) c.in-Some.is c.self.invariant in
    c.as_slice.ensures.value ∙ is.text ∙ ap (λ (request : PacedRequest). spelled (branches_of request.paths.items)) c.self.view_is
