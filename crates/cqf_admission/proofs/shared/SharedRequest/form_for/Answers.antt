-- What was found for an equal domain was found for this one.
use Rattle.std.proofs.Common.{◌≡◌, ◌∙◌, subst, subst₂, sym}
use Rattle.std.specs.Arc.{arc_value}
use Rattle.cqf_model.specs.Domain.{Domain}
use Rattle.cqf_topology.specs.declared.paced.PacedRequest.{PacedRequest}
use Rattle.cqf_admission.specs.Asking.{asked_paced}
use Rattle.cqf_admission.specs.Forms.{IsFormOf}
use Rattle.cqf_admission.specs.Shared.{IsFound, IsFoundOf}
use Rattle.cqf_admission.proofs.shared.SharedRequest.form_for.Goals as goal

pub returns : goal.returns
returns c =
    let found = c.in-Some.found in
    let is : IsFound c.self.inside.request found = subst (IsFoundOf c.self.inside.request) c.in-Some.is c.self.invariant in
    let same : arc_value found.domain ≡ c.args.domain.now = sym c.deref.ensures ∙ c.is_same.ensures.0 c.if-not-is_same.false in
    subst₂ (λ (d : Domain) (request : PacedRequest). IsFormOf d (asked_paced request) found.form) same c.self.view_is is.form
