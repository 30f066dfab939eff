-- The request was checked for the shared domain.
use Rattle.std.proofs.Common.{◌∙◌, ap, subst, sym}
use Rattle.cqf_model.specs.Domain.{Domain}
use Rattle.cqf_admission.specs.Asking.{asked_paced}
use Rattle.cqf_admission.specs.Branches.{branches_of}
use Rattle.cqf_admission.specs.Forms.{IsFormOf}
use Rattle.cqf_admission.specs.Spelled.{spelled}
use Rattle.cqf_admission.proofs.shared.SharedRequest.judged.Goals as goal

pub invariant_of-result : goal.invariant_of-result
invariant_of-result c = record {
  form = subst (λ (d : Domain). IsFormOf d (asked_paced c.args.request) c.in_ok-form.form) (c.deref.ensures ∙ sym c.in_ok-domain.ensures)
      c.in_ok-form.ensures.form;
  text = c.in_ok-text.ensures ∙ ap (λ paths. spelled (branches_of paths)) c.as_slice.ensures.value;
}
