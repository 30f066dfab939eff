use Rattle.std.proofs.Common.{◌∙◌, ℕ, ap, subst, sym}
use Rattle.cqf_admission.specs.Asking.{asked_paced}
use Rattle.cqf_admission.specs.Judging.{row_by}
use Rattle.cqf_model.specs.declared.topology.Row.{Row}
use Rattle.cqf_program_plans.specs.Load.Listing.{IsListed}
use Rattle.cqf_program_plans.proofs.load.listing.LoadListing.look_over.Goals as goal

pub returns-in_ok-row-in-Ok : goal.returns-in_ok-row-in-Ok
returns-in_ok-row-in-Ok c =
    subst (λ (row : Row). IsListed c.args.domain.now c.args.self.now (asked_paced c.args.request.now) row)
    (sym (c.in_ok-row-in-Ok.ensures ∙ ap (λ (n : ℕ). row_by c.in-Ok.judged c.args.request.now.octets n (record { 0 = 0 })) c.len.ensures))
    c.in-Ok.ensures
