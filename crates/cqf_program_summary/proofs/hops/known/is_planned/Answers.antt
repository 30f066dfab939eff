use Rattle.std.proofs.Common.{◌∙◌, sym}
use Rattle.std.specs.Prelude.{bytes_eq}
use Rattle.cqf_model.specs.History.{Asked}
use Rattle.cqf_admission.specs.Asking.{asked_paced}
use Rattle.cqf_program_summary.proofs.Known.{any_map}
use Rattle.cqf_program_summary.proofs.hops.known.is_planned.Goals as goal

pub returns : goal.returns
returns c = c.has_request.ensures ∙ sym (any_map (λ (asked : Asked). bytes_eq asked.name c.args.name.now) asked_paced c.args.requests.now)
