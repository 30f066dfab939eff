-- They are the calls that were read.
use Rattle.std.proofs.Common.{◌∙◌, List, Ok, ap, map, subst, sym}
use Rattle.cqf_topology.specs.declared.paced.PacedRequest.{PacedRequest}
use Rattle.cqf_admission.specs.Asking.{asked_paced}
use Rattle.cqf_model.specs.History.{Asked}
use Rattle.cqf_admission.specs.Script.{AreFew, Called, script_of}
use Rattle.cqf_admission.proofs.calls.read_script.Goals as goal

pub returns-clause-calls : goal.returns-clause-calls
returns-clause-calls c =
    sym (ap (λ (requests : List PacedRequest). script_of (map asked_paced requests) c.args.cycles c.args.text.now) c.as_slice.ensures.value
    ∙ ap (λ (asked : List Asked). script_of asked c.args.cycles c.args.text.now) c.in_ok-requests.ensures)
    ∙ c.in_ok-calls.ensures.calls
    ∙ ap Ok (sym c.in_ok-plain_calls.ensures)

pub returns-clause-few : goal.returns-clause-few
returns-clause-few c =
    subst (λ (calls : List Called). AreFew c.args.cycles calls) (sym c.in_ok-plain_calls.ensures) c.in_ok-calls.ensures.few
