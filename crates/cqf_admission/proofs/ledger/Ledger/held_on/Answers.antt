use Rattle.std.proofs.Common.{◌∙◌, List, ap, map}
use Rattle.cqf_model.specs.History.{Recorded}
use Rattle.cqf_admission.specs.Admission.{held_of}
use Rattle.cqf_admission.specs.Costs.{most_cost}
use Rattle.cqf_admission.specs.Asking.{asked_paced}
use Rattle.cqf_admission.specs.Ledger.{Kept, recorded_in}
use Rattle.cqf_admission.proofs.ledger.Ledger.held_on.Goals as goal

pub returns-clause-held : goal.returns-clause-held
returns-clause-held c =
    let i = c.self.inside in
    let entries : List Recorded = map (recorded_in (map asked_paced i.requests.now) i.script.now) i.log.items in
    c.taken_of.ensures.held entries c.self.invariant.0
    ∙ ap (λ (k : Kept). most_cost (held_of k.administration) c.args.link) c.self.view_is
