use Rattle.std.proofs.Common.{◌∙◌, List, ap, map}
use Rattle.cqf_model.specs.History.{Recorded}
use Rattle.cqf_admission.specs.Admission.{Administration, held_of, recorded_of}
use Rattle.cqf_admission.specs.Costs.{most_cost}
use Rattle.cqf_admission.proofs.admission.Admission.held_on.Goals as goal

pub returns-clause-held : goal.returns-clause-held
returns-clause-held c =
    let i = c.self.inside in
    let entries : List Recorded = map recorded_of i.history.items in
    c.taken_of.ensures.held entries c.self.invariant.0
    ∙ ap (λ (a : Administration). most_cost (held_of a) c.args.link) c.self.view_is
