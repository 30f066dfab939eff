use Rattle.std.proofs.Common.{◌∙◌, List, ap, map}
use Rattle.cqf_model.specs.History.{Recorded}
use Rattle.cqf_admission.specs.Admission.{Administration, held_of, recorded_of}
use Rattle.cqf_admission.specs.Costs.{left_in_active_cycles}
use Rattle.cqf_admission.proofs.admission.Admission.left_at.Goals as goal

pub returns : goal.returns
returns c =
    let i = c.self.inside in
    let entries : List Recorded = map recorded_of i.history.items in
    c.left_at.ensures entries c.self.invariant.0
    ∙ ap (λ (a : Administration). left_in_active_cycles a.domain (held_of a) c.args.pace c.args.hop.now) c.self.view_is
