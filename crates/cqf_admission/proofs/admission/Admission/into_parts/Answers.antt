-- The state has the rows that the history granted.
use Rattle.std.proofs.Common.{◌≡◌, map, subst}
use Rattle.cqf_model.specs.History.{streams_of}
use Rattle.cqf_admission.specs.Admission.{Administration, recorded_of}
use Rattle.cqf_admission.proofs.admission.Admission.into_parts.Goals as goal

pub returns-clause-rows : goal.returns-clause-rows
returns-clause-rows c =
    subst (λ (a : Administration). c.in_ok-rows.rows.items ≡ streams_of a.domain a.entries) c.self.view_is
    (c.in_ok-rows.ensures c.self.inside.domain (map recorded_of c.self.inside.history.items) c.self.invariant.0)
