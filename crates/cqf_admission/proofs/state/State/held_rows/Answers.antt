use Rattle.std.proofs.Common.{◌∙◌, List, ap, filter, map}
use Rattle.std.proofs.lemmas.Result.{IfOk-weaker}
use Rattle.cqf_model.specs.History.{seals, streams_of}
use Rattle.cqf_admission.specs.Holdings.{Standing}
use Rattle.cqf_admission.specs.State.{Figures}
use Rattle.cqf_admission.proofs.Streams.{held_are_theirs}
use Rattle.cqf_admission.proofs.state.State.held_rows.Goals as goal

pub returns : goal.returns
returns c =
    IfOk-weaker c.held_rows.result _ _ (λ rows is d entries r.
    is
    ∙ ap (λ (f : Figures). map (λ (stand : Standing). stand.row) (filter (λ (stand : Standing). stand.held) f.stands)) c.self.view_is
    ∙ ap (λ (stands : List Standing). map (λ (stand : Standing). stand.row) (filter (λ (stand : Standing). stand.held) stands)) r.0.are_streams
    ∙ held_are_theirs (streams_of d entries) (seals entries)) c.held_rows.ensures
