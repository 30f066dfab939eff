use Rattle.std.proofs.Common.{◌∙◌, List, ap, map}
use Rattle.std.proofs.lemmas.Result.{IfOk-weaker}
use Rattle.cqf_model.specs.History.{seals, streams_of}
use Rattle.cqf_admission.specs.Holdings.{Standing}
use Rattle.cqf_admission.specs.State.{Figures}
use Rattle.cqf_admission.proofs.Streams.{all_are_theirs}
use Rattle.cqf_admission.proofs.state.State.into_rows.Goals as goal

pub returns : goal.returns
returns c =
    IfOk-weaker c.into_rows.result _ _ (λ rows is d entries r.
    is
    ∙ ap (λ (f : Figures). map (λ (stand : Standing). stand.row) f.stands) c.self.view_is
    ∙ ap (λ (stands : List Standing). map (λ (stand : Standing). stand.row) stands) r.0.are_streams
    ∙ all_are_theirs (streams_of d entries) (seals entries)) c.into_rows.ensures
