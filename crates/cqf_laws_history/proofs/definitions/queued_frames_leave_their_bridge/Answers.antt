use Rattle.std.proofs.Common.{◌∙◌, sym}
use Rattle.std.specs.Prelude.{[]}
use Rattle.cqf_model.specs.Policing.{received_before}
use Rattle.cqf_laws_history.proofs.Verdicts.{judged, queued_leaves}
use Rattle.cqf_laws_history.proofs.definitions.queued_frames_leave_their_bridge.Goals as goal

pub returns : goal.returns
returns c run carried bridge end p row came queued =
    let w = judged run.domain run.tables bridge (received_before run carried bridge end) [] p came in
    queued_leaves run.domain run.tables bridge c.verdicts_have_their_reason.ensures.edge c.verdicts_have_their_reason.ensures.inside w.0 p.received
    p.received.ingress row (sym w.1 ∙ queued)
