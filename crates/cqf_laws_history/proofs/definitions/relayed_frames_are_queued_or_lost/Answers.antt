use Rattle.std.proofs.Common.{◌∙◌, sym, ap}
use Rattle.std.specs.Prelude.{[]}
use Rattle.cqf_model.specs.Policing.{received_before}
use Rattle.cqf_laws_history.proofs.Verdicts.{judged, queued_or_lost, verdict_on}
use Rattle.cqf_laws_history.proofs.definitions.relayed_frames_are_queued_or_lost.Goals as goal

pub returns : goal.returns
returns c run carried bridge end p m number came by_link kept =
    let w = judged run.domain run.tables bridge (received_before run carried bridge end) [] p came in
    let ingress = ap (verdict_on run.domain run.tables bridge w.0 p.received) by_link in
    queued_or_lost run.domain run.tables bridge c.verdicts_have_their_reason.ensures.inside w.0 p.received m number p.verdict (sym ingress ∙ sym w.1) kept
