use Rattle.std.proofs.Common.{◌≡◌, ◌∙◌, ap, get_or, subst}
use Rattle.std.proofs.lemmas.List.{get_or_default}
use Rattle.cqf_bridge.specs.BridgeState.{BridgeState}
use Rattle.cqf_bridge.specs.PortRecord.{PortRecord}
use Rattle.cqf_bridge.specs.Quiet.{IsNextStartOf}
use Rattle.cqf_bridge.proofs.bridge.Bridge.next_start.Goals as goal

pub returns : goal.returns
returns c = λ e.
    let r = c.index.result.now in
    let here : r ≡ get_or c.args.self.now.ports c.args.index r = c.index.ensures ∙ ap (λ (b : BridgeState). get_or b.ports c.args.index r) c.self.view_is in
    subst (λ (x : PortRecord). IsNextStartOf x c.next_start.result) (here ∙ get_or_default c.args.self.now.ports c.args.index r e c.requires) c.next_start.ensures
