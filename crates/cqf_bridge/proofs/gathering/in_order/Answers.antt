use Rattle.std.proofs.Common.{List, map, subst}
use Rattle.cqf_model.specs.Policing.{Received}
use Rattle.cqf_laws_cycle.specs.Gathered.{IsInOrderOf}
use Rattle.cqf_bridge.specs.Taking.{received_as}
use Rattle.cqf_bridge.proofs.gathering.in_order.Goals as goal

pub returns : goal.returns
returns c =
    subst (λ (xs : List Received). IsInOrderOf (λ (x : Received). x.at) xs (map received_as c.bring_in_order.new.frames.items)) c.in_ok-frames.ensures
    c.in_ok-bring_in_order.ensures.ok
