use Rattle.std.proofs.Common.{subst, sym}
use Rattle.cqf_model.specs.Domain.{Domain}
use Rattle.cqf_laws_cycle.specs.Gathered.{backed_for}
use Rattle.cqf_bridge.specs.BridgeState.{AreBackedOf}
use Rattle.cqf_bridge.proofs.Beginning.{backed_is_of_bridge, new_follows}
use Rattle.cqf_bridge.proofs.cycles.new_bridge_follows.Goals as goal

pub returns-clause-follows : goal.returns-clause-follows
returns-clause-follows c = new_follows

pub returns-clause-background : goal.returns-clause-background
returns-clause-background c d run bridge cycle same good =
    subst (λ (x : Domain). AreBackedOf x bridge cycle (backed_for run.domain run.background bridge cycle)) (sym same)
    (backed_is_of_bridge run.domain run.background bridge cycle good)
