use Rattle.std.proofs.Common.{ℕ, Option, subst}
use Rattle.cqf_laws_cycle.specs.BridgeCycle.{policed_of}
use Rattle.cqf_plain.specs.Losing.{IsLossFound}
use Rattle.cqf_plain.proofs.receiving.why_lost.Goals as goal

-- it can't be that none is lost
pub unreachable-requires : goal.unreachable-requires
unreachable-requires c =
    let p = c.requires.part in
    p.6 (subst (λ (o : Option ℕ). IsLossFound (policed_of p.0 p.1.carried p.2 c.args.table.now.cycle) o) c.in-Ok-None.field-0-is
    (c.in-Ok-None.ensures p.0 p.1 p.2 p.3 p.4 p.5))
