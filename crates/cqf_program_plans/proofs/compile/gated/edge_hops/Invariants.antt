-- Of the first hops, those that follow no other are kept.
use Rattle.std.specs.Prelude.{◌≡◌, take}
use Rattle.cqf_program_plans.specs.Compile.Gated.{edge_hops}
use Rattle.cqf_program_plans.proofs.compile.gated.edge_hops.Given as goal

abbrev pub invariant-loop-hop : goal.invariant-loop-hop
invariant-loop-hop l = l.kept.items ≡ edge_hops (take l.hop-index l.hops)
