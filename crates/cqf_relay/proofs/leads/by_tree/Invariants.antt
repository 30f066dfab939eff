use Rattle.std.proofs.Common.{◌≡◌, drop}
use Rattle.cqf_relay.specs.Leading.{by_hops}
use Rattle.cqf_relay.proofs.leads.by_tree.Given as goal

-- the hops after those that were seen give the same as all
abbrev pub invariant-loop-hop : goal.invariant-loop-hop
invariant-loop-hop l = by_hops l.link (drop l.hop-index l.tree) ≡ by_hops l.link l.tree
