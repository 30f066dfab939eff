-- The greatest hop number so far.
use Rattle.std.proofs.Common.{◌≡◌, fold, max, take}
use Rattle.cqf_model.specs.declared.topology.Hop.{Hop}
use Rattle.cqf_model.proofs.topology.Row.residence.Given as goal

abbrev pub invariant-loop-hop : goal.invariant-loop-hop
invariant-loop-hop l = l.most ≡ fold (λ most (hop : Hop). max most hop.hop_number) 0 (take l.hop-index l.hop-items)
