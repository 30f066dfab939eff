-- The number was subtracted from the sums of the hops so far.
use Rattle.std.proofs.Common.{◌-◌, take}
use Rattle.cqf_admission.specs.ActiveCycles.{AreKept}
use Rattle.cqf_admission.proofs.ActiveCycleLemmas.{AreFor}
use Rattle.cqf_admission.proofs.cycle_sums.CycleSums.take.Given as goal

abbrev pub invariant-loop-hop : goal.invariant-loop-hop
invariant-loop-hop l = record {
  kept : AreKept (record { links = l.self-inside.links; sums = l.self-inside.sums.items }) l.self-inside.greatest.items;
  so_far : AreFor (λ x y. x - y) l.fn.self (take l.hop-index l.tree) l.pace l.number (record { links = l.self-inside.links; sums = l.self-inside.sums.items });
}
