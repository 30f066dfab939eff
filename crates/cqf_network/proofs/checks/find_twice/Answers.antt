use Rattle.std.proofs.Common.{◌<◌, List, Option, length, subst, ℕ}
use Rattle.std.specs.Prelude.{IfSome}
use Rattle.cqf_topology.specs.declared.joined.End.{End}
use Rattle.cqf_network.specs.Edges.{ends_of, pair_of}
use Rattle.cqf_network.proofs.IndexLemmas.{index_across}
use Rattle.cqf_network.proofs.checks.find_twice.Goals as goal

pub element_at-requires : goal.element_at-requires
element_at-requires c =
    let index = c.in-Some.index in
    let in_slice : index < length c.as_slice.result.now =
    subst (λ (o : Option ℕ). IfSome o (λ p. p < length c.as_slice.result.now)) c.in-Some.is c.in_ok-index.ensures.within in
    index_across pair_of ends_of c.in_ok-pairs.pairs.items c.args.edges.now index c.in_ok-pairs.ensures
    (subst (λ (ps : List (End × End)). index < length ps) c.as_slice.ensures.value in_slice)
