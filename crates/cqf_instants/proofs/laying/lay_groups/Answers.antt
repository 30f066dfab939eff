use Rattle.std.proofs.Common.{◌≡◌, ◌+◌, get_or, length, subst, sym, arith}
use Rattle.std.specs.Prelude.{slice_set}
use Rattle.std.proofs.lemmas.Option.{slice_get-get_or}
use Rattle.cqf_model.specs.declared.topology.Hop.{Hop}
use Rattle.cqf_instants.specs.LaidTrees.{AreAfter}
use Rattle.cqf_instants.proofs.Groups.{after_more, no_hop}
use Rattle.cqf_instants.proofs.laying.lay_groups.Goals as goal

pub loop-hop-preserved : goal.loop-hop-preserved
loop-hop-preserved c =
    let tree = c.args.tree.now in
    let k = c.loop-hop.hop-index in
    let hop : Hop = get_or tree k no_hop in
    let groups = c.loop-hop.groups.items in
    let after = c.lay_group.new.branches.items in
    let more = after_more tree c.args.branches.now.items c.loop-hop.branches.items after k hop c.in_ok-many.many groups c.requires.few
    (c.requires.links k no_hop c.loop-hop-test.true) (slice_get-get_or tree k no_hop c.loop-hop-test.true) c.loop-hop.invariant c.in_ok-many.ensures in
    let first : c.len-first.result ≡ length c.loop-hop.branches.items = omega (arith, c.len-first.ensures) in
    subst (AreAfter tree c.args.branches.now.items after (k + 1))
    (λ i. slice_set groups (sym c.from.ensures i) (record { first = sym first i; many = c.in_ok-many.many })) more
