use Rattle.std.proofs.Common.{◌+◌, add-one, ap}
use Rattle.cqf_lists.specs.Lists.{each_below}
use Rattle.cqf_instants.specs.Queues.{at_hop, branch_at, hops_to, only_on}
use Rattle.cqf_instants.proofs.Adding.{Adds-then, below_room, space_part}
use Rattle.cqf_instants.proofs.queues.pass_on.Goals as goal

pub put-requires-clause-space : goal.put-requires-clause-space
put-requires-clause-space c =
    let branches = c.args.branches.now in
    let first = c.args.first in
    space_part c.args.queues.now.items c.loop-k.queues.items (hops_to branches first c.args.many c.args.frame) (hops_to branches first c.loop-k.k c.args.frame)
    _ c.requires.space c.loop-k.invariant
    (λ l. below_room (λ k. only_on (branch_at branches (first + k)).link (at_hop c.args.frame (first + k)) l) c.loop-k.k c.args.many c.loop-k-test.true)

pub loop-k-preserved : goal.loop-k-preserved
loop-k-preserved c =
    let branches = c.args.branches.now in
    let first = c.args.first in
    Adds-then c.args.queues.now.items c.loop-k.queues.items c.put.new.queues.items (hops_to branches first c.loop-k.k c.args.frame)
    _ (hops_to branches first (c.loop-k.k + 1) c.args.frame) c.loop-k.invariant c.put.ensures
    (λ l. ap (each_below (λ k. only_on (branch_at branches (first + k)).link (at_hop c.args.frame (first + k)) l)) (add-one c.loop-k.k))
