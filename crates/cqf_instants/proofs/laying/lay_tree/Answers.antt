use Rattle.std.proofs.Common.{◌≡◌, List, None, length, subst, sym, arith}
use Rattle.cqf_instants.specs.declared.laying.Group.{Group}
use Rattle.cqf_instants.specs.LaidTrees.{AreTied, IsLaidBranch}
use Rattle.cqf_instants.proofs.Groups.{grown, laid, links_low, short}
use Rattle.cqf_instants.proofs.laying.lay_tree.Goals as goal

pub lay_groups-requires-clause-room : goal.lay_groups-requires-clause-room
lay_groups-requires-clause-room c =
    let tree = c.args.tree.now in
    let before = c.args.branches.now.items in
    let one = c.lay_group.new.branches.items in
    omega (
      arith,
      grown tree None before one c.in_ok-many.many c.in_ok-many.ensures,
      short tree None before one c.in_ok-many.many c.in_ok-many.ensures,
      c.requires.few,
      c.requires.room,
    )

pub tie-requires-clause-links : goal.tie-requires-clause-links
tie-requires-clause-links c =
    links_low c.args.tree.now c.args.branches.now.items c.lay_group.new.branches.items c.lay_groups.new.branches.items c.in_ok-many.many c.lay_groups.new.groups.items
    c.requires.few c.requires.links c.in_ok-many.ensures c.in_ok-lay_groups.ensures c.len-from.result (omega (arith, c.len-from.ensures))

pub returns-clause-laid : goal.returns-clause-laid
returns-clause-laid c =
    let tree = c.args.tree.now in
    let before = c.args.branches.now.items in
    let two = c.lay_groups.new.branches.items in
    let three = c.tie.new.branches.items in
    let from : c.len-from.result ≡ length before = omega (arith, c.len-from.ensures) in
    let groups = c.lay_groups.new.groups.items in
    let reported = subst (λ (gs : List Group). AreTied two three c.len-from.result (length two) gs) c.as_slice.ensures.value c.tie.ensures in
    let tied = subst (λ n. AreTied two three n (length two) groups) from reported in
    subst (λ n. IsLaidBranch tree before three (record { first = n; many = c.in_ok-many.many })) (sym from)
    (laid tree before c.lay_group.new.branches.items two c.in_ok-many.many c.lay_groups.new.groups.items c.requires.few c.requires.links c.in_ok-many.ensures
    c.in_ok-lay_groups.ensures three tied)
