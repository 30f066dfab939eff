-- One more hop is processed.
use Rattle.std.proofs.Common.{◌++◌, ◌∷◌, [], Bool, if◌then◌else◌, ◌+◌, subst}
use Rattle.cqf_compile.proofs.Bridges.{AreBridges, AreBridges-next, link-inside}
use Rattle.cqf_compile.proofs.leaving.bridges_of.Goals as goal
use Rattle.cqf_compile.proofs.leaving.bridges_of.Goals.{then-not-is_among, else-not-is_among}

pub link-bridge-requires : goal.link-bridge-requires
link-bridge-requires c =
    link-inside c.args.plan.now c.domain-domain.result.now c.args.row.now.tree.items c.as_slice-hop-items.result.now c.loop-hop.hop-index
    c.domain-domain.ensures.value c.as_slice-hop-items.ensures.value c.loop-hop-test.true c.requires

pub loop-hop-preserved : goal.loop-hop-preserved
loop-hop-preserved c =
    let d = c.args.plan.now in
    let tree = c.args.row.now.tree.items in
    let k = c.loop-hop.hop-index in
    let before = c.loop-hop.bridges.items in
    let bridge = c.link-bridge.result.from in
    let next = AreBridges-next d c.domain-domain.result.now tree c.as_slice-hop-items.result.now k c.link-bridge.result c.is_among.result before
    c.as_slice.result.now
    c.domain-domain.ensures.value c.domain-domain.ensures.accepted c.as_slice-hop-items.ensures.value c.as_slice.ensures.value c.loop-hop-test.true
    c.link-bridge.ensures c.is_among.ensures c.loop-hop.invariant in
    let N : Bool → Type 0 = λ b. AreBridges d tree (k + 1) (if b then before else before ++ bridge ∷ []) in
    elim c.if-not-is_among.branch [
      | then-not-is_among w ↦ rw (w.bridges-is, w.push.ensures.items) (subst N w.if-not-is_among.true next)
      | else-not-is_among w ↦ rw w.bridges-is (subst N w.if-not-is_among.false next)
    ]
