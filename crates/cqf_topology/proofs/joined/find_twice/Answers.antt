use Rattle.std.proofs.Common.{◌∙◌, arith, sym}
use Rattle.cqf_topology.proofs.HeldEnds.{first_twice-held, first_twice-next, held-next}
use Rattle.cqf_topology.proofs.joined.find_twice.Goals as goal

pub returns-then-holds_ends : goal.returns-then-holds_ends
returns-then-holds_ends c =
    first_twice-held c.args.links.now c.loop-number.number c.index-links-number.result _ _ (omega arith) c.index-links-number.is
    c.loop-number.invariant.0 c.loop-number.invariant.1 (sym c.holds_ends.ensures ∙ c.if-holds_ends.true)

pub loop-number-preserved : goal.loop-number-preserved
loop-number-preserved c =
    let links = c.args.links.now in
    let i = c.loop-number.number in
    let link = c.index-links-number.result in
    let inv = c.loop-number.invariant in (
      c.in_ok-hold_ends.ensures ∙ held-next links i link _ _ (omega arith) c.index-links-number.is inv.0 inv.1,
      first_twice-next links i link _ _ (omega arith) c.index-links-number.is inv.0 inv.1 (sym c.holds_ends.ensures ∙ c.if-holds_ends.false),
    )
