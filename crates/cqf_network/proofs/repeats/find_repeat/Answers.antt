use Rattle.std.proofs.Common.{◌∙◌, arith, get_or, sym}
use Rattle.std.proofs.lemmas.List.{get_or_default}
use Rattle.cqf_topology.specs.declared.joined.End.{End}
use Rattle.cqf_topology.specs.declared.joined.End.TheVariants.{Bridge}
use Rattle.cqf_network.proofs.PairLemmas.{held_more, repeat_here, repeat_later}
use Rattle.cqf_network.proofs.repeats.find_repeat.Goals as goal

pub returns-then-holds-clause-first : goal.returns-then-holds-clause-first
returns-then-holds-clause-first c =
    let pairs = c.args.pairs.now in
    let i = c.loop-index.index in
    let none : End × End = (Bridge 0, Bridge 0) in
    let pair = get_or pairs i none in
    repeat_here pairs i pair _ _ (omega arith) (get_or_default pairs i none pair (omega arith)) c.loop-index.invariant.0 c.loop-index.invariant.1
    (sym c.holds.ensures ∙ c.if-holds.true)

pub loop-index-preserved : goal.loop-index-preserved
loop-index-preserved c =
    let pairs = c.args.pairs.now in
    let i = c.loop-index.index in
    let none : End × End = (Bridge 0, Bridge 0) in
    let pair = get_or pairs i none in
    let is = get_or_default pairs i none pair (omega arith) in
    let inv = c.loop-index.invariant in (
      c.in_ok-hold.ensures ∙ held_more pairs i pair _ _ (omega arith) is inv.0 inv.1,
      repeat_later pairs i pair _ _ (omega arith) is inv.0 inv.1 (sym c.holds.ensures ∙ c.if-holds.false),
    )
