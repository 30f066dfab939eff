use Rattle.std.proofs.Common.{◌∙◌, ◌<◌, arith, length, refl}
use Rattle.std.proofs.lemmas.List.Elements.{All-push, All-same}
use Rattle.std.proofs.lemmas.Option.{slice_get_read}
use Rattle.cqf_edge.specs.Uses.{IsShort}
use Rattle.cqf_edge.proofs.Mapped.{one_longer}
use Rattle.cqf_edge.proofs.UseLemmas.{bounds_next}
use Rattle.cqf_edge.proofs.uses.bounds_of.Goals as goal

pub loop-index-preserved : goal.loop-index-preserved
loop-index-preserved c =
    let links = c.talkers-links.result.now in
    let uses = c.in_ok-uses.uses.items in
    let k = c.loop-index.index in
    let done = c.loop-index.bounds.items in
    let u = c.index.result.now in
    let found = c.bound.result in
    let inside : k < length links = omega (arith, c.loop-index-test.true) in
    let within : k < length uses = omega (arith, inside, c.in_ok-uses.ensures.each) in (
      bounds_next links c.args.all.now uses done _ k _ u found c.in_ok-uses.ensures inside (slice_get_read uses (length uses) k u refl within c.index.ensures)
          c.in_ok-push.ensures.items c.bound.ensures.value
          ∙ c.loop-index.invariant.0,
      All-same IsShort _ _ c.in_ok-push.ensures.items (All-push IsShort done found c.loop-index.invariant.1 c.bound.ensures.short),
      one_longer done _ found k c.in_ok-push.ensures.items c.loop-index.invariant.2,
    )
