use Rattle.std.proofs.Common.{◌≡◌, ◌+◌, ◌<◌, [], get_or, ap, subst, arith}
use Rattle.cqf_port.specs.Quiet.{FitsNowhere}
use Rattle.cqf_port.proofs.Fitting.{fits_at, nowhere_on, nowhere_within}
use Rattle.cqf_port.proofs.spans.fit_from.Goals as goal

-- it doesn't fit into this entry, and the next begins
pub loop-t-preserved : goal.loop-t-preserved
loop-t-preserved c =
    let list = c.args.list.now in
    let index = c.loop-t.index in
    let ends : c.loop-t.t + (get_or list index (0, 0)).1 ≡ c.entry_after.result.1 = omega (arith, c.entry_after.ensures.value) in
    let over : get_or (get_or c.args.spans.now index []) c.args.class 0 < c.args.need =
    omega (arith, c.if-spans-index.false, ap (λ n. get_or (get_or c.args.spans.now index []) n 0) c.from.ensures) in
    record {
      later = omega (arith, c.loop-t.invariant.later, c.entry_after.ensures.later);
      force = c.entry_after.ensures.force;
      nowhere = nowhere_on list c.args.class c.args.need c.args.ahead.begins c.loop-t.t c.entry_after.result.1 c.loop-t.invariant.nowhere
          (subst (λ n. FitsNowhere list c.args.class c.args.need c.loop-t.t n) ends
          (nowhere_within c.mask_is_in_force.ensures.states c.mask_is_in_force.ensures.round c.mask_is_in_force.ensures.some list
          c.args.spans.now c.loop-t.t index c.args.class c.args.need c.requires.spans c.loop-t.invariant.force c.requires.gate
          c.requires.some c.requires.short c.entry_after.ensures.short over));
    }

-- it fits into this one
pub returns-then-spans-index-clause-fits : goal.returns-then-spans-index-clause-fits
returns-then-spans-index-clause-fits c = λ soon.
    let index = c.loop-t.index in
    fits_at c.mask_is_in_force.ensures.states c.mask_is_in_force.ensures.round c.mask_is_in_force.ensures.some c.args.list.now c.args.spans.now
    c.loop-t.t index c.args.class c.args.need c.requires.spans c.loop-t.invariant.force c.requires.gate c.requires.some c.requires.short
    (omega (arith, c.if-spans-index.true, ap (λ n. get_or (get_or c.args.spans.now index []) n 0) c.from.ensures))
