use Rattle.std.proofs.Common.{◌∙◌, ◌++◌, ◌∷◌, [], ap, append_assoc, length-append, arith, sym}
use Rattle.std.specs.Vec.Iter.{into_iter_items}
use Rattle.cqf_worker.proofs.Unwiring.{given_more, next_pair}
use Rattle.cqf_worker.proofs.closing.close_tables.Goals as goal

-- the ends at an index are of one pipe
pub close-under_way-requires : goal.close-under_way-requires
close-under_way-requires c =
    let puts = c.loop-putting.yielded in
    let takes = c.loop-putting.invariant.1.0 in
    record {
      pair = next_pair c.args.ins.items c.args.outs.items puts takes (into_iter_items c.next.new.self) (into_iter_items c.next-in-loop-putting.new.self)
          c.in-Some.putting c.in-Some-next.taking
          (ap (λ xs. puts ++ xs) (sym c.in-Some.ensures.steps.0) ∙ c.loop-putting.invariant.0)
          (c.loop-putting.invariant.1.1 ∙ ap (λ xs. takes ++ xs) c.in-Some-next.ensures.items)
          c.loop-putting.invariant.1.2 c.requires;
    }

-- the pipe of one worker more is closed
pub loop-putting-preserved : goal.loop-putting-preserved
loop-putting-preserved c =
    let puts = c.loop-putting.yielded in
    let takes = c.loop-putting.invariant.1.0 in
    let rest = into_iter_items c.next.new.self in
    let others = into_iter_items c.next-in-loop-putting.new.self in (
      append_assoc puts (c.in-Some.putting ∷ []) rest ∙ ap (λ xs. puts ++ xs) (sym c.in-Some.ensures.steps.0) ∙ c.loop-putting.invariant.0,
      (
        takes ++ c.in-Some-next.taking ∷ [],
        c.loop-putting.invariant.1.1 ∙ ap (λ xs. takes ++ xs) c.in-Some-next.ensures.items ∙ sym (append_assoc takes (c.in-Some-next.taking ∷ []) others),
        omega (arith, length-append takes (c.in-Some-next.taking ∷ []), length-append puts (c.in-Some.putting ∷ []), c.loop-putting.invariant.1.2),
        given_more puts takes c.in-Some.putting c.in-Some-next.taking c.close-under_way.result c.loop-putting.invariant.1.2 c.loop-putting.invariant.1.3
            c.close-under_way.ensures,
      ),
    )
