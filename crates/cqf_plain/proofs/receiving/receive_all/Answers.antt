use Rattle.std.proofs.Common.{◌++◌, ◌∙◌, ◌<◌, List, ap, arith, length, refl}
use Rattle.std.proofs.lemmas.List.{length-set}
use Rattle.cqf_model.specs.declared.frames.Dropped.{Dropped}
use Rattle.cqf_plain.proofs.Received.{all_before, all_dropped, all_unlost, next_receives, none_received, one_received, one_stops}
use Rattle.cqf_plain.proofs.receiving.receive_all.Goals as goal

pub loop-index-init : goal.loop-index-init
loop-index-init c = record {
  many = refl;
  received = λ run net of is_table all. none_received run net c.args.table.now of is_table c.args.bridges.now.items c.args.drops.now.items all;
}

-- the next bridge is halfway through the cycle
pub receive_one-requires-clause-part : goal.receive_one-requires-clause-part
receive_one-requires-clause-part c =
    let p = c.requires.part in
    let inside : c.loop-index.index < length p.0.domain.bridges = omega (arith, c.loop-index-test.true, c.len-index-end.ensures, p.4.one_each) in (
      p.0,
      p.1,
      c.loop-index.index,
      p.2,
      p.3,
      next_receives p.0 p.1 c.args.table.now p.2 p.3 c.loop-index.index c.loop-index.bridges.items c.args.drops.now.items
          c.loop-index.drops.items c.index_mut.result.now
          (c.loop-index.invariant.received p.0 p.1 p.2 p.3 p.4) inside c.index_mut.ensures.value,
    )

-- it may not receive it
pub returns-in-Err-clause-stops : goal.returns-in-Err-clause-stops
returns-in-Err-clause-stops c = λ run net of is_table all.
    let inside : c.loop-index.index < length run.domain.bridges = omega (arith, c.loop-index-test.true, c.len-index-end.ensures, all.one_each) in
    let so_far = c.loop-index.invariant.received run net of is_table all in
    let stands = next_receives run net c.args.table.now of is_table c.loop-index.index c.loop-index.bridges.items c.args.drops.now.items
    c.loop-index.drops.items
    c.index_mut.result.now so_far inside c.index_mut.ensures.value in
    one_stops run net c.args.table.now of is_table c.loop-index.index c.loop-index.bridges.items c.args.drops.now.items c.loop-index.drops.items
    c.in-Err.fault so_far inside
    (c.in-Err.ensures.stops run net c.loop-index.index of is_table stands)

-- or does
pub loop-index-preserved : goal.loop-index-preserved
loop-index-preserved c = record {
  many = length-set c.loop-index.bridges.items c.loop-index.index c.receive_one.new.driven ∙ c.loop-index.invariant.many;
  received = λ run net of is_table all.
      (let inside : c.loop-index.index < length run.domain.bridges = omega (arith, c.loop-index-test.true, c.len-index-end.ensures, all.one_each) in
      let so_far = c.loop-index.invariant.received run net of is_table all in
      let stands = next_receives run net c.args.table.now of is_table c.loop-index.index c.loop-index.bridges.items c.args.drops.now.items
      c.loop-index.drops.items
      c.index_mut.result.now so_far inside c.index_mut.ensures.value in
      one_received run net c.args.table.now of is_table c.loop-index.index c.loop-index.index c.loop-index.bridges.items _ c.args.drops.now.items
      c.loop-index.drops.items _
      c.in-Ok.dropped.items c.receive_one.new.driven so_far inside refl refl (c.in-Ok.ensures.receives run net c.loop-index.index of is_table stands)
      (c.in_ok-extend_from_slice.ensures.items ∙ ap (λ (xs : List Dropped). c.loop-index.drops.items ++ xs) c.as_slice.ensures.value));
}

-- in the end all have
pub returns-clause-before : goal.returns-clause-before
returns-clause-before c = λ run net of is_table all.
    all_before run net c.args.table.now of is_table c.loop-index.index c.loop-index.bridges.items c.args.drops.now.items c.loop-index.drops.items
    (c.loop-index.invariant.received run net of is_table all)
    (omega (arith, c.loop-index-test.false, c.loop-index.auto.index-end, c.len-index-end.ensures, all.one_each))

pub returns-clause-dropped : goal.returns-clause-dropped
returns-clause-dropped c = λ run net of is_table all.
    all_dropped run net c.args.table.now of is_table c.loop-index.index c.loop-index.bridges.items c.args.drops.now.items c.loop-index.drops.items
    (c.loop-index.invariant.received run net of is_table all)
    (omega (arith, c.loop-index-test.false, c.loop-index.auto.index-end, c.len-index-end.ensures, all.one_each))

pub returns-clause-none_lost : goal.returns-clause-none_lost
returns-clause-none_lost c = λ run net of is_table all.
    all_unlost run net c.args.table.now of is_table c.loop-index.index c.loop-index.bridges.items c.args.drops.now.items c.loop-index.drops.items
    (c.loop-index.invariant.received run net of is_table all)
    (omega (arith, c.loop-index-test.false, c.loop-index.auto.index-end, c.len-index-end.ensures, all.one_each))
