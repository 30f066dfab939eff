use Rattle.std.proofs.Common.{◌∙◌, ◌<◌, arith, length, refl}
use Rattle.std.proofs.lemmas.List.{length-set}
use Rattle.cqf_plain.proofs.Sent.{all_sent, next_sends, none_sent, one_sent}
use Rattle.cqf_plain.proofs.sending.send_all.Goals as goal

pub loop-index-init : goal.loop-index-init
loop-index-init c = record {
  many = refl;
  sent = λ run net of all. none_sent run net c.args.cycle.0 of c.args.bridges.now.items _ c.new-batches.ensures.items all;
}

-- the next bridge is at the cycle
pub send_one-requires-clause-part : goal.send_one-requires-clause-part
send_one-requires-clause-part c =
    let p = c.requires.part in
    let inside : c.loop-index.index < length p.0.domain.bridges = omega (arith, c.loop-index-test.true, c.len-index-end.ensures, p.3.one_each) in (
      p.0,
      p.1,
      c.loop-index.index,
      p.2,
      next_sends p.0 p.1 c.args.cycle.0 p.2 c.loop-index.index c.loop-index.bridges.items c.loop-index.batches.items c.index_mut.result.now
          (c.loop-index.invariant.sent p.0 p.1 p.2 p.3) inside c.index_mut.ensures.value,
    )

-- and sends it
pub loop-index-preserved : goal.loop-index-preserved
loop-index-preserved c = record {
  many = length-set c.loop-index.bridges.items c.loop-index.index c.send_one.new.driven ∙ c.loop-index.invariant.many;
  sent = λ run net of all.
      (let inside : c.loop-index.index < length run.domain.bridges = omega (arith, c.loop-index-test.true, c.len-index-end.ensures, all.one_each) in
      let so_far = c.loop-index.invariant.sent run net of all in
      let stands = next_sends run net c.args.cycle.0 of c.loop-index.index c.loop-index.bridges.items c.loop-index.batches.items
      c.index_mut.result.now so_far inside
      c.index_mut.ensures.value in
      one_sent run net c.args.cycle.0 of c.loop-index.index c.loop-index.index c.loop-index.bridges.items _ c.loop-index.batches.items _
      c.send_one.new.driven so_far inside
      refl refl
      (c.in_ok-send_one.ensures.halfway run net c.loop-index.index of stands) (c.in_ok-send_one.ensures.sends run net c.loop-index.index of stands));
}

-- in the end all have
pub returns : goal.returns
returns c = λ run net of all.
    all_sent run net c.args.cycle.0 of c.loop-index.index c.loop-index.bridges.items c.loop-index.batches.items (c.loop-index.invariant.sent run net of all)
    (omega (arith, c.loop-index-test.false, c.loop-index.auto.index-end, c.len-index-end.ensures, all.one_each))
