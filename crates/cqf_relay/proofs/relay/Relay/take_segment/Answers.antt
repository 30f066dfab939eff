use Rattle.std.proofs.Common.{refl}
use Rattle.std.proofs.lemmas.Option.{slice_get_read}
use Rattle.cqf_relay.proofs.TakenSegments.{segment_taken}
use Rattle.cqf_relay.proofs.relay.Relay.take_segment.Goals as goal

-- one inlet has taken the segment
pub returns : goal.returns
returns c =
    let old = c.index_mut.result.now in
    let new = c.take.new.self in
    let was = slice_get_read c.args.self.now.inlets.items _ c.args.index old refl c.requires c.index_mut.ensures.value in
    segment_taken c.take.result c.args.index c.args.segment.now c.args.self.now _ old new
    (λ upto log. record {
      domain = refl;
      number = refl;
      cycles = refl;
      tables = refl;
      known = refl;
      outlets = refl;
      edge = refl;
      old = old;
      new = new;
      was = was;
      is = refl;
      link = c.take.ensures.link;
      upto = upto;
      log = log;
    })
    c.take.ensures.upto
    c.take.ensures.log
