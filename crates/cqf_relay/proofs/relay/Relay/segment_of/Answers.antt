use Rattle.std.proofs.Common.{refl}
use Rattle.std.proofs.lemmas.Option.{slice_get_read}
use Rattle.cqf_relay.proofs.Handing.{relay_hands_on}
use Rattle.cqf_relay.proofs.relay.Relay.segment_of.Goals as goal

-- one link hands on what it sent
pub returns : goal.returns
returns c =
    let was = slice_get_read c.args.self.now.outlets.items _ c.args.index c.index_mut.result.now refl c.requires c.index_mut.ensures.value in
    relay_hands_on c.args.index c.args.self.now _ c.index_mut.result.now c.segment.new.self c.segment.result
    (record { domain = refl; number = refl; cycles = refl; tables = refl; inlets = refl; edge = refl; known = refl }) was refl c.segment.ensures
