use Rattle.std.proofs.Common.{refl}
use Rattle.std.proofs.lemmas.Option.{slice_get_read}
use Rattle.cqf_relay.proofs.Handing.{relay_keeps_back}
use Rattle.cqf_relay.proofs.relay.Relay.keep_back.Goals as goal

-- one link takes back what it handed on
pub returns : goal.returns
returns c =
    let was = slice_get_read c.args.self.now.outlets.items _ c.args.index c.index_mut.result.now refl c.requires c.index_mut.ensures.value in
    relay_keeps_back c.args.index c.args.reported c.args.segment c.args.self.now _ c.index_mut.result.now c.keep_back.new.self
    (record { domain = refl; number = refl; cycles = refl; tables = refl; inlets = refl; edge = refl; known = refl }) was refl c.keep_back.ensures
