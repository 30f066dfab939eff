use Rattle.std.proofs.Common.{refl}
use Rattle.std.proofs.lemmas.Result.{on_ok_weaker}
use Rattle.std.specs.Vec.{with_item}
use Rattle.cqf_relay.specs.declared.relay.Relay.{Relay}
use Rattle.cqf_relay.specs.Standing.{IsSameButLinks}
use Rattle.cqf_relay.proofs.Going.{sends_on_from}
use Rattle.cqf_relay.proofs.relay.Relay.send_on.Goals as goal

pub returns : goal.returns
returns c =
    let before = c.args.self.now in
    let after : Relay = record before { outlets = with_item before.outlets c.args.index c.send_to.new.self; queue = c.send_to.new.queue } in
    let same : IsSameButLinks before after =
    record { domain = refl; number = refl; cycles = refl; tables = refl; inlets = refl; edge = refl; known = refl } in
    on_ok_weaker c.send_to.result
    (sends_on_from c.args.index c.reach-until.result before after c.index_mut.result.now c.send_to.new.self c.as_slice.result.now same c.reach-until.ensures
    c.requires c.index_mut.ensures.value refl c.as_slice.ensures.value) c.send_to.ensures
