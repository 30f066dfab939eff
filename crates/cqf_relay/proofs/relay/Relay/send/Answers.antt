use Rattle.std.proofs.Common.{arith}
use Rattle.cqf_relay.proofs.Going.{all_have_gone_on, as_many_outlets, none_goes_on, one_goes_on}
use Rattle.cqf_relay.proofs.relay.Relay.send.Goals as goal

pub loop-index-init : goal.loop-index-init
loop-index-init c = none_goes_on c.args.self.now

pub send_on-requires : goal.send_on-requires
send_on-requires c =
    omega (
      arith,
      as_many_outlets c.args.self.now c.loop-index.self c.loop-index.invariant.same,
      c.args.self.now.outlets.ok.0,
      c.len-index-end.ensures,
    )

pub loop-index-preserved : goal.loop-index-preserved
loop-index-preserved c =
    one_goes_on c.loop-index.index c.args.self.now c.loop-index.self c.send_on.new.self c.loop-index.invariant c.in_ok-send_on.ensures

pub returns : goal.returns
returns c = all_have_gone_on c.args.self.now c.loop-index.self c.let_go.new.self c.loop-index.invariant c.let_go.ensures
