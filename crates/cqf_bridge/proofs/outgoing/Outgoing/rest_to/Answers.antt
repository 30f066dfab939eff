use Rattle.std.proofs.Common.{◌≡◌, ◌<◌, arith, ap, subst, sym}
use Rattle.cqf_port.specs.PortState.{PortState}
use Rattle.cqf_bridge.specs.PortRecord.{PortRecord}
use Rattle.cqf_bridge.specs.Quiet.{IsQuiet, rested}
use Rattle.cqf_bridge.proofs.Resting.{runs_quietly}
use Rattle.cqf_bridge.proofs.outgoing.Outgoing.rest_to.Goals as goal

pub returns : goal.returns
returns c =
    let o = c.self.inside in
    let r : PortRecord = record { link = o.link; port = o.port; streams = o.streams.items } in
    let quiet : IsQuiet c.args.until.0 r = subst (IsQuiet c.args.until.0) (sym c.self.view_is) c.requires.quiet in
    let later : o.port.reached < c.args.until.0 = omega (arith, c.requires.later, ap (λ (x : PortRecord). x.port.reached) c.self.view_is) in
    let rests = runs_quietly r c.run_to.new.self c.args.until.0 (c.in_ok-run_to.ensures.ok later) c.run_to.ensures.only quiet in
    let with_port : PortState → PortRecord = λ p. record { link = o.link; port = p; streams = o.streams.items } in
    subst (λ (x : PortRecord). with_port c.run_to.new.self ≡ rested c.args.until.0 x) c.self.view_is (ap with_port rests)
