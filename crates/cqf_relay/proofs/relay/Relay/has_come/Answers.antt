use Rattle.std.proofs.Common.{arith}
use Rattle.cqf_relay.proofs.Going.{has_come_more, not_needed}
use Rattle.cqf_relay.proofs.relay.Relay.has_come.Goals as goal
use Rattle.cqf_relay.proofs.relay.Relay.has_come.Goals.{then-inlet-have+then-needs, else-inlet-have, else-inlet-have-via-then-inlet-have+else-needs}
use Rattle.cqf_relay.proofs.relay.Relay.has_come.Goals.{else-inlet-have-via-else-inlet-have}

pub loop-inlet-preserved : goal.loop-inlet-preserved
loop-inlet-preserved c =
    let outlets = c.args.self.now.outlets.items in
    let more = has_come_more c.args.index c.loop-inlet.have c.if-inlet-have.have c.args.self.now c.as_slice-inlet-items.result.now c.loop-inlet.inlet-index
    c.inlet-item.result c.loop-inlet.invariant c.loop-inlet-test.true c.inlet-item.is in
    elim c.if-inlet-have.branch [
      | then-inlet-have+then-needs w ↦ more (omega arith) (λ outlet at needs. omega arith)
      | else-inlet-have w ↦ elim w.else-inlet-have.branch [
        | else-inlet-have-via-then-inlet-have+else-needs v ↦ more (omega arith) (λ outlet at needs.
            absurd (not_needed outlets c.args.index v.index.result.now outlet v.needs.result c.inlet-item.result.link v.index.ensures v.needs.ensures
            v.if-needs.false at needs))
        | else-inlet-have-via-else-inlet-have v ↦ more (omega arith) (λ outlet at needs. omega arith)
      ]
    ]
