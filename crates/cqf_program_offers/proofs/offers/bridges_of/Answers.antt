use Rattle.std.proofs.Common.{◌∙◌, ap}
use Rattle.cqf_admission.specs.Branches.{branches_of}
use Rattle.cqf_program_offers.specs.Made.{bridges_on}
use Rattle.cqf_program_offers.proofs.Making.{more_bridges}
use Rattle.cqf_program_offers.proofs.offers.bridges_of.Goals as goal

pub loop-flow-preserved : goal.loop-flow-preserved
loop-flow-preserved c =
    c.larger-most.ensures
    ∙ more_bridges c.args.flows.now c.loop-flow.flow-index c.flow-item.result c.loop-flow-test.true c.flow-item.is c.loop-flow.most c.bridges_on-bridges.result
    c.loop-flow.invariant (c.bridges_on-bridges.ensures ∙ ap (λ paths. bridges_on (branches_of paths)) c.as_slice.ensures.value)
