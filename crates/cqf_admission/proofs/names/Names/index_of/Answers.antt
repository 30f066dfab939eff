use Rattle.std.proofs.Common.{◌∙◌, List, ap}
use Rattle.cqf_topology.specs.declared.paced.PacedRequest.{PacedRequest}
use Rattle.cqf_admission.specs.Names.{index_named}
use Rattle.cqf_admission.proofs.names.Names.index_of.Goals as goal

pub returns : goal.returns
returns c =
    c.copied.ensures ∙ c.get.ensures.value ∙ c.self.invariant c.args.name.now
    ∙ ap (λ (requests : List PacedRequest). index_named requests c.args.name.now) c.self.view_is
