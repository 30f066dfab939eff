use Rattle.std.proofs.Common.{◌∙◌, List, [], subst, sym}
use Rattle.cqf_admission.specs.Holdings.{Standing}
use Rattle.cqf_admission.specs.State.{AreOf}
use Rattle.cqf_admission.proofs.Running.{begins}
use Rattle.cqf_admission.proofs.state.State.new.Goals as goal

pub returns : goal.returns
returns c d many =
    let slots = c.in_ok-new-2.field-0 in (
      subst (λ (stands : List Standing). AreOf d [] stands slots 0) (sym c.in_ok-new.ensures.rows)
          (begins d slots c.in_ok-new-2.ensures.many c.in_ok-new-2.ensures.empty),
      c.in_ok-new.ensures.links ∙ sym many,
    )
