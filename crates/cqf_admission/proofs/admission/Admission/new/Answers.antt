use Rattle.std.proofs.Common.{◌∙◌, List, ap, length, map, subst, sym}
use Rattle.cqf_model.specs.Domain.{Domain}
use Rattle.cqf_admission.specs.declared.entries.Entry.{Entry}
use Rattle.cqf_admission.specs.Admission.{recorded_of}
use Rattle.cqf_admission.specs.State.{IsStateOf}
use Rattle.cqf_admission.specs.Tabling.{AreTablesOf}
use Rattle.cqf_admission.proofs.admission.Admission.new.Goals as goal

pub invariant_of-result : goal.invariant_of-result
invariant_of-result c =
    let d = c.in_ok-try_copy.field-0 in (
      subst (λ (history : List Entry). IsStateOf d (map recorded_of history) c.in_ok-new.field-0) (sym c.new.ensures.items)
          (c.in_ok-new.ensures d (ap (λ (x : Domain). length x.links) c.in_ok-try_copy.ensures ∙ sym c.links.ensures)),
      subst (λ (history : List Entry). AreTablesOf d (map recorded_of history) c.in_ok-new-2.field-0) (sym c.new.ensures.items) (c.in_ok-new-2.ensures d),
    )
