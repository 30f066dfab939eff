use Rattle.std.proofs.Common.{◌≡◌, ◌+◌, ◌-◌, List, length, get_or, sym, ap, subst, arith}
use Rattle.cqf_model.specs.GateList.{Entry, InForce}
use Rattle.cqf_port.proofs.Fitting.{force_again, force_next}
use Rattle.cqf_port.proofs.spans.entry_after.Goals as goal
use Rattle.cqf_port.proofs.spans.entry_after.Goals.{then-index-entries, else-index-entries}

-- the next entry, or the first again
pub returns-clause-force : goal.returns-clause-force
returns-clause-force c =
    let list = c.args.list.now in
    let index = c.args.index in
    let same : c.entries-entries.result.now ≡ list = c.entries-entries.ensures.value in
    let ends : c.args.t + ((get_or list index (0, 0)).1 - c.args.offset) ≡ c.args.t + c.widened.result =
    omega (arith, c.widened.ensures.value, ap (λ (xs : List Entry). (get_or xs index (0, 0)).1) same) in
    let inside = c.requires.force.inside in
    elim c.if-index-entries.branch [
      | then-index-entries w ↦ subst (λ after. InForce list (c.args.t + c.widened.result) after 0) (sym w.after-is)
          (subst (λ begins. InForce list begins 0 0) ends
          (force_again list c.args.t index c.args.offset c.entries-entries.ensures.facts c.requires.force
          (omega (arith, w.if-index-entries.true, ap length same))))
      | else-index-entries w ↦ subst (λ after. InForce list (c.args.t + c.widened.result) after 0) (sym w.after-is)
          (subst (λ begins. InForce list begins (index + 1) 0) ends
          (force_next list c.args.t index c.args.offset c.entries-entries.ensures.facts c.requires.force
          (omega (arith, w.if-index-entries.false, ap length same, inside))))
    ]
