use Rattle.cqf_admission.proofs.table.Table.try_copy.Goals as goal

pub invariant_of-result : goal.invariant_of-result
invariant_of-result c = rw c.in_ok-try_clone.ensures c.self.invariant
