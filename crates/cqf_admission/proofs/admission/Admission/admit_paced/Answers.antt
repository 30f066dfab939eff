-- A copy that is shared requests the same.
use Rattle.std.proofs.Common.{subst}
use Rattle.cqf_model.specs.History.{Admits, Asked}
use Rattle.cqf_admission.specs.Admission.{Answers, HoldsOneMore}
use Rattle.cqf_admission.proofs.admission.Admission.admit_paced.Goals as goal

pub returns-clause-answers : goal.returns-clause-answers
returns-clause-answers c =
    subst (λ (asked : Asked). Answers c.args.self.now c.admit_shared.new.self c.args.seat (Admits asked) c.admit_shared.result)
    c.in_ok-asked.ensures c.admit_shared.ensures.answers

pub returns-clause-held : goal.returns-clause-held
returns-clause-held c =
    subst (λ (asked : Asked). HoldsOneMore c.args.self.now c.admit_shared.new.self asked c.admit_shared.result) c.in_ok-asked.ensures
    c.admit_shared.ensures.held
