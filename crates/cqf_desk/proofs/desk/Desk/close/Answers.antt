use Rattle.std.proofs.Common.{ℕ, List, IfErr, IsErrOf, subst}
use Rattle.cqf_desk.specs.declared.faults.CloseFault.TheVariants.{SeatsDisagree}
use Rattle.cqf_desk.specs.Closing.{IsCloseFault, IsOneOrCount}
use Rattle.cqf_desk.specs.Desk.{Sitting}
use Rattle.cqf_desk.proofs.desk.Desk.close.Goals as goal

pub returns-clause-named : goal.returns-clause-named
returns-clause-named c =
    subst (λ (seats : List Sitting). (number : ℕ) → IsErrOf c.settled.result (SeatsDisagree number) → IsOneOrCount c.args.self.seats seats number)
    c.as_slice-2.ensures.value c.settled.ensures.named

pub returns-clause-fault : goal.returns-clause-fault
returns-clause-fault c =
    subst (λ (seats : List Sitting). IfErr c.settled.result (λ fault. IsCloseFault c.args.self seats fault)) c.as_slice-2.ensures.value c.settled.ensures.fault
