use Rattle.std.proofs.Common.{ℕ, IfErr, IsErrOf, subst, sym}
use Rattle.cqf_desk.specs.declared.faults.CloseFault.TheVariants.{SeatsDisagree}
use Rattle.cqf_desk.specs.Closing.{AreItsSeats, IsCloseFault, IsOneOrCount}
use Rattle.cqf_desk.specs.Desk.{Counter}
use Rattle.cqf_desk.proofs.Against.{close_faults}
use Rattle.cqf_desk.proofs.desk.Desk.settled.Goals as goal

pub returns-clause-named : goal.returns-clause-named
returns-clause-named c =
    subst (λ (desk : Counter). (number : ℕ) → IsErrOf c.settle.result (SeatsDisagree number) → IsOneOrCount desk.seats c.args.seats.now number)
    c.self.view_is c.settle.ensures.named

pub returns-clause-fault : goal.returns-clause-fault
returns-clause-fault c =
    subst (λ (desk : Counter). IfErr c.settle.result (λ fault. IsCloseFault desk c.args.seats.now fault)) c.self.view_is
    (close_faults (record { opening = c.self.inside.opening; seats = c.self.inside.seats }) c.args.seats.now _ c.settle.result
    (subst (λ (desk : Counter). AreItsSeats desk.seats c.args.seats.now) (sym c.self.view_is) c.requires) c.settle.ensures.legal c.settle.ensures.fault)
