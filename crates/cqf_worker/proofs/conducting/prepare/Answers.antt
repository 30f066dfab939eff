use Rattle.std.proofs.Common.{◌≡◌, Global, Vec, arith, length, map}
use Rattle.std.proofs.lemmas.List.{length-map}
use Rattle.cqf_admission.specs.declared.entries.Command.{Command}
use Rattle.cqf_worker.specs.Reporting.{IsStartFault}
use Rattle.cqf_worker.proofs.Preparing.{desk_is, passed_on}
use Rattle.cqf_worker.proofs.conducting.prepare.Goals as goal

-- each part is there
pub returns-clause-ok : goal.returns-clause-ok
returns-clause-ok c =
    let many : c.len.result ≡ length (map (λ (v : Vec Command Global). v.items) c.args.admins.items) =
    omega (arith, c.len.ensures, c.args.admins.ok.0, length-map c.args.admins.items (λ (v : Vec Command Global). v.items)) in
    record {
      desk = desk_is c.in_ok-desk.desk c.args.admission c.args.given.domain.now c.len.result
          (length (map (λ (v : Vec Command Global). v.items) c.args.admins.items))
          c.in_ok-desk.ensures.desk c.requires.domain many;
      laid = c.in_ok-workers.ensures.ok;
      seated = c.in_ok-administrators.ensures.ok;
    }

-- or one of them can't be allocated
pub returns-in_err-administrators-clause-err : goal.returns-in_err-administrators-clause-err
returns-in_err-administrators-clause-err c =
    passed_on c.from_residual-in_err-administrators.result c.in_err-administrators.field-0.0 IsStartFault
    c.from_residual-in_err-administrators.ensures.1 c.in_err-administrators.ensures.err

pub returns-in_err-workers-clause-err : goal.returns-in_err-workers-clause-err
returns-in_err-workers-clause-err c =
    passed_on c.from_residual-in_err-workers.result c.in_err-workers.field-0.0 IsStartFault c.from_residual-in_err-workers.ensures.1
    c.in_err-workers.ensures.err
