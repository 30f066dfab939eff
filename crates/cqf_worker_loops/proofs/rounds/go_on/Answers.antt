use Rattle.std.proofs.Common.{refl, sym, subst}
use Rattle.cqf_worker_loops.specs.Stepping.{GoesFurther}
use Rattle.cqf_worker_loops.proofs.HandedSegments.{gives_up, goes_further, goes_with_sends, on_fault, some_further}
use Rattle.cqf_worker_loops.proofs.rounds.go_on.Goals.{then-may_send+in_ok-send, else-may_send}
use Rattle.cqf_worker_loops.proofs.rounds.go_on.Goals as goal

-- if a link can go on, it has gone on; else the worker has only looked
pub report-requires : goal.report-requires
report-requires g c =
    let first = c.args.worker.now in
    let goes : GoesFurther first c.if-may_send.worker = elim c.if-may_send.branch [
      | then-may_send+in_ok-send b ↦
          subst (GoesFurther first) (sym b.worker-is) (goes_further first c.look.new.worker _ c.in_ok-look.ensures.ok
          (goes_with_sends c.look.new.worker _ b.in_ok-send.ensures refl refl refl refl))
      | else-may_send b ↦ subst (GoesFurther first) (sym b.worker-is) c.in_ok-look.ensures.ok
    ] in
    some_further first c.if-may_send.worker c.requires goes

pub returns-clause-ok : goal.returns-clause-ok
returns-clause-ok g c =
    let first = c.args.worker.now in
    let goes : GoesFurther first c.if-may_send.worker = elim c.if-may_send.branch [
      | then-may_send+in_ok-send b ↦
          subst (GoesFurther first) (sym b.worker-is) (goes_further first c.look.new.worker _ c.in_ok-look.ensures.ok
          (goes_with_sends c.look.new.worker _ b.in_ok-send.ensures refl refl refl refl))
      | else-may_send b ↦ subst (GoesFurther first) (sym b.worker-is) c.in_ok-look.ensures.ok
    ] in
    goes_further first c.if-may_send.worker _ goes c.in_ok-report.ensures.ok

-- if it gives up, it has put only segments
pub returns-in_err-send-clause-err : goal.returns-in_err-send-clause-err
returns-in_err-send-clause-err g c =
    on_fault c.from_residual-in_err-send.result _ (gives_up c.args.worker.now c.look.new.worker _ c.requires c.in_ok-look.ensures.ok refl)
