use Rattle.std.proofs.Common.{ap}
use Rattle.cqf_worker.proofs.Joining.{all_joined, joined_reported, run_reported, sealed_so}
use Rattle.cqf_worker.proofs.Notings.{start_reported}
use Rattle.cqf_worker.proofs.threads.run_in.Goals as goal

-- not all threads were started
pub returns-in-Err-clause-err : goal.returns-in-Err-clause-err
returns-in-Err-clause-err g c = start_reported c.args.shared.cycles c.args.ready c.in-Err.fault c.in-Err.ensures.err

-- if nothing has gone wrong in the end, each thread has done its part
pub returns-in-Ok-all_ended-clause-ok : goal.returns-in-Ok-all_ended-clause-ok
returns-in-Ok-all_ended-clause-ok g c =
    let all = c.in-Ok-all_ended.ensures.all in
    let ended = c.in-Ok-all_ended.ended in
    let workers = c.join_workers-workers in
    let seats = c.join_administrators-seats in
    all_joined (λ h. h.promise.cycles) (λ h. h.promise.worker.value) (λ h. h.promise.administrator.value) c.in-Ok.threads.0.items
    c.in-Ok.threads.1.items workers.result.items seats.result.items c.args.shared.cycles c.args.ready ended (ap (λ v. v.items) all.1)
    (ap (λ v. v.items) all.2)
    c.in-Ok.ensures.workers c.in-Ok.ensures.cycles c.in-Ok.ensures.administrators (workers.ensures.done all.0)
    (seats.ensures.done (workers.ensures.before all.0))
    (sealed_so c.args.shared.cycles c.args.ready c.seal_each-sealed.result ended.sealed all.3 c.seal_each-sealed.ensures.ok)

-- else what is reported may be reported
pub returns-in-Err-all_ended-clause-err : goal.returns-in-Err-all_ended-clause-err
returns-in-Err-all_ended-clause-err g c =
    let workers = c.join_workers-workers in
    let seats = c.join_administrators-seats in
    run_reported c.args.shared.cycles c.args.ready workers.new.faults c.seal_each-sealed.result c.in-Err-all_ended.fault
    (joined_reported (λ h. h.promise.cycles) (λ h. h.promise.worker.value) (λ h. h.promise.administrator.value) c.in-Ok.threads.0.items
    c.in-Ok.threads.1.items c.args.shared.cycles c.args.ready c.none-faults.result seats.new.faults workers.new.faults seats.result.items
    workers.result.items
    c.none-faults.ensures c.in-Ok.ensures.workers c.in-Ok.ensures.cycles c.in-Ok.ensures.administrators seats.ensures.noted workers.ensures.noted)
    c.seal_each-sealed.ensures.err c.in-Err-all_ended.ensures.reported
