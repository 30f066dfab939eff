use Rattle.std.proofs.Common.{ap, subst}
use Rattle.std.specs.Prelude.{IsSome}
use Rattle.std.proofs.lemmas.Bool.{false≢true}
use Rattle.cqf_relay.specs.Standing.{IsOver}
use Rattle.cqf_worker_loops.proofs.HandedSegments.{gives_up, on_done, on_fault}
use Rattle.cqf_worker_loops.proofs.Through.{ends_so}
use Rattle.cqf_worker_loops.proofs.rounds.work_rounds.Goals.{in-None, in-Some+then-is_over}
use Rattle.cqf_worker_loops.proofs.rounds.work_rounds.Goals as goal

-- its bridge is over, and it keeps what the bridge has sent and dropped
pub returns-clause-ok : goal.returns-clause-ok
returns-clause-ok g c =
    let w = c.loop-round.worker in
    let over : IsOver w.relay = elim c.match-next.branch [
      | in-None b ↦ absurd (false≢true (subst IsSome b.in-None.is c.next.ensures.steps))
      | in-Some+then-is_over b ↦ b.is_over.ensures.over b.if-is_over.true
    ] in
    on_done c.keep.result _ _ (λ keeps. ends_so c.args.worker.now w c.keep.new.worker c.requires c.loop-round.invariant over keeps c.keep.ensures.outs)
    c.keep.ensures.ok

-- if it gives up, it has put only segments
pub returns-clause-put : goal.returns-clause-put
returns-clause-put g c =
    on_fault c.keep.result _
    (gives_up c.args.worker.now c.loop-round.worker _ c.requires c.loop-round.invariant (ap (λ ports. ports.items) c.keep.ensures.outs))
