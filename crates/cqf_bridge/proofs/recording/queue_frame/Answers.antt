use Rattle.std.proofs.Common.{◌≡◌, Option, subst, ℕ}
use Rattle.std.proofs.lemmas.Result.{on_ok_weaker}
use Rattle.std.specs.Prelude.{◌==◌, true}
use Rattle.std.specs.List.{list_any}
use Rattle.cqf_model.proofs.Links.{guard_within}
use Rattle.cqf_model.specs.Table.{goes_to}
use Rattle.cqf_bridge.specs.Taking.{received_as}
use Rattle.cqf_bridge.proofs.PolicedVerdicts.{may_record, queued_as}
use Rattle.cqf_bridge.proofs.recording.queue_frame.Goals as goal

pub queue_all-requires-clause-taken : goal.queue_all-requires-clause-taken
queue_all-requires-clause-taken c =
    let x = received_as c.args.frame.now in
    let row = c.args.row.now in
    λ r held goes.
    may_record c.args.domain.now c.args.cycle.0 x row c.args.ports.now.items
    (λ l. guard_within c.args.domain.now l c.know.ensures.accepted) c.gate_gives_class.ensures
    c.queued_frames_wait.ensures c.requires.in_cycle c.requires.waiting _
    (λ i. record { at = c.args.frame.now.at; class = c.requires.class i; octets = x.octets; frame = x.frame }) r held
    (subst (λ (ingress : Option ℕ). list_any (λ next. next == r.link) (goes_to row ingress) ≡ true) c.link.ensures goes)

pub returns : goal.returns
returns c =
    on_ok_weaker c.queue_all.result
    (queued_as c.args.domain.now (received_as c.args.frame.now) c.args.row.now c.args.class c.link.result c.args.ports.now.items _
    c.requires.class c.link.ensures)
    c.queue_all.ensures
