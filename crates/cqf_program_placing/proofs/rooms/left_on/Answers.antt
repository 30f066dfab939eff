use Rattle.std.proofs.Common.{◌≡◌, ◌∙◌, ap, subst}
use Rattle.cqf_model.specs.declared.topology.Pace.{Pace}
use Rattle.cqf_model.specs.Domain.{Domain}
use Rattle.cqf_model.specs.History.{held_in, seals}
use Rattle.cqf_admission.specs.Costs.{left_in_active_cycles}
use Rattle.cqf_program_placing.specs.ActiveCycles.{hop_at}
use Rattle.cqf_program_placing.proofs.Emptiest.{emptiest_more}
use Rattle.cqf_program_placing.proofs.rooms.left_on.Goals as goal

-- one more phase is checked
pub loop-phase-preserved : goal.loop-phase-preserved
loop-phase-preserved c =
    let d = c.args.domain.now in
    let entries = c.args.admission.now.entries in
    let left = c.left_at-left.result.0 in
    let there : left ≡ left_in_active_cycles d (held_in d entries (seals entries)) c.pace_by.result (hop_at c.args.link) =
    subst (λ (x : Domain). left ≡ left_in_active_cycles x (held_in x entries (seals entries)) c.pace_by.result (hop_at c.args.link)) c.requires.domain
    c.left_at-left.ensures in
    emptiest_more d (held_in d entries (seals entries)) c.args.every c.args.link c.loop-phase.phase c.loop-phase.most left c.max-most.result
    c.loop-phase.invariant
    (there ∙ ap (λ (pace : Pace). left_in_active_cycles d (held_in d entries (seals entries)) pace (hop_at c.args.link)) c.pace_by.ensures) c.max-most.ensures
