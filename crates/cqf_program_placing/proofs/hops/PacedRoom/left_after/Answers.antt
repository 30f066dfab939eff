use Rattle.std.proofs.Common.{◌≡◌, subst}
use Rattle.cqf_admission.specs.Costs.{left_in_active_cycles}
use Rattle.cqf_model.specs.Domain.{Domain}
use Rattle.cqf_model.specs.History.{held_in, seals}
use Rattle.cqf_program_placing.specs.Hops.{hop_after}
use Rattle.cqf_program_placing.proofs.hops.PacedRoom.left_after.Goals as goal

pub returns : goal.returns
returns c =
    let entries = c.args.self.admission.now.entries in
    subst (λ (x : Domain). c.left_at.result.0 ≡ left_in_active_cycles x (held_in x entries (seals entries)) c.args.self.pace (hop_after c.args.before c.args.link))
    c.requires.domain c.left_at.ensures
