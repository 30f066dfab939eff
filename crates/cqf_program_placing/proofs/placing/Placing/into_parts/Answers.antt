use Rattle.std.proofs.Common.{ℕ, subst}
use Rattle.cqf_laws_history.specs.StateLaws.{AreHeld}
use Rattle.cqf_program_placing.specs.Placing.{PlacedStreams}
use Rattle.cqf_program_placing.proofs.placing.Placing.into_parts.Goals as goal

pub returns-clause-sound : goal.returns-clause-sound
returns-clause-sound c =
    subst (λ (v : PlacedStreams). (next : ℕ) × AreHeld v.domain c.in_ok-domain.rows.items next 0) c.self.view_is c.in_ok-domain.ensures.sound
