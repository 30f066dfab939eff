use Rattle.std.proofs.Common.{ℕ, subst}
use Rattle.std.specs.Result.{IfOk}
use Rattle.cqf_laws_history.specs.StateLaws.{AreHeld}
use Rattle.cqf_program_placing.specs.Placing.{PlacedStreams}
use Rattle.cqf_program_placing.proofs.placing.Placing.into_rows.Goals as goal

pub returns-clause-sound : goal.returns-clause-sound
returns-clause-sound c =
    subst (λ (v : PlacedStreams). IfOk c.sealed_rows.result (λ parts. (next : ℕ) × AreHeld v.domain parts.1.items next 0)) c.self.view_is
    c.sealed_rows.ensures.sound
