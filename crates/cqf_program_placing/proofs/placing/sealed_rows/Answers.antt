use Rattle.std.proofs.Common.{◌∙◌}
use Rattle.cqf_program_placing.proofs.IndexLemmas.{sound_rows}
use Rattle.cqf_program_placing.proofs.placing.sealed_rows.Goals as goal

pub returns-clause-sound : goal.returns-clause-sound
returns-clause-sound c =
    sound_rows c.args.admission c.in_ok-rows.rows.items c.state_follows_history.ensures.held c.know.ensures.legal c.requires
    (c.in_ok-rows.ensures.rows ∙ c.in-Ok.ensures.lets_go.rows)
