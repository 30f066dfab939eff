use Rattle.std.proofs.Common.{◌∙◌, ◌++◌, ◌∷◌, []}
use Rattle.std.specs.Prelude.{decimal}
use Rattle.std.specs.Option.{option_map_or}
use Rattle.cqf_program_plans.specs.Load.Text.{percentage_text}
use Rattle.cqf_program_planning.specs.Choosing.{candidate_fault_text}
use Rattle.cqf_program_planning.specs.TableText.{slack_text, stream_of_slack}
use Rattle.cqf_program_planning.proofs.TextLemmas.{eight_fields}
use Rattle.cqf_program_planning.proofs.table.candidate_line.Goals as goal

-- the halves make the line
pub returns : goal.returns
returns c =
    let candidate = c.args.candidate.now in
    c.in_ok-line.ensures.ok
    ∙ (λ i. c.in_ok-held.ensures i ++ (44 ∷ (c.in_ok-tight.ensures i ++ 10 ∷ [])))
    ∙ eight_fields (decimal candidate.cycle_time) (decimal candidate.placed) (decimal c.args.streams) (option_map_or percentage_text candidate.used [])
    (decimal candidate.late) (stream_of_slack candidate.tightest) (slack_text candidate.tightest) (option_map_or candidate_fault_text candidate.fault [])
