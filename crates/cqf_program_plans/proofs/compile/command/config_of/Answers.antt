-- Held streams have good paces.
use Rattle.std.proofs.Common.{ℕ, ◌∙◌, List, Ok, Result, ap, sym}
use Rattle.cqf_compile.specs.ConfigText.{config_text}
use Rattle.cqf_lists.specs.Results.{and_then}
use Rattle.cqf_model.specs.declared.topology.Row.{Row}
use Rattle.cqf_model.specs.History.{Recorded, held_in}
use Rattle.cqf_program_plans.specs.Compile.Gated.{gated_rows}
use Rattle.cqf_program_plans.specs.Compile.Written.{ConfiguredPlan, text_of_config}
use Rattle.cqf_program_plans.proofs.compile.command.config_of.Goals as goal

pub config_ready-requires-clause-paced : goal.config_ready-requires-clause-paced
config_ready-requires-clause-paced c = c.in_ok-rows.ensures.good

pub returns-in-Ok-clause-ok : goal.returns-in-Ok-clause-ok
returns-in-Ok-clause-ok c =
    let d = c.args.domain.now in
    let held = c.in_ok-rows.ensures.held in
    let reported : List Row → Result (List ℕ) (List ℕ) = λ rows. Ok (config_text d (gated_rows c.args.edge_gates rows)) in
    let written_of : ConfiguredPlan → Result (List ℕ) (List ℕ) = λ plan. Ok (text_of_config plan) in
    ap (λ (entries : Result (List Recorded) (List ℕ)). and_then entries (λ e. reported (held_in d e 0))) held.admitted
    ∙ ap reported (sym held.held)
    ∙ ap written_of (sym c.in-Ok.ensures)
