use Rattle.std.proofs.Common.{ℕ, ◌∙◌, [], List, Ok, Result, ap, map, sym}
use Rattle.cqf_lists.specs.Results.{and_then}
use Rattle.cqf_admission.specs.Asking.{asked_paced}
use Rattle.cqf_program_plans.specs.Compile.Gated.{gated_rows}
use Rattle.cqf_program_plans.specs.Compile.Output.{admitted_from}
use Rattle.cqf_topology.specs.declared.paced.PacedRequest.{PacedRequest}
use Rattle.cqf_model.specs.declared.topology.Row.{Row}
use Rattle.cqf_model.specs.History.{Recorded, held_in}
use Rattle.cqf_program_tc.proofs.command.plan_of.Goals as goal

-- held streams have good paces, and ascending numbers
pub plan_gated-requires-clause-paced : goal.plan_gated-requires-clause-paced
plan_gated-requires-clause-paced c = c.in_ok-rows.ensures.good

pub plan_gated-requires-clause-numbers : goal.plan_gated-requires-clause-numbers
plan_gated-requires-clause-numbers c = c.in_ok-rows.ensures.sound.1.numbers

pub returns-in-Ok-clause-ok : goal.returns-in-Ok-clause-ok
returns-in-Ok-clause-ok c =
    let d = c.args.found.domain in
    let held = c.in_ok-rows.ensures.held in
    let ok : List Row → Result (List Row) (List ℕ) = λ rows. Ok rows in
    let found : List Row → Result (List Row) (List ℕ) = λ rows. ok (gated_rows c.args.edge_gates rows) in
    ap (λ (requests : List PacedRequest). and_then (admitted_from d [] 1 (map asked_paced requests)) (λ e. found (held_in d e 0))) (sym c.as_slice.ensures.value)
    ∙ ap (λ (entries : Result (List Recorded) (List ℕ)). and_then entries (λ e. found (held_in d e 0))) held.admitted
    ∙ ap found (sym held.held)
    ∙ ap ok (sym c.in-Ok.ensures.rows)
