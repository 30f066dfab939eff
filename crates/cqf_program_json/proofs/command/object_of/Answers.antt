use Rattle.std.proofs.Common.{ℕ, ◌≡◌, ◌∙◌, List, Ok, Result, ap, sym}
use Rattle.cqf_lists.specs.Results.{and_then}
use Rattle.cqf_addressing.specs.declared.links.LinkInterfaces.{LinkInterfaces}
use Rattle.cqf_addressing.specs.declared.streams.StreamAddress.{StreamAddress}
use Rattle.cqf_model.specs.declared.topology.Row.{Row}
use Rattle.cqf_model.specs.History.{Recorded, held_in}
use Rattle.cqf_program_plans.specs.Compile.Gated.{gated_rows}
use Rattle.cqf_program_json.specs.Output.{AddressedPlan, addressing_of, text_of_json}
use Rattle.cqf_program_json.specs.Text.{json_text}
use Rattle.cqf_program_json.proofs.command.object_of.Goals as goal

pub returns-in-Ok-clause-ok : goal.returns-in-Ok-clause-ok
returns-in-Ok-clause-ok c =
    let d = c.args.domain in
    let held = c.in_ok-rows.ensures.held in
    let found = addressing_of c.args.limits c.args.domain_text.now c.args.streams_text.now in
    let written : List StreamAddress → List LinkInterfaces → List Row → Result (List ℕ) (List ℕ) = λ addresses links rows.
    Ok (json_text d addresses links (gated_rows c.args.edge_gates rows)) in
    let written_of : AddressedPlan → Result (List ℕ) (List ℕ) = λ plan. Ok (text_of_json plan) in
    ap (λ (entries : Result (List Recorded) (List ℕ)). and_then entries (λ e. and_then found (λ a. written a.1 a.0 (held_in d e 0)))) held.admitted
    ∙ ap (λ (addressing : Result (List LinkInterfaces × List StreamAddress) (List ℕ)). and_then addressing (λ a. written a.1 a.0 (held_in d held.entries 0)))
    c.in_ok-links.ensures.ok
    ∙ ap (written c.in_ok-links.addresses.items c.in_ok-links.links.items) (sym held.held)
    ∙ ap written_of (sym c.in-Ok.ensures)
