use Rattle.std.proofs.Common.{ℕ, ◌∙◌, List, Ok, Result, ap, sym}
use Rattle.cqf_addressing.specs.Streams.{gate_index}
use Rattle.cqf_addressing.specs.declared.streams.StreamAddress.{StreamAddress}
use Rattle.cqf_lists.specs.Results.{and_then}
use Rattle.cqf_model.specs.declared.topology.Row.{Row}
use Rattle.cqf_model.specs.Domain.{Domain}
use Rattle.cqf_program_tc.specs.Output.{TcScript, text_of_tc}
use Rattle.cqf_program_tc.specs.Text.{tc_text}
use Rattle.cqf_program_tc.proofs.command.script_of.Goals as goal

pub returns-in-Ok-clause-ok : goal.returns-in-Ok-clause-ok
returns-in-Ok-clause-ok c =
    let found = c.args.found in
    let plan = c.in_ok-plan.plan in
    let had = c.in_ok-plan.ensures in
    let ok : List ℕ → Result (List ℕ) (List ℕ) = λ text. Ok text in
    let written : Domain → List StreamAddress → List Row → List ℕ = λ d addresses rows. tc_text d c.args.software (gate_index addresses) rows in
    ap (λ (rows : Result (List Row) (List ℕ)). and_then rows (λ held. ok (written found.domain found.addresses.items held))) had.ok
    ∙ ap (λ (d : Domain). ok (written d found.addresses.items plan.rows.items)) (sym had.domain)
    ∙ ap (λ (addresses : List StreamAddress). ok (written plan.domain addresses plan.rows.items)) (sym had.addresses)
    ∙ ap (λ (script : TcScript). ok (text_of_tc script)) (sym c.in-Ok.ensures)
