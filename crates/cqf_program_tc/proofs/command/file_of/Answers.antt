use Rattle.std.proofs.Common.{ℕ, ◌∙◌, List, Ok, Result, ap, sym}
use Rattle.cqf_addressing.specs.declared.links.LinkInterfaces.{LinkInterfaces}
use Rattle.cqf_addressing.specs.declared.streams.StreamAddress.{StreamAddress}
use Rattle.cqf_lists.specs.Results.{and_then}
use Rattle.cqf_model.specs.declared.topology.Row.{Row}
use Rattle.cqf_model.specs.Domain.{Domain}
use Rattle.cqf_program_tc.specs.Env.{env_text}
use Rattle.cqf_program_tc.specs.Output.{EnvFile, bridge_named, text_of_env}
use Rattle.cqf_program_tc.proofs.command.file_of.Goals as goal

pub returns-in-Ok-clause-ok : goal.returns-in-Ok-clause-ok
returns-in-Ok-clause-ok c =
    let found = c.args.found in
    let plan = c.in_ok-plan.plan in
    let had = c.in_ok-plan.ensures in
    let interfaces = found.interfaces.items in
    let addresses = found.addresses.items in
    let rows = plan.rows.items in
    let bridge = c.in_ok-bridge.bridge in
    let ok : List ℕ → Result (List ℕ) (List ℕ) = λ text. Ok text in
    let written : Domain → List Row → Result ℕ (List ℕ) → Result (List ℕ) (List ℕ) =
    λ d held index. and_then index (λ here. ok (env_text d interfaces addresses held here)) in
    ap (λ (held : Result (List Row) (List ℕ)). and_then held (λ them. written found.domain them (bridge_named found.domain c.args.name.now))) had.ok
    ∙ ap (λ (d : Domain). written d rows (bridge_named d c.args.name.now)) (sym had.domain)
    ∙ ap (written plan.domain rows) c.in_ok-bridge.ensures.ok
    ∙ ap (λ (them : List LinkInterfaces). ok (env_text plan.domain them addresses rows bridge)) (sym had.interfaces)
    ∙ ap (λ (them : List StreamAddress). ok (env_text plan.domain plan.interfaces.items them rows bridge)) (sym had.addresses)
    ∙ ap (λ (file : EnvFile). ok (text_of_env file)) (sym c.in-Ok.ensures)
