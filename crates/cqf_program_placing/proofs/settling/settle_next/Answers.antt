use Rattle.std.proofs.Common.{◌≡◌, ◌∙◌, ap, refl, subst, sym, true}
use Rattle.cqf_units.specs.Name.{is_name}
use Rattle.cqf_topology.specs.Fields.{Gives}
use Rattle.cqf_network.specs.StreamsText.{stream_text}
use Rattle.cqf_program_placing.specs.declared.settled.Unsettled.TheVariants as unsettled
use Rattle.cqf_program_placing.specs.Settled.{settled_value}
use Rattle.cqf_program_placing.proofs.SettledLemmas.{named_settled}
use Rattle.cqf_program_placing.proofs.settling.settle_next.Goals as goal

-- its name has the form of one
pub returns-in-Some : goal.returns-in-Some
returns-in-Some c =
    let text = stream_text c.args.stream in
    let same : text.name ≡ c.in-Some.name = sym (c.in-Some.ensures.value ∙ c.as_bytes.ensures.value) in
    let form : is_name c.in-Some.name ≡ true = ap is_name c.in-Some.ensures.value ∙ c.in-Some.ensures.form.0 refl in
    subst (Gives unsettled.Memory settled_value c.settle_named.result)
    (sym (named_settled c.args.at.network.now c.args.at.plan.now c.args.held.now.keys text c.in-Some.name same form)) c.settle_named.ensures
