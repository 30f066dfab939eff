use Rattle.std.proofs.Common.{◌∙◌, ◌∷◌, [], map, ap, refl, sym}
use Rattle.toml.specs.View.{items_view}
use Rattle.cqf_topology.specs.declared.keys.Key.TheVariants.{Streams}
use Rattle.cqf_topology.specs.declared.toml_faults.TomlFault.TheVariants.{Memory}
use Rattle.cqf_topology.specs.Fields.{tables_from}
use Rattle.cqf_topology.specs.PlannedText.{planned_from, planned_text}
use Rattle.cqf_topology.proofs.Fronts.{read-more, read-fault, read-all}
use Rattle.cqf_topology.proofs.Refusals.{Gives-residual}
use Rattle.std.proofs.lemmas.List.{map-append}
use Rattle.cqf_topology.proofs.planned.all_planned_in.Goals as goal

pub loop-value-preserved : goal.loop-value-preserved
loop-value-preserved c =
    let done = c.loop-value.streams.items in
    let planned = c.in_ok-planned.planned in
    read-more _ (λ values. tables_from Streams planned_from (items_view values)) (λ value values. refl) c.args.values.now c.loop-value.value-index
    c.value-item.result c.loop-value-test.true c.value-item.is (map planned_text done) (planned_text planned) _ c.in_ok-planned.ensures
    (ap (map planned_text) c.in_ok-push.ensures.items ∙ map-append planned_text done (planned ∷ []))
    ∙ c.loop-value.invariant

pub returns-in_err-planned : goal.returns-in_err-planned
returns-in_err-planned c =
    let e = c.in_err-planned.field-0.0 in
    Gives-residual Memory e (λ streams. map planned_text streams.items) c.from_residual.result _ c.from_residual.ensures.1
    (λ known. sym c.loop-value.invariant
    ∙ read-fault _ (λ values. tables_from Streams planned_from (items_view values)) (λ value values. refl) c.args.values.now c.loop-value.value-index
    c.value-item.result c.loop-value-test.true c.value-item.is (map planned_text c.loop-value.streams.items) e (c.in_err-planned.ensures known))

pub returns : goal.returns
returns c =
    sym c.loop-value.invariant
    ∙ read-all (λ values. tables_from Streams planned_from (items_view values)) refl c.args.values.now c.loop-value.value-index c.loop-value-test.false
    (map planned_text c.loop-value.streams.items)
