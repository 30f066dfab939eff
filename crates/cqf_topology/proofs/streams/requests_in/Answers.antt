use Rattle.std.proofs.Common.{◌∙◌, ◌∷◌, [], map, ap, refl, sym}
use Rattle.toml.specs.View.{items_view}
use Rattle.cqf_topology.specs.declared.keys.Key.TheVariants.{Streams}
use Rattle.cqf_topology.specs.declared.toml_faults.TomlFault.TheVariants.{Memory}
use Rattle.cqf_topology.specs.Fields.{tables_from}
use Rattle.cqf_topology.specs.StreamsText.{request_from, request_text}
use Rattle.cqf_topology.proofs.Fronts.{read-more, read-fault, read-all}
use Rattle.cqf_topology.proofs.Refusals.{Gives-residual}
use Rattle.std.proofs.lemmas.List.{map-append}
use Rattle.cqf_topology.proofs.streams.requests_in.Goals as goal

pub loop-value-preserved : goal.loop-value-preserved
loop-value-preserved c =
    let done = c.loop-value.requests.items in
    let request = c.in_ok-request.request in
    read-more _ (λ values. tables_from Streams request_from (items_view values)) (λ value values. refl) c.args.values.now c.loop-value.value-index
    c.value-item.result c.loop-value-test.true c.value-item.is (map request_text done) (request_text request) _ c.in_ok-request.ensures
    (ap (map request_text) c.in_ok-push.ensures.items ∙ map-append request_text done (request ∷ []))
    ∙ c.loop-value.invariant

pub returns-in_err-request : goal.returns-in_err-request
returns-in_err-request c =
    let e = c.in_err-request.field-0.0 in
    Gives-residual Memory e (λ requests. map request_text requests.items) c.from_residual.result _ c.from_residual.ensures.1
    (λ known. sym c.loop-value.invariant
    ∙ read-fault _ (λ values. tables_from Streams request_from (items_view values)) (λ value values. refl) c.args.values.now c.loop-value.value-index
    c.value-item.result c.loop-value-test.true c.value-item.is (map request_text c.loop-value.requests.items) e (c.in_err-request.ensures known))

pub returns : goal.returns
returns c =
    sym c.loop-value.invariant
    ∙ read-all (λ values. tables_from Streams request_from (items_view values)) refl c.args.values.now c.loop-value.value-index c.loop-value-test.false
    (map request_text c.loop-value.requests.items)
