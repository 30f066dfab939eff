use Rattle.std.proofs.Common.{◌∙◌, ◌∷◌, [], map, ap, refl, sym}
use Rattle.toml.specs.View.{items_view}
use Rattle.cqf_topology.specs.declared.toml_faults.TomlFault.TheVariants.{Memory}
use Rattle.cqf_traffic.specs.declared.faults.FlowsFault.TheVariants.{Streams}
use Rattle.cqf_topology.proofs.Fronts.{read-more, read-fault, read-all}
use Rattle.cqf_topology.proofs.Refusals.{Gives-residual}
use Rattle.cqf_network.specs.StreamsText.{stream_text, streams_from}
use Rattle.std.proofs.lemmas.List.{map-append}
use Rattle.cqf_network.proofs.streams.all_streams_in.Goals as goal

pub loop-value-preserved : goal.loop-value-preserved
loop-value-preserved c =
    let done = c.loop-value.streams.items in
    let stream = c.in_ok-stream.stream in
    read-more _ (λ values. streams_from (items_view values)) (λ value values. refl) c.args.values.now c.loop-value.value-index
    c.value-item.result c.loop-value-test.true c.value-item.is (map stream_text done) (stream_text stream) _ c.in_ok-stream.ensures
    (ap (map stream_text) c.in_ok-push.ensures.items ∙ map-append stream_text done (stream ∷ []))
    ∙ c.loop-value.invariant

pub returns-in_err-stream : goal.returns-in_err-stream
returns-in_err-stream c =
    let e = c.in_err-stream.field-0.0 in
    Gives-residual (Streams Memory) e (λ streams. map stream_text streams.items) c.from_residual.result _ c.from_residual.ensures.1
    (λ known. sym c.loop-value.invariant
    ∙ read-fault _ (λ values. streams_from (items_view values)) (λ value values. refl) c.args.values.now c.loop-value.value-index
    c.value-item.result c.loop-value-test.true c.value-item.is (map stream_text c.loop-value.streams.items) e (c.in_err-stream.ensures known))

pub returns : goal.returns
returns c =
    sym c.loop-value.invariant
    ∙ read-all (λ values. streams_from (items_view values)) refl c.args.values.now c.loop-value.value-index c.loop-value-test.false
    (map stream_text c.loop-value.streams.items)
