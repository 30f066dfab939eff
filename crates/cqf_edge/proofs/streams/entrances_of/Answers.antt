use Rattle.std.proofs.Common.{◌∙◌, map, refl, sym}
use Rattle.std.proofs.lemmas.List.Elements.{All-push, All-same}
use Rattle.cqf_topology.proofs.Fronts.{read-more, read-fault, read-all}
use Rattle.cqf_topology.proofs.Refusals.{Gives-residual}
use Rattle.cqf_network.specs.StreamsText.{stream_text}
use Rattle.cqf_edge.specs.declared.faults.EdgeFault.TheVariants.{Memory}
use Rattle.cqf_edge.specs.EdgeStreams.{IsEntranceOne, entrances_of}
use Rattle.cqf_edge.proofs.Mapped.{one_longer}
use Rattle.cqf_edge.proofs.streams.entrances_of.Goals as goal

pub loop-stream-preserved : goal.loop-stream-preserved
loop-stream-preserved c =
    let network = c.args.network.now in
    let done = c.loop-stream.entrances.items in
    let one = c.in_ok-entrance.entrance in (
      read-more _ (λ streams. entrances_of network (map stream_text streams)) (λ stream streams. refl) c.args.streams.now c.loop-stream.stream-index
          c.stream-item.result c.loop-stream-test.true c.stream-item.is done one _ (sym c.in_ok-entrance.ensures.value) c.in_ok-push.ensures.items
          ∙ c.loop-stream.invariant.0,
      All-same (IsEntranceOne network) _ _ c.in_ok-push.ensures.items
          (All-push (IsEntranceOne network) done one c.loop-stream.invariant.1 c.in_ok-entrance.ensures.inside),
      one_longer done _ one c.loop-stream.stream-index c.in_ok-push.ensures.items c.loop-stream.invariant.2,
    )

pub returns-in_err-entrance-clause-value : goal.returns-in_err-entrance-clause-value
returns-in_err-entrance-clause-value c =
    let network = c.args.network.now in
    let e = c.in_err-entrance.field-0.0 in
    Gives-residual Memory e (λ entrances. entrances.items) c.from_residual-in_err-entrance.result _ c.from_residual-in_err-entrance.ensures.1
    (λ _. sym c.loop-stream.invariant.0
    ∙ read-fault _ (λ streams. entrances_of network (map stream_text streams)) (λ stream streams. refl) c.args.streams.now c.loop-stream.stream-index
    c.stream-item.result c.loop-stream-test.true c.stream-item.is c.loop-stream.entrances.items e (sym c.in_err-entrance.ensures.value))

pub returns-clause-value : goal.returns-clause-value
returns-clause-value c =
    let network = c.args.network.now in
    sym c.loop-stream.invariant.0
    ∙ read-all (λ streams. entrances_of network (map stream_text streams)) refl c.args.streams.now c.loop-stream.stream-index c.loop-stream-test.false
    c.loop-stream.entrances.items
