use Rattle.std.proofs.Common.{◌∙◌, ap, length, map}
use Rattle.std.proofs.lemmas.List.Elements.{All-same}
use Rattle.cqf_network.specs.StreamsText.{stream_text}
use Rattle.cqf_edge.specs.EdgeFlows.{IsHandedOne}
use Rattle.cqf_edge.specs.EdgeStreams.{IsEntranceOne, IsWrittenStream}
use Rattle.cqf_edge.proofs.streams.edge_streams.Goals as goal

pub handed_at_each-requires-clause-each : goal.handed_at_each-requires-clause-each
handed_at_each-requires-clause-each c = ap length c.as_slice-all_entrances.ensures.value ∙ c.in_ok-entrances.ensures.each

pub handed_at_each-requires-clause-inside : goal.handed_at_each-requires-clause-inside
handed_at_each-requires-clause-inside c =
    All-same (IsEntranceOne c.args.network.now) _ _ c.as_slice-all_entrances.ensures.value c.in_ok-entrances.ensures.inside

pub handed_at_each-requires-clause-written : goal.handed_at_each-requires-clause-written
handed_at_each-requires-clause-written c = All-same IsWrittenStream _ _ (ap (map stream_text) c.as_slice-wanted.ensures.value) c.requires

pub streams_from-requires-clause-entrances : goal.streams_from-requires-clause-entrances
streams_from-requires-clause-entrances c =
    All-same (IsEntranceOne c.args.network.now) _ _ c.as_slice-all_entrances.ensures.value c.in_ok-entrances.ensures.inside

pub streams_from-requires-clause-handed : goal.streams_from-requires-clause-handed
streams_from-requires-clause-handed c =
    All-same (IsHandedOne c.args.network.now) _ _ c.as_slice-all_handed.ensures.value c.in_ok-handed.ensures.inside

pub streams_from-requires-clause-each_entrance : goal.streams_from-requires-clause-each_entrance
streams_from-requires-clause-each_entrance c =
    ap length c.as_slice-all_entrances.ensures.value ∙ c.in_ok-entrances.ensures.each ∙ ap length c.as_slice-wanted.ensures.value

pub streams_from-requires-clause-each_handed : goal.streams_from-requires-clause-each_handed
streams_from-requires-clause-each_handed c =
    ap length c.as_slice-all_handed.ensures.value ∙ c.in_ok-handed.ensures.each ∙ ap length c.as_slice-wanted.ensures.value
