use Rattle.std.proofs.Common.{◌∙◌, ap, length}
use Rattle.std.proofs.lemmas.List.Elements.{All-same}
use Rattle.cqf_edge.specs.EdgeFlows.{IsPassageOne}
use Rattle.cqf_edge.proofs.flows.edges_with.Goals as goal

pub passages_of-requires-clause-each : goal.passages_of-requires-clause-each
passages_of-requires-clause-each c = ap length c.as_slice-all_bounds.ensures.value ∙ c.in_ok-bounds.ensures.each

pub times_of-requires : goal.times_of-requires
times_of-requires c = All-same IsPassageOne _ _ c.as_slice-all_passages.ensures.value c.in_ok-passages.ensures.ready

pub flows_at_edge-requires-clause-ready : goal.flows_at_edge-requires-clause-ready
flows_at_edge-requires-clause-ready c = All-same IsPassageOne _ _ c.as_slice-all_passages.ensures.value c.in_ok-passages.ensures.ready

pub full_station-full-requires : goal.full_station-full-requires
full_station-full-requires c = ap length c.as_slice-all_bounds.ensures.value ∙ c.in_ok-bounds.ensures.each
