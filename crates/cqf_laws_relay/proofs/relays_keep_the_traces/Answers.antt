use Rattle.cqf_laws_relay.proofs.Traced.{relays_keep_the_traces}
use Rattle.cqf_laws_relay.proofs.relays_keep_the_traces.Goals as goal

pub returns : goal.returns
returns c = relays_keep_the_traces c.dropped_are_the_runs.ensures c.relays_follow_the_network.ensures
