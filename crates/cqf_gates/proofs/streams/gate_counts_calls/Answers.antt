-- The law is a lemma of intervals.
use Rattle.cqf_gates.proofs.Intervals.{decides_by_calls}
use Rattle.cqf_gates.proofs.streams.gate_counts_calls.Goals as goal

pub returns-clause-decides : goal.returns-clause-decides
returns-clause-decides c = decides_by_calls
