-- A round has a positive duration, and the instant is in one.
use Rattle.std.proofs.Common.{arith, ap}
use Rattle.std.proofs.lemmas.List.{take_all}
use Rattle.cqf_model.specs.StreamGate.{gate_round}
use Rattle.cqf_gates.specs.StreamGate.{IsStreamList}
use Rattle.cqf_gates.proofs.Intervals.{gate_round_positive}
use Rattle.cqf_gates.proofs.streams.StreamList.interval_at.Goals as goal

pub nonzero_rem-offset : goal.nonzero_rem-offset
nonzero_rem-offset c =
    let facts : IsStreamList c.entries-entries.result.now = rw c.entries-entries.ensures.value c.entries-entries.ensures.facts in
    omega (arith, gate_round_positive c.entries-entries.result.now facts)

pub unreachable-requires : goal.unreachable-requires
unreachable-requires c =
    let entries = c.entries-entries.result.now in
    let facts : IsStreamList entries = rw c.entries-entries.ensures.value c.entries-entries.ensures.facts in
    let whole = ap gate_round (take_all c.loop-index.index entries c.loop-index-test.false) in
    omega (arith, gate_round_positive entries facts, whole)
