use Rattle.std.proofs.Common.{◌≡◌, ◌∙◌, [], sym}
use Rattle.std.specs.Vec.Iter.{into_iter_items}
use Rattle.std.proofs.lemmas.List.{nil_from_length}
use Rattle.cqf_trace.proofs.Rows.{drops_on, rows_taken, traces_on}
use Rattle.cqf_trace.proofs.gathering.taken_apart.Goals as goal

-- in the end no bridge trace is left
pub returns-clause-traces : goal.returns-clause-traces
returns-clause-traces c = λ bridge.
    let left = into_iter_items c.loop-bridge_trace.bridge_trace-iterator in
    let none : left ≡ [] = nil_from_length left (sym c.loop-bridge_trace.bridge_trace-iterator.rest.ok.0 ∙ c.in-None.ensures.steps.0) in
    rows_taken traces_on c.loop-bridge_trace.traces.items left c.args.bridge_traces.items bridge c.loop-bridge_trace.invariant.0 none

pub returns-clause-drops : goal.returns-clause-drops
returns-clause-drops c = λ bridge.
    let left = into_iter_items c.loop-bridge_trace.bridge_trace-iterator in
    let none : left ≡ [] = nil_from_length left (sym c.loop-bridge_trace.bridge_trace-iterator.rest.ok.0 ∙ c.in-None.ensures.steps.0) in
    rows_taken drops_on c.loop-bridge_trace.drops.items left c.args.bridge_traces.items bridge c.loop-bridge_trace.invariant.1 none
