-- The class is open up to the first entry of the rotated list that closes it.
use Rattle.std.proofs.Common.{◌≡◌, take, ap, ◌∙◌, length, arith}
use Rattle.std.proofs.lemmas.List.{length-take}
use Rattle.cqf_model.specs.GateList.{round_of}
use Rattle.cqf_gates.proofs.OpenSpans.{turned_to, run_of_turned, all-open, open-always, open-to_end, run_inside}
use Rattle.cqf_gates.proofs.transmission.TxList.open_for.Goals as goal

-- every entry opens the class
pub returns-then-run-len-clause-span : goal.returns-then-run-len-clause-span
returns-then-run-len-clause-span c =
    let entries = c.args.self.now in
    let index = c.entry_at-index.result.0 in
    let turned : c.turned-turned.result.items ≡ turned_to index entries = c.turned-turned.ensures ∙ ap (turned_to index) c.entries.ensures.value in
    let run = run_of_turned entries c.entries.result.now c.turned-turned.result.items c.as_slice.result.now c.states_of.result.items
    c.as_slice-2.result.now index c.args.class c.open_run-run.result c.entries.ensures.value c.turned-turned.ensures c.as_slice.ensures.value
    c.states_of.ensures c.as_slice-2.ensures.value c.open_run-run.ensures in
    all-open entries c.args.class c.args.t.0 index c.entry_at-index.result.1 c.open_run-run.result c.entries.ensures.facts
    c.entry_at-index.ensures.in_force run (c.if-run-len.true ∙ c.len.ensures.value ∙ ap length turned)

-- so it is always open
pub returns-then-run-len-clause-always : goal.returns-then-run-len-clause-always
returns-then-run-len-clause-always c = λ same.
    let entries = c.args.self.now in
    let index = c.entry_at-index.result.0 in
    let turned : c.turned-turned.result.items ≡ turned_to index entries = c.turned-turned.ensures ∙ ap (turned_to index) c.entries.ensures.value in
    let run = run_of_turned entries c.entries.result.now c.turned-turned.result.items c.as_slice.result.now c.states_of.result.items
    c.as_slice-2.result.now index c.args.class c.open_run-run.result c.entries.ensures.value c.turned-turned.ensures c.as_slice.ensures.value
    c.states_of.ensures c.as_slice-2.ensures.value c.open_run-run.ensures in
    open-always entries c.args.class c.args.t.0 index c.entry_at-index.result.1 c.open_run-run.result c.entries.ensures.facts
    c.entry_at-index.ensures.in_force run (c.if-run-len.true ∙ c.len.ensures.value ∙ ap length turned)

-- the run is no longer than the list
pub slice_bounds-length_of-end : goal.slice_bounds-length_of-end
slice_bounds-length_of-end c =
    let entries = c.args.self.now in
    let index = c.entry_at-index.result.0 in
    let turned : c.turned-turned.result.items ≡ turned_to index entries = c.turned-turned.ensures ∙ ap (turned_to index) c.entries.ensures.value in
    let run = run_of_turned entries c.entries.result.now c.turned-turned.result.items c.as_slice.result.now c.states_of.result.items
    c.as_slice-2.result.now index c.args.class c.open_run-run.result c.entries.ensures.value c.turned-turned.ensures c.as_slice.ensures.value
    c.states_of.ensures c.as_slice-2.ensures.value c.open_run-run.ensures in
    let short = run_inside (turned_to index entries) c.args.class c.open_run-run.result run in
    let sizes : length c.as_slice-3.result.now ≡ length (turned_to index entries) = ap length (c.as_slice-3.ensures.value ∙ turned) in
    omega (arith, length-take c.open_run-run.result c.as_slice-3.result.now)

-- it is open up to the end of the run
pub returns-clause-span : goal.returns-clause-span
returns-clause-span c =
    let entries = c.args.self.now in
    let index = c.entry_at-index.result.0 in
    let turned : c.turned-turned.result.items ≡ turned_to index entries = c.turned-turned.ensures ∙ ap (turned_to index) c.entries.ensures.value in
    let run = run_of_turned entries c.entries.result.now c.turned-turned.result.items c.as_slice.result.now c.states_of.result.items
    c.as_slice-2.result.now index c.args.class c.open_run-run.result c.entries.ensures.value c.turned-turned.ensures c.as_slice.ensures.value
    c.states_of.ensures c.as_slice-2.ensures.value c.open_run-run.ensures in
    let short = run_inside (turned_to index entries) c.args.class c.open_run-run.result run in
    let sizes = ap length turned in
    let taken = ap (λ xs. round_of (take c.open_run-run.result xs)) (c.as_slice-3.ensures.value ∙ turned) in
    open-to_end entries c.args.class c.args.t.0 index c.entry_at-index.result.1 c.open_run-run.result c.entries.ensures.facts
    c.entry_at-index.ensures.in_force run _ (omega arith) (omega arith) (omega (arith, taken))
