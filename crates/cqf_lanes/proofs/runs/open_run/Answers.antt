use Rattle.std.proofs.Common.{arith, refl}
use Rattle.std.proofs.lemmas.List.Sums.{prefix_len-le-length}
use Rattle.cqf_lanes.specs.Kernels.{has_bit}
use Rattle.cqf_lanes.proofs.OpenRuns.{run_ends_in_chunk, run_goes_on, run_of_rest}
use Rattle.cqf_lanes.proofs.runs.open_run.Goals as goal

-- one of the sixteen closes the class
pub returns-then-closed-ne0 : goal.returns-then-closed-ne0
returns-then-closed-ne0 c = run_ends_in_chunk c.args.class c.loop-done.done c.closed_from-closed.result c.args.states.now (omega arith)
    c.loop-done.invariant.opened c.closed_from-closed.ensures (omega arith)

-- none of the sixteen closes the class
pub loop-done-preserved : goal.loop-done-preserved
loop-done-preserved c = record {
  inside = omega arith;
  opened = run_goes_on c.args.class c.loop-done.done c.closed_from-closed.result c.args.states.now (omega arith) c.loop-done.invariant.opened
      c.closed_from-closed.ensures (omega arith);
}

-- the run continues with that of the rest
pub returns : goal.returns
returns c = run_of_rest c.args.class c.loop-done.done c.open_run_plain.result c.args.states.now _ c.loop-done.invariant.inside refl
    c.loop-done.invariant.opened c.open_run_plain.ensures

-- the run is no longer than the list of entries
pub overflow_add-result-2 : goal.overflow_add-result-2
overflow_add-result-2 c =
    let whole = run_of_rest c.args.class c.loop-done.done c.open_run_plain.result c.args.states.now _ c.loop-done.invariant.inside refl
    c.loop-done.invariant.opened c.open_run_plain.ensures in
    let most = prefix_len-le-length (λ gates. has_bit gates c.args.class) c.args.states.now in
    record { fits = omega (arith, whole, most) }
