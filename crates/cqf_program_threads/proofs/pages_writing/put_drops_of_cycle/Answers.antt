use Rattle.std.proofs.Common.{◌+◌, ◌∙◌, ℕ, List, ap, arith, filter, length, refl, set, subst, sym}
use Rattle.cqf_model.specs.declared.frames.Dropped.{Dropped}
use Rattle.cqf_output.proofs.WriterLemmas.{Puts-as, Puts-nothing, Puts-then}
use Rattle.cqf_report.specs.Books.{lines_of_drops}
use Rattle.cqf_trace.specs.Traces.{IsDropsEndBefore, drops_at, drops_at_bridges, is_drop_in}
use Rattle.cqf_program_threads.proofs.PageLines.{drops_more}
use Rattle.cqf_program_threads.proofs.Indices.{AreAfterBridges, bridges_begin, ends_by_bridge, one_gone}
use Rattle.cqf_program_threads.proofs.pages_writing.put_drops_of_cycle.Goals as goal

-- at first no line is put
pub loop-bridge-init : goal.loop-bridge-init
loop-bridge-init g c = record {
  indices = bridges_begin c.args.domain.now c.args.traces.now c.args.indices.now c.args.cycle.0 c.requires.before;
  puts = Puts-nothing _ refl;
}

-- the next bridge's lines are appended, and its index is after the cycle
pub loop-bridge-preserved : goal.loop-bridge-preserved
loop-bridge-preserved g c =
    let d = c.args.domain.now in
    let traces = c.args.traces.now in
    let cycle = c.args.cycle.0 in
    let bridge = c.loop-bridge.bridge in
    let end = c.drops_end_of-end.result in
    let placed : AreAfterBridges d traces cycle (bridge + 1) (set c.loop-bridge.indices bridge end) =
    one_gone (ends_by_bridge traces cycle) (ends_by_bridge traces (cycle + 1)) (length d.bridges) c.loop-bridge.indices bridge end
    (omega (arith, c.loop-bridge-test.true, c.bridges-bridge-end.ensures)) c.loop-bridge.invariant.indices
    (subst (λ (drops : List Dropped). IsDropsEndBefore (cycle + 1) drops end) c.drops-drops.ensures c.drops_end_of-end.ensures.following) in
    record {
      indices = subst (λ (index : ℕ). AreAfterBridges d traces cycle (bridge + 1) (set c.loop-bridge.indices index end))
          (sym c.from-index.ensures) placed;
      puts = Puts-as _ (lines_of_drops d (drops_at_bridges traces cycle (bridge + 1)))
          (drops_more d d (λ (b : ℕ). filter (is_drop_in cycle) (drops_at traces b)) bridge _ refl
          (sym c.drops_end_of-end.ensures.of_cycle ∙ ap (filter (is_drop_in cycle)) c.drops-drops.ensures))
          (Puts-then _ _ c.loop-bridge.invariant.puts c.put_drops.ensures);
    }
