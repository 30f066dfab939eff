use Rattle.std.proofs.Common.{◌+◌, ℕ, ap₂, length, refl, subst, subst₂}
use Rattle.cqf_model.specs.Domain.{Domain, IsAccepted}
use Rattle.cqf_output.proofs.WriterLemmas.{Puts-as, Puts-nothing, Puts-then}
use Rattle.cqf_report.specs.Books.{lines_of_drops}
use Rattle.cqf_trace.specs.declared.traces.Traces.{Traces}
use Rattle.cqf_trace.specs.Traces.{drops_at_bridges, drops_in_cycles}
use Rattle.cqf_trace.specs.Reporting.{AreDropIndices}
use Rattle.cqf_program_threads.proofs.PageLines.{drops_more}
use Rattle.cqf_program_threads.proofs.Indices.{first_drop_indices}
use Rattle.cqf_program_threads.proofs.pages_writing.put_all_drops.Goals as goal

-- at first no line is put, and each index is that of its bridge's first drop
pub loop-cycle-init : goal.loop-cycle-init
loop-cycle-init g c = record {
  indices = first_drop_indices c.args.book.now.domain c.args.book.now.traces _ (subst IsAccepted c.domain-domain.ensures c.know.ensures.accepted) refl;
  puts = Puts-nothing _ refl;
}

-- the next cycle's lines are appended
pub loop-cycle-preserved : goal.loop-cycle-preserved
loop-cycle-preserved g c =
    let book = c.args.book.now in
    let cycle = c.loop-cycle.cycle in
    record {
      indices = subst₂ (λ (d : Domain) (traces : Traces). AreDropIndices d traces (cycle + 1) c.put_drops_of_cycle.new.indices) c.domain-domain.ensures
          c.traces.ensures.value c.put_drops_of_cycle.ensures.following;
      puts = Puts-as _ (lines_of_drops book.domain (drops_in_cycles book.domain book.traces (cycle + 1)))
          (drops_more book.domain c.domain-domain.result.now (λ (k : ℕ). drops_at_bridges book.traces k (length book.domain.bridges)) cycle _
          c.domain-domain.ensures
          (ap₂ (λ (d : Domain) (traces : Traces). drops_at_bridges traces cycle (length d.bridges)) c.domain-domain.ensures c.traces.ensures.value))
          (Puts-then _ _ c.loop-cycle.invariant.puts c.put_drops_of_cycle.ensures.puts);
    }
