use Rattle.std.proofs.Common.{◌+◌, ℕ, ap₂, length, refl, subst, subst₂}
use Rattle.cqf_model.specs.Domain.{Domain, IsAccepted}
use Rattle.cqf_output.proofs.WriterLemmas.{Puts-as, Puts-nothing, Puts-then}
use Rattle.cqf_report.specs.Books.{lines_of_starts}
use Rattle.cqf_trace.specs.declared.traces.Traces.{Traces}
use Rattle.cqf_trace.specs.Traces.{reported_in_cycles, reported_on_links}
use Rattle.cqf_trace.specs.Reporting.{AreIndices}
use Rattle.cqf_program_threads.proofs.PageLines.{starts_more}
use Rattle.cqf_program_threads.proofs.Indices.{first_indices}
use Rattle.cqf_program_threads.proofs.pages_writing.put_starts_of_kind.Goals as goal

-- at first no line is put, and each index is that of its trace's begin
pub loop-cycle-init : goal.loop-cycle-init
loop-cycle-init g c = record {
  indices = first_indices c.args.book.now.domain c.args.kind c.args.book.now.traces _ (subst IsAccepted c.domain.ensures c.know.ensures.accepted) refl;
  puts = Puts-nothing _ refl;
}

-- the next cycle's lines are appended
pub loop-cycle-preserved : goal.loop-cycle-preserved
loop-cycle-preserved g c =
    let book = c.args.book.now in
    let cycle = c.loop-cycle.cycle in
    let kind = c.args.kind in
    record {
      indices = subst₂ (λ (d : Domain) (traces : Traces). AreIndices d kind traces (cycle + 1) c.put_cycle.new.indices) c.domain.ensures
          c.traces.ensures.value c.put_cycle.ensures.following;
      puts = Puts-as _ (lines_of_starts c.args.what.now book.domain (reported_in_cycles book.domain kind book.traces (cycle + 1)))
          (starts_more c.args.what.now book.domain c.domain.result.now
          (λ (k : ℕ). reported_on_links book.domain kind book.traces k (length book.domain.links)) cycle _ c.domain.ensures
          (ap₂ (λ (d : Domain) (traces : Traces). reported_on_links d kind traces cycle (length d.links)) c.domain.ensures c.traces.ensures.value))
          (Puts-then _ _ c.loop-cycle.invariant.puts c.put_cycle.ensures.puts);
    }
