use Rattle.std.proofs.Common.{◌∙◌, ◌++◌, ℕ, List, ap, codes, subst, sym}
use Rattle.std.proofs.lemmas.Grind.{flat_map-append}
use Rattle.cqf_model.specs.Book.{starts_of}
use Rattle.cqf_model.specs.declared.frames.Started.{Started}
use Rattle.cqf_instants.specs.Progress.{IsBasisOf, starts_of_cycle}
use Rattle.cqf_instants.proofs.Steps.{starts_more}
use Rattle.cqf_output.proofs.WriterLemmas.{Puts-as, Puts-then}
use Rattle.cqf_report.specs.Books.{lines_of_starts, started_fields}
use Rattle.cqf_report.specs.Written.{line_of_fields}
use Rattle.cqf_program_scenario.proofs.exact_books.put_starts_of_pass.Goals as goal

pub loop-writer-preserved : goal.loop-writer-preserved
loop-writer-preserved g c =
    let next = c.next_cycle.ensures.next c.loop-writer-test.true in
    let so_far = c.loop-writer.invariant in
    let lines = lines_of_starts (codes "start") c.args.domain.now in
    record {
      basis = next.basis ∙ so_far.basis;
      puts = λ given is.
          let reported = starts_of given.run.domain c.loop-writer.pass.reported given.net.carried in
          let here = starts_of_cycle given c.loop-writer.pass.reported in
          Puts-as (lines reported ++ lines c.starts.result.now) (lines (starts_of given.run.domain c.next_cycle.new.self.reported given.net.carried))
          (ap (λ (xs : List Started). lines reported ++ lines xs) (c.starts.ensures ∙ next.starts given (subst (IsBasisOf given) (sym so_far.basis) is))
          ∙ sym (flat_map-append (λ (started : Started). line_of_fields (started_fields (codes "start") c.args.domain.now started)) reported here)
          ∙ ap lines (starts_more given c.loop-writer.pass.reported ∙ ap (λ (n : ℕ). starts_of given.run.domain n given.net.carried) (sym next.reported)))
          (Puts-then (lines reported) (lines c.starts.result.now) (so_far.puts given is) c.put_starts.ensures);
    }
