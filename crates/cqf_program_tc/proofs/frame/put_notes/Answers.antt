use Rattle.std.proofs.Common.{◌==◌, ℕ, ap}
use Rattle.cqf_output.proofs.WriterLemmas.{Puts-as}
use Rattle.cqf_program_tc.specs.Text.{notes_by}
use Rattle.cqf_program_tc.proofs.frame.put_notes.Goals as goal

pub returns : goal.returns
returns g c = Puts-as _ _ (ap (λ (n : ℕ). notes_by (n == 0) c.args.software) c.overhead.ensures.value) c.put_notes_by.ensures
