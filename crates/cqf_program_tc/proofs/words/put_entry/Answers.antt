use Rattle.cqf_output.proofs.WriterLemmas.{Puts-then}
use Rattle.cqf_program_tc.proofs.words.put_entry.Goals as goal

pub returns-clause-words : goal.returns-clause-words
returns-clause-words g c = Puts-then _ _ c.put.ensures c.put_gates.ensures
