use Rattle.cqf_program_engine.proofs.RunLemmas.{faults-read}
use Rattle.cqf_program_engine.proofs.laws.fault_in_memory_is_of_threads_or_memory.Goals as goal

pub returns-clause-fault : goal.returns-clause-fault
returns-clause-fault c = faults-read _ _ (λ kind fails. fails)
