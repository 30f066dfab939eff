use Rattle.cqf_program_engine.proofs.RunLemmas.{only_threads_are_left}
use Rattle.cqf_program_engine.proofs.laws.engine_ends.Goals as goal

pub returns : goal.returns
returns c = only_threads_are_left
