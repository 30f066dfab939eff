use Rattle.cqf_program_engine.proofs.RunLemmas.{faults-reported}
use Rattle.cqf_program_engine.proofs.laws.fault_is_of_threads.Goals as goal

pub returns : goal.returns
returns g c = faults-reported g.R.Source.fails g.O.Sink.refuses
