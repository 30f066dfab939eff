use Rattle.cqf_network_text.proofs.Reading.{written_reads_back}
use Rattle.cqf_network_text.proofs.laws.written_plans_read_back.Goals as goal

pub returns : goal.returns
returns c = written_reads_back
