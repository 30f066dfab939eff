use Rattle.cqf_laws_cycle.proofs.GateLists.{gate_counts}
use Rattle.cqf_laws_cycle.proofs.compiled.gate_counts_cycles.Goals as goal

pub returns : goal.returns
returns c = gate_counts
