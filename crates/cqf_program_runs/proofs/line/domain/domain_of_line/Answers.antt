use Rattle.cqf_program_runs.proofs.LineText.{means_line, means_no_fault}
use Rattle.cqf_program_runs.proofs.line.domain.domain_of_line.Goals as goal

pub unreachable-requires : goal.unreachable-requires
unreachable-requires c = means_no_fault c.in-Err.fault (c.in-Err.ensures c.in_default.not-Memory)

pub returns-in-Ok : goal.returns-in-Ok
returns-in-Ok c = means_line c.in-Ok.domain c.in-Ok.ensures
