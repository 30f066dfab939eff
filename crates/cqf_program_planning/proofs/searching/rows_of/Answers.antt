use Rattle.std.proofs.Common.{ap}
use Rattle.std.specs.Prelude.{is_err}
use Rattle.cqf_program_planning.proofs.searching.rows_of.Goals as goal

-- one is refused
pub returns-in_ok-check_refused-in-Err : goal.returns-in_ok-check_refused-in-Err
returns-in_ok-check_refused-in-Err c = ap is_err (c.in-Err.ensures.err.line c.in_ok-check_refused-in-Err.ensures)
