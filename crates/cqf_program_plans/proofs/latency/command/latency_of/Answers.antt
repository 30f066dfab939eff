use Rattle.cqf_program_plans.proofs.latency.command.latency_of.Goals as goal

pub output_of_rows-requires-clause-good : goal.output_of_rows-requires-clause-good
output_of_rows-requires-clause-good c = c.in_ok-rows.ensures.good
