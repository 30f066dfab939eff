use Rattle.cqf_refused_values.proofs.plans.config_of.Goals as goal

-- a table's streams have good paces
pub written-requires-clause-paced : goal.written-requires-clause-paced
written-requires-clause-paced c = c.rows-rows.ensures.good
