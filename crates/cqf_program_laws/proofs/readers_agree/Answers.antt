use Rattle.cqf_program_laws.proofs.MayRun.{scenarios_may_be_run}
use Rattle.cqf_program_laws.proofs.Readers.{edges_are_planned, flows_are_planned, network_flows_are_flows, planned_are_scenarios, planned_parts_are_paced}
use Rattle.cqf_program_laws.proofs.Readers.{planned_streams_are_paced, readers_agree_on_parts}
use Rattle.cqf_program_laws.proofs.readers_agree.Goals as goal

pub returns-clause-talkers : goal.returns-clause-talkers
returns-clause-talkers c = network_flows_are_flows

pub returns-clause-flows : goal.returns-clause-flows
returns-clause-flows c = flows_are_planned

pub returns-clause-streams : goal.returns-clause-streams
returns-clause-streams c = planned_streams_are_paced

pub returns-clause-edges : goal.returns-clause-edges
returns-clause-edges c = edges_are_planned

pub returns-clause-paced : goal.returns-clause-paced
returns-clause-paced c = planned_parts_are_paced

pub returns-clause-parts : goal.returns-clause-parts
returns-clause-parts c = readers_agree_on_parts

pub returns-clause-inputs : goal.returns-clause-inputs
returns-clause-inputs c = planned_are_scenarios

pub returns-clause-may_run : goal.returns-clause-may_run
returns-clause-may_run c = scenarios_may_be_run
