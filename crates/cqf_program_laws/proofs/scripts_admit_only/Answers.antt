use Rattle.cqf_program_laws.proofs.Legal.{histories_are_legal}
use Rattle.cqf_program_laws.proofs.Scripts.{accounts_admit_only, histories_admit_only, planned_scenarios_ask_only, scenarios_ask_only, scripts_ask_only}
use Rattle.cqf_program_laws.proofs.scripts_admit_only.Goals as goal

pub returns-clause-scripts : goal.returns-clause-scripts
returns-clause-scripts c = scripts_ask_only

pub returns-clause-scenarios : goal.returns-clause-scenarios
returns-clause-scenarios c = scenarios_ask_only

pub returns-clause-planned : goal.returns-clause-planned
returns-clause-planned c = planned_scenarios_ask_only

pub returns-clause-histories : goal.returns-clause-histories
returns-clause-histories c = histories_admit_only c.histories_admit_only.ensures.calls

pub returns-clause-accounts : goal.returns-clause-accounts
returns-clause-accounts c = accounts_admit_only c.histories_admit_only.ensures.calls c.histories_admit_only.ensures.seats

pub returns-clause-legal : goal.returns-clause-legal
returns-clause-legal c =
    let s = c.state_follows_history.ensures in
    histories_are_legal s.goes_on s.counted
