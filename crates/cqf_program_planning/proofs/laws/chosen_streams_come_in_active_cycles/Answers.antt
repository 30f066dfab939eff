use Rattle.cqf_program_planning.proofs.InActiveCycles.{chosen_streams_come_in_active_cycles}
use Rattle.cqf_program_planning.proofs.laws.chosen_streams_come_in_active_cycles.Goals as goal

pub returns : goal.returns
returns c =
    chosen_streams_come_in_active_cycles c.state_follows_history.ensures.counted c.lists_bound_costs.ensures.names c.offers_come_in_active_cycles.ensures
