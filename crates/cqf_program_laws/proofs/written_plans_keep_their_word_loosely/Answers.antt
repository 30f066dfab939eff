use Rattle.cqf_program_laws.proofs.FromTalkers.{networks_keep_their_word_loosely}
use Rattle.cqf_program_laws.proofs.Loosely.{plans_keep_their_word_loosely}
use Rattle.cqf_program_laws.proofs.written_plans_keep_their_word_loosely.Goals as goal

pub returns-clause-edges : goal.returns-clause-edges
returns-clause-edges c =
    let s = c.state_follows_history.ensures in
    let l = c.lists_bound_costs.ensures in
    plans_keep_their_word_loosely s.granted s.goes_on s.counted s.room l.rows l.names l.admitted c.branches_end_at_listeners.ensures.ends
    c.conforming_stream_is_heard_in_time.ensures.named

pub returns-clause-talkers : goal.returns-clause-talkers
returns-clause-talkers c =
    networks_keep_their_word_loosely c.access_link_bounds_queueing.ensures.whole c.edge_conforms_closer.ensures.conforms c.streams_come_by_links.ensures.come
    (returns-clause-edges c)
