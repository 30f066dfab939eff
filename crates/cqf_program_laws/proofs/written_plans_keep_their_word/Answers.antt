use Rattle.cqf_program_laws.proofs.FromTalkers.{networks_keep_their_word, networks_keep_their_word_on_threads, networks_keep_their_word_to_scripts}
use Rattle.cqf_program_laws.proofs.FromTalkers.{words_hold_from_talkers}
use Rattle.cqf_program_laws.proofs.Promised.{plans_keep_their_word, plans_keep_their_word_on_threads, plans_keep_their_word_to_scripts}
use Rattle.cqf_program_laws.proofs.written_plans_keep_their_word.Goals as goal

pub returns-clause-runs : goal.returns-clause-runs
returns-clause-runs c =
    let s = c.state_follows_history.ensures in
    let l = c.lists_bound_costs.ensures in
    plans_keep_their_word s.granted s.goes_on s.counted s.room l.rows l.names l.admitted c.branches_end_at_listeners.ensures.ends
    c.conforming_stream_is_covered.ensures.named c.conforming_stream_is_covered.ensures.own c.conforming_stream_is_in_time.ensures.named
    c.conforming_stream_is_in_time.ensures.own

pub returns-clause-scripts : goal.returns-clause-scripts
returns-clause-scripts c =
    let s = c.scripts_admit_only.ensures in
    plans_keep_their_word_to_scripts (returns-clause-runs c) s.planned s.histories s.legal

pub returns-clause-accounts : goal.returns-clause-accounts
returns-clause-accounts c =
    let s = c.scripts_admit_only.ensures in
    plans_keep_their_word_on_threads (returns-clause-runs c) s.planned s.accounts

pub returns-clause-talkers : goal.returns-clause-talkers
returns-clause-talkers c =
    words_hold_from_talkers c.access_link_bounds_queueing.ensures.whole c.edge_conforms_closer.ensures.conforms c.streams_come_by_links.ensures.come

pub returns-clause-networks : goal.returns-clause-networks
returns-clause-networks c = networks_keep_their_word (returns-clause-talkers c) (returns-clause-runs c)

pub returns-clause-network_scripts : goal.returns-clause-network_scripts
returns-clause-network_scripts c = networks_keep_their_word_to_scripts (returns-clause-talkers c) (returns-clause-scripts c)

pub returns-clause-network_accounts : goal.returns-clause-network_accounts
returns-clause-network_accounts c = networks_keep_their_word_on_threads (returns-clause-talkers c) (returns-clause-accounts c)
