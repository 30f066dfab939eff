use Rattle.cqf_laws_history.proofs.Growth.{granted_is_last, seal_changes_no_stream, withdrawn_ends}
use Rattle.cqf_laws_history.proofs.histories.streams_follow_history.Goals as goal

pub returns-clause-granted : goal.returns-clause-granted
returns-clause-granted c = granted_is_last

pub returns-clause-withdrawn : goal.returns-clause-withdrawn
returns-clause-withdrawn c = withdrawn_ends

pub returns-clause-sealed : goal.returns-clause-sealed
returns-clause-sealed c = seal_changes_no_stream
