use Rattle.cqf_laws_history.proofs.Growth.{granted_is_held, held_are_sound, history_goes_on, refused_changes_nothing, seal_closes_table, seal_lets_go}
use Rattle.cqf_laws_history.proofs.Growth.{seals_are_counted, withdrawn_is_held_on}
use Rattle.cqf_laws_history.proofs.Granted.{granted_finds_room}
use Rattle.cqf_laws_history.proofs.histories.state_follows_history.Goals as goal

pub returns-clause-goes_on : goal.returns-clause-goes_on
returns-clause-goes_on c = history_goes_on

pub returns-clause-counted : goal.returns-clause-counted
returns-clause-counted c = seals_are_counted

pub returns-clause-granted : goal.returns-clause-granted
returns-clause-granted c = granted_is_held

pub returns-clause-room : goal.returns-clause-room
returns-clause-room c = granted_finds_room

pub returns-clause-refused : goal.returns-clause-refused
returns-clause-refused c = refused_changes_nothing

pub returns-clause-lets_go : goal.returns-clause-lets_go
returns-clause-lets_go c = seal_lets_go

pub returns-clause-closes : goal.returns-clause-closes
returns-clause-closes c = seal_closes_table

pub returns-clause-withdrawn : goal.returns-clause-withdrawn
returns-clause-withdrawn c = withdrawn_is_held_on

pub returns-clause-held : goal.returns-clause-held
returns-clause-held c = held_are_sound
