use Rattle.cqf_laws_history.proofs.Backgrounds.{books_say, numbered_by_index, ports_say}
use Rattle.cqf_laws_history.proofs.definitions.background_is_reported.Goals as goal

pub returns-clause-numbers : goal.returns-clause-numbers
returns-clause-numbers c = numbered_by_index

pub returns-clause-ports : goal.returns-clause-ports
returns-clause-ports c = ports_say

pub returns-clause-books : goal.returns-clause-books
returns-clause-books c = books_say
