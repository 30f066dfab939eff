use Rattle.cqf_laws_history.proofs.Orderly.{rows_ascend, tables_orderly}
use Rattle.cqf_lists.proofs.EachBelow.{length-singles}
use Rattle.cqf_model.specs.History.{table_at}
use Rattle.cqf_laws_history.proofs.histories.tables_are_orderly.Goals as goal

pub returns-clause-count : goal.returns-clause-count
returns-clause-count c d entries cycles = length-singles (table_at d entries) cycles

pub returns-clause-orderly : goal.returns-clause-orderly
returns-clause-orderly c d entries cycles legal few = tables_orderly d entries cycles legal few

pub returns-clause-ascend : goal.returns-clause-ascend
returns-clause-ascend c d entries cycles cycle legal few = rows_ascend d entries cycles legal few cycle
