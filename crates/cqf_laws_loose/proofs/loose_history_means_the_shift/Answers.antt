use Rattle.cqf_model.specs.HistoryBook.{run_of_history}
use Rattle.cqf_laws_loose.proofs.loose_history_means_the_shift.Goals as goal

pub returns : goal.returns
returns c =
    λ d entries offers background cycles slack net heard accepted legal offered following sealed loose.
    c.loose_gates_mean_the_shift.ensures (run_of_history d entries offers background cycles) slack net heard (record {
      accepted = accepted;
      orderly = c.tables_are_orderly.ensures.orderly d entries cycles legal sealed;
      offered = offered;
      background = following;
      loose = loose;
    })
