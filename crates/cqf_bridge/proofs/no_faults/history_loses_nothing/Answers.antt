use Rattle.std.proofs.Common.{sym, subst, ℕ}
use Rattle.cqf_model.specs.HistoryBook.{run_of_history}
use Rattle.cqf_model.specs.Network.{IsLegalNetwork, compiled_lists, LosesNothing}
use Rattle.cqf_bridge.proofs.no_faults.history_loses_nothing.Goals as goal

pub returns-clause-orderly : goal.returns-clause-orderly
returns-clause-orderly c run net legal = (c.gates_mean_the_shift.ensures run net legal).none_lost

pub returns-clause-history : goal.returns-clause-history
returns-clause-history c d entries offers background cycles net is_history sealed are_offers are_background compiled =
    let run = run_of_history d entries offers background cycles in
    let count = c.tables_are_orderly.ensures.count d entries cycles in
    subst (λ (n : ℕ). LosesNothing run n net) count
    ((c.gates_mean_the_shift.ensures run net
    (record {
      accepted = compiled.accepted;
      orderly = c.tables_are_orderly.ensures.orderly d entries cycles is_history sealed;
      offered = are_offers;
      background = are_background;
      legal = subst (λ (n : ℕ). IsLegalNetwork run (compiled_lists d) n net) (sym count) compiled.legal;
    })).none_lost)
