-- A pass over the cycles of a history's run.
use Rattle.std.specs.Prelude.{ℕ, ◌≡◌, List}
use Rattle.cqf_model.specs.declared.frames.Background.{Background}
use Rattle.cqf_model.specs.declared.frames.Offer.{Offer}
use Rattle.cqf_model.specs.declared.topology.Row.{Row}
use Rattle.cqf_model.specs.Book.{starts_of}
use Rattle.cqf_model.specs.Domain.{Domain}
use Rattle.cqf_model.specs.History.{Recorded}
use Rattle.cqf_model.specs.HistoryBook.{run_of_history}
use Rattle.cqf_model.specs.Network.{Network}
use Rattle.cqf_laws_shift.specs.Run.{IsLegalRun}
use Rattle.cqf_instants.specs.Progress.{AreStartsOf, Progress}
use Rattle.cqf_instants_run.specs.declared.judged.EdgeVerdict.{EdgeVerdict}
use Rattle.cqf_instants_run.specs.HistoryStarts.{IsLaidOutHistoryOf}

-- a pass before its first cycle: it returns the starts of each legal network of the run of each history with these rows, for any background
-- frames
pub record IsPassOf (d : Domain) (cycles : ℕ) (rows : List Row) (offers : List Offer) (edge_verdicts : List EdgeVerdict) (pass : Progress) : Type 0 where
  pub begins : pass.reported ≡ 0
  pub reports : (entries : List Recorded) (background : List Background) (net : Network) → IsLaidOutHistoryOf d cycles rows offers edge_verdicts entries →
      IsLegalRun (run_of_history d entries offers background cycles) net → AreStartsOf pass.basis (starts_of d cycles net.carried)
