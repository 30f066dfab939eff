-- A run of a history as the basis for its starts: from the links, the streams' trees and the offers with their verdicts.
use Rattle.std.specs.Prelude.{ℕ, ◌≡◌, ◌≤◌, List, length}
use Rattle.cqf_model.specs.declared.frames.Background.{Background}
use Rattle.cqf_model.specs.declared.frames.Offer.{Offer}
use Rattle.cqf_model.specs.declared.topology.Row.{Row}
use Rattle.cqf_model.specs.Domain.{Domain}
use Rattle.cqf_model.specs.History.{IsLegalHistory, Recorded, seals, streams_of}
use Rattle.cqf_model.specs.HistoryBook.{run_of_history}
use Rattle.cqf_model.specs.Network.{Network}
use Rattle.cqf_model.specs.Run.{Run}
use Rattle.cqf_laws_shift.specs.Run.{IsLegalRun}
use Rattle.cqf_instants.specs.declared.basis.Basis.{Basis}
use Rattle.cqf_instants.specs.Meaning.{Given}
use Rattle.cqf_instants.specs.OfRun.{SomeRun}
use Rattle.cqf_instants.specs.Progress.{IsBasisOf}
use Rattle.cqf_instants_run.specs.declared.judged.EdgeVerdict.{EdgeVerdict}
use Rattle.cqf_instants_run.specs.Coverage.{AreJudged}

-- a legal history of the domain that closes at least `cycles` cycles; the rows are the streams that it ever granted, and the verdicts are
-- those on the offers
pub record IsLaidOutHistoryOf (d : Domain) (cycles : ℕ) (rows : List Row) (offers : List Offer) (edge_verdicts : List EdgeVerdict)
    (entries : List Recorded) : Type 0 where
  pub legal : IsLegalHistory d entries
  pub sealed : cycles ≤ seals entries
  pub streams : streams_of d entries ≡ rows
  pub judged : AreJudged d entries rows offers (length offers) edge_verdicts

-- some legal history of the domain has these rows and verdicts
pub record SomeHistory (d : Domain) (cycles : ℕ) (rows : List Row) (offers : List Offer) (edge_verdicts : List EdgeVerdict) : Type 0 where
  pub entries : List Recorded
  pub is : IsLaidOutHistoryOf d cycles rows offers edge_verdicts entries

-- the starts of the run can be computed from the basis
pub record IsBasisOfRun (run : Run) (net : Network) (basis : Basis) : Type 0 where
  pub given : Given
  pub is_run : given.run ≡ run
  pub is_net : given.net ≡ net
  pub is_basis : IsBasisOf given basis

-- the basis is that of some run, and of the run of each history with these rows, in each of its legal networks, for any background frames
pub record IsBasisOfHistory (d : Domain) (cycles : ℕ) (rows : List Row) (offers : List Offer) (edge_verdicts : List EdgeVerdict) (basis : Basis) : Type 0 where
  pub are_cycles : basis.cycles ≡ cycles
  pub some : SomeRun basis
  pub each : (entries : List Recorded) (background : List Background) (net : Network) → IsLaidOutHistoryOf d cycles rows offers edge_verdicts entries →
      IsLegalRun (run_of_history d entries offers background cycles) net →
      IsBasisOfRun (run_of_history d entries offers background cycles) net basis
