-- A run of the network on one thread: its book, or why there is none.
use Rattle.std.specs.Prelude.{ℕ, ◌≡◌, ◌<◌, Contains, List, length, map, slice_get, take, Some}
use Rattle.cqf_model.specs.declared.frames.Background.{Background}
use Rattle.cqf_model.specs.declared.frames.Offer.{Offer}
use Rattle.cqf_model.specs.Book.{Contents, IsOneThreadBook}
use Rattle.cqf_model.specs.Domain.{Domain}
use Rattle.cqf_model.specs.Network.{IsLegalNetwork, IsLoss, IsLost, Network, compiled_lists}
use Rattle.cqf_model.specs.Run.{Run}
use Rattle.cqf_model.specs.Policing.{Carried, Policed}
use Rattle.cqf_laws_cycle.specs.BridgeCycle.{policed_of}
use Rattle.cqf_admission.specs.Tables.{CycleTable}
use Rattle.cqf_plain.specs.declared.faults.RunFault.{RunFault}
use Rattle.cqf_plain.specs.declared.faults.RunFault.TheVariants.{WrongTables, Inside, Memory}

-- the run of a domain over some tables
abbrev pub run_of : Domain → List CycleTable → List Offer → List Background → Run
run_of d tables offers background = record { domain = d; tables = map (λ (t : CycleTable). t.rows) tables; offers = offers; background = background }

-- one table for each cycle, numbered from 0
pub record AreTablesNumbered (cycles : ℕ) (tables : List CycleTable) : Type 0 where
  pub one_each : length tables ≡ cycles
  pub numbers : (cycle : ℕ) (table : CycleTable) → slice_get tables cycle ≡ Some table → table.cycle ≡ cycle

-- the legal network of a run
abbrev pub IsNetworkOf : Run → Network → Type 0
IsNetworkOf run net = IsLegalNetwork run (compiled_lists run.domain) (length run.tables) net

-- the run loses nothing inside
abbrev pub LosesNothingInside : Run → Type 0
LosesNothingInside run = (net : Network) (bridge : ℕ) (policed : Policed) → IsNetworkOf run net → ¬ IsLost run net.carried (length run.tables) bridge policed

-- the first of some frames that is lost, in the order in which they are taken
pub record IsFirstLoss (policed : List Policed) (x : Policed) : Type 0 where
  pub index : ℕ
  pub there : slice_get policed index ≡ Some x
  pub lost : IsLoss x.verdict
  pub before : (p : Policed) → Contains (take index policed) p → ¬ IsLoss p.verdict

-- no frame is lost sooner: in an earlier cycle, in this one at a bridge of a lower number, or at this bridge before it
pub record IsLostFirst (run : Run) (carried : Carried) (bridge : ℕ) (x : Policed) : Type 0 where
  pub cycle : ℕ
  pub within_run : cycle < length run.tables
  pub sooner : (b : ℕ) (p : Policed) → ¬ IsLost run carried cycle b p
  pub lower : (b : ℕ) (p : Policed) → b < bridge → Contains (policed_of run carried b cycle) p → ¬ IsLoss p.verdict
  pub here : IsFirstLoss (policed_of run carried bridge cycle) x

-- the run loses this frame inside, and none before it
pub record LosesInside (run : Run) (frame : ℕ) : Type 0 where
  pub net : Network
  pub legal : IsNetworkOf run net
  pub bridge : ℕ
  pub inside : bridge < length run.domain.bridges
  pub policed : Policed
  pub lost : IsLost run net.carried (length run.tables) bridge policed
  pub first : IsLostFirst run net.carried bridge policed
  pub is_frame : policed.received.frame ≡ frame

-- the book of the run, if its network loses nothing inside
pub record IsBookOfRun (run : Run) (book : Contents) : Type 0 where
  pub is_book : IsOneThreadBook run book
  pub only : (other : Contents) → IsOneThreadBook run other → other ≡ book
  pub loses_nothing : LosesNothingInside run

-- why a run returns no book: each cause is the first that applies, and the frame is the first one that is lost. But an allocation may fail
-- before a lost frame is reached
abbrev pub IsRunFault : Run → ℕ → List CycleTable → RunFault → Type 0
IsRunFault run cycles tables WrongTables = ¬ AreTablesNumbered cycles tables
IsRunFault run cycles tables (Inside frame) = AreTablesNumbered cycles tables × LosesInside run frame
IsRunFault run cycles tables Memory = AreTablesNumbered cycles tables
