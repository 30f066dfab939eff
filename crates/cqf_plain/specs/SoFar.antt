-- A run, cycle by cycle.
use Rattle.std.specs.Prelude.{ℕ, ◌≡◌, ◌++◌, [], List, length, map}
use Rattle.cqf_lists.specs.Lists.{each_below}
use Rattle.cqf_model.specs.declared.frames.Background.{Background}
use Rattle.cqf_model.specs.declared.frames.Dropped.{Dropped}
use Rattle.cqf_model.specs.declared.frames.Offer.{Offer}
use Rattle.cqf_model.specs.Book.{Contents, background_in, background_of, starts_in, starts_of}
use Rattle.cqf_model.specs.Domain.{Domain}
use Rattle.cqf_model.specs.Network.{IsLost, Network}
use Rattle.cqf_model.specs.Run.{AreBackground, AreOffers, Run}
use Rattle.cqf_model.specs.Policing.{Policed}
use Rattle.cqf_laws_cycle.specs.BridgeCycle.{IsCompiledNetwork}
use Rattle.cqf_admission.specs.Tables.{CycleTable}
use Rattle.cqf_bridge.specs.BridgeState.{end_of_cycle}
use Rattle.cqf_plain.specs.declared.driven.RunBridge.{RunBridge}
use Rattle.cqf_plain.specs.declared.faults.RunFault.{RunFault}
use Rattle.cqf_plain.specs.declared.faults.RunFault.TheVariants.{WrongTables, Inside, Memory}
use Rattle.cqf_plain.specs.Driven.{AllStandBefore, AllStandHalfway, IsCycleOf, IsNewlyDriven, IsTableOf, all_of, drops_of_first}
use Rattle.cqf_plain.specs.Due.{AreNextStarts, Moments, NoneBefore, NothingComes, ports_of}
use Rattle.cqf_plain.specs.Run.{LosesInside}
use Rattle.cqf_plain.specs.Turns.{EachIs}

-- the state of a run: its bridges, by number, the next starts of their ports, and its book so far
pub record SoFarState : Type 0 where
  pub bridges : List RunBridge
  pub due : Moments
  pub book : Contents

-- a run in which nothing has happened
pub record IsNewRun (d : Domain) (offers : List Offer) (background : List Background) (c : SoFarState) : Type 0 where
  pub bridges : EachIs (IsNewlyDriven d offers background) (length d.bridges) c.bridges
  pub due : AreNextStarts c.due (ports_of c.bridges)
  pub book : c.book ≡ record { starts = []; background = []; drops = [] }

-- what the network sends in a cycle is appended: streams' frames and background frames, each by link
pub record ListsCycle (run : Run) (net : Network) (cycle : ℕ) (before after : Contents) : Type 0 where
  pub starts : after.starts ≡ before.starts ++ each_below (starts_in run.domain net.carried cycle) (length run.domain.links)
  pub background : after.background ≡ before.background ++ each_below (background_in run.domain net.backed cycle) (length run.domain.links)
  pub drops : after.drops ≡ before.drops

-- a cycle was sent, and has gone along the links
pub record IsHalfway (run : Run) (net : Network) (cycle : ℕ) (before after : SoFarState) : Type 0 where
  pub stand : AllStandHalfway run net cycle (all_of run net cycle) after.bridges
  pub lists : ListsCycle run net cycle before.book after.book

-- the drops of the cycles before one
abbrev pub drops_before : Run → Network → ℕ → List Dropped
drops_before run net cycle = each_below (λ c. drops_of_first run net c (length run.domain.bridges)) cycle

-- nothing was lost before a cycle
abbrev pub NoneLostBefore : Run → Network → ℕ → Type 0
NoneLostBefore run net cycle = (bridge : ℕ) (policed : Policed) → ¬ IsLost run net.carried cycle bridge policed

-- the run is at the beginning of a cycle: so are its bridges, their ports' next starts are known, the book has what the network did before
-- the cycle, and nothing was lost
pub record IsAt (run : Run) (net : Network) (cycle : ℕ) (c : SoFarState) : Type 0 where
  pub stand : AllStandBefore run net cycle c.bridges
  pub due : AreNextStarts c.due (ports_of c.bridges)
  pub starts : c.book.starts ≡ starts_of run.domain cycle net.carried
  pub background : c.book.background ≡ background_of run.domain cycle net.backed
  pub drops : c.book.drops ≡ drops_before run net cycle
  pub none_lost : NoneLostBefore run net cycle

-- the run is at the beginning of the cycle of a table, and may go on by the table
pub record RunMayGoOn (d : Domain) (table : CycleTable) (c : SoFarState) (run : Run) (net : Network) : Type 0 where
  pub domain : run.domain ≡ d
  pub of_run : IsCycleOf run net table.cycle
  pub table_is : IsTableOf run table
  pub at : IsAt run net table.cycle c

-- nothing happens in a cycle: no port starts a frame before its end, and there are no offers and no background frames in it
pub record IsQuietCycle (d : Domain) (cycle : ℕ) (c : SoFarState) : Type 0 where
  pub none_start : NoneBefore (end_of_cycle d cycle) c.due
  pub none_come : NothingComes cycle c.bridges

-- why a run doesn't go on: a frame is lost inside, or an allocation failed
abbrev pub StopsRun : Run → RunFault → Type 0
StopsRun run WrongTables = ⊥
StopsRun run (Inside frame) = LosesInside run frame
StopsRun run Memory = Unit {0}

-- a run over tables and its legal network
pub record IsRunOver (d : Domain) (tables : List CycleTable) (run : Run) (net : Network) : Type 0 where
  pub domain : run.domain ≡ d
  pub compiled : IsCompiledNetwork run (length run.tables) net
  pub offers : AreOffers run.domain run.offers
  pub background : AreBackground run.domain run.background
  pub rows : run.tables ≡ map (λ (t : CycleTable). t.rows) tables
