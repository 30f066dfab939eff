-- The bridges of a run, driven cycle by cycle along its legal network.
use Rattle.std.specs.Prelude.{ℕ, ◌≡◌, ◌+◌, ◌<◌, ◌++◌, [], List, filter, length, slice_index_or}
use Rattle.std.specs.List.{flat_map}
use Rattle.cqf_lists.specs.Lists.{each_below}
use Rattle.cqf_model.specs.declared.frames.Background.{Background}
use Rattle.cqf_model.specs.declared.frames.Dropped.{Dropped}
use Rattle.cqf_model.specs.declared.frames.Offer.{Offer}
use Rattle.cqf_model.specs.declared.frames.Started.{Started}
use Rattle.cqf_model.specs.Domain.{Domain, enters}
use Rattle.cqf_model.specs.Network.{Network}
use Rattle.cqf_model.specs.Run.{AreBackground, AreOffers, Run}
use Rattle.cqf_model.specs.Table.{table_of}
use Rattle.cqf_laws_cycle.specs.BridgeCycle.{IsCompiledNetwork}
use Rattle.cqf_laws_cycle.specs.Gathered.{IsInOrderOf}
use Rattle.cqf_admission.specs.Tables.{CycleTable}
use Rattle.cqf_bridge.specs.Batch.{LinkBatch}
use Rattle.cqf_bridge.specs.BridgeState.{new_bridge}
use Rattle.cqf_agenda.specs.Agenda.{IsAgendaOf}
use Rattle.cqf_bridge.specs.Cycles.{drops_of_cycle}
use Rattle.cqf_bridge.specs.Follows.{FollowsTheNetwork, HasSentOfTheNetwork, batches_from, batches_into}
use Rattle.cqf_bridge.specs.Verdicts.{LosesNothingIn}
use Rattle.cqf_plain.specs.declared.driven.RunBridge.{RunBridge}
use Rattle.cqf_plain.specs.Turns.{EachIs}

-- a bridge to be driven that has done nothing
pub record IsNewlyDriven (d : Domain) (offers : List Offer) (background : List Background) (bridge : ℕ) (s : RunBridge) : Type 0 where
  pub is_new : s.bridge ≡ new_bridge d bridge
  pub agenda : IsAgendaOf d offers background bridge s.agenda
  pub none_came : s.inbox.items ≡ []

-- a run, its legal network by the compiled gate lists, and one of its cycles
pub record IsCycleOf (run : Run) (net : Network) (cycle : ℕ) : Type 0 where
  pub compiled : IsCompiledNetwork run (length run.tables) net
  pub offers : AreOffers run.domain run.offers
  pub background : AreBackground run.domain run.background
  pub within_run : cycle < length run.tables

-- the table is that of its cycle in the run
pub record IsTableOf (run : Run) (table : CycleTable) : Type 0 where
  pub rows : table_of run.tables table.cycle ≡ table.rows

-- a bridge of the run, by number, in a cycle, with the run's input for it
pub record IsOfRunIn (run : Run) (cycle bridge : ℕ) (s : RunBridge) : Type 0 where
  pub domain : s.bridge.domain ≡ run.domain
  pub number : s.bridge.number ≡ bridge
  pub received : s.bridge.received ≡ cycle
  pub agenda : IsAgendaOf run.domain run.offers run.background bridge s.agenda

-- a bridge of the run at a cycle's beginning: it follows the network, and no batch of the cycle has arrived at it yet
pub record StandsBeforeCycle (run : Run) (net : Network) (cycle bridge : ℕ) (s : RunBridge) : Type 0 where
  pub own : IsOfRunIn run cycle bridge s
  pub follows : FollowsTheNetwork run net s.bridge
  pub none_came : s.inbox.items ≡ []

-- a bridge of the run has sent the cycle as the network does, and these batches have arrived at it
pub record StandsHalfway (run : Run) (net : Network) (cycle : ℕ) (came : ℕ → List LinkBatch) (bridge : ℕ) (s : RunBridge) : Type 0 where
  pub own : IsOfRunIn run cycle bridge s
  pub has_sent : HasSentOfTheNetwork run net s.bridge
  pub came_are : s.inbox.items ≡ came bridge

-- all batches of the cycle have arrived at a bridge of the run, whether it takes them or not
pub record HasCome (run : Run) (net : Network) (cycle bridge : ℕ) (s : RunBridge) : Type 0 where
  pub domain : s.bridge.domain ≡ run.domain
  pub number : s.bridge.number ≡ bridge
  pub agenda : IsAgendaOf run.domain run.offers run.background bridge s.agenda
  pub came_are : s.inbox.items ≡ batches_into run.domain net.carried bridge cycle

-- all bridges of the run are in this state
abbrev pub AllStandBefore : Run → Network → ℕ → List RunBridge → Type 0
AllStandBefore run net cycle bridges = EachIs (StandsBeforeCycle run net cycle) (length run.domain.bridges) bridges

abbrev pub AllStandHalfway : Run → Network → ℕ → (ℕ → List LinkBatch) → List RunBridge → Type 0
AllStandHalfway run net cycle came bridges = EachIs (StandsHalfway run net cycle came) (length run.domain.bridges) bridges

-- before any batch of a cycle arrives at a bridge, and after all of them
abbrev pub none_yet : ℕ → List LinkBatch
none_yet bridge = []

abbrev pub all_of : Run → Network → ℕ → ℕ → List LinkBatch
all_of run net cycle bridge = batches_into run.domain net.carried bridge cycle

-- what the first bridges send in the cycle, bridge by bridge
abbrev pub sent_by_first : Run → Network → ℕ → ℕ → List LinkBatch
sent_by_first run net cycle bridges = each_below (λ bridge. batches_from run.domain net.carried bridge cycle) bridges

-- all bridges have sent it: these are their batches
pub record HaveAllSentCycle (run : Run) (net : Network) (cycle : ℕ) (bridges : List RunBridge) (batches : List LinkBatch) : Type 0 where
  pub halfway : AllStandHalfway run net cycle none_yet bridges
  pub batches_are : batches ≡ sent_by_first run net cycle (length run.domain.bridges)

-- batches are handed out: to each bridge those of the links that end in it, after those that it has, in order
pub record AreHandedOut (d : Domain) (batches : List LinkBatch) (before after : List RunBridge) : Type 0 where
  pub as_many : length after ≡ length before
  pub same_bridge : (k : ℕ) (e : RunBridge) → k < length before → (slice_index_or after k e).bridge ≡ (slice_index_or before k e).bridge
  pub same_agenda : (k : ℕ) (e : RunBridge) → k < length before → (slice_index_or after k e).agenda ≡ (slice_index_or before k e).agenda
  pub following : (k : ℕ) (e : RunBridge) → k < length before →
      (slice_index_or after k e).inbox.items ≡ (slice_index_or before k e).inbox.items ++ filter (λ (x : LinkBatch). enters d x.link k) batches

-- the bridges' background frames of the cycle that they have sent are listed, by link
pub record ListsBackground (bridges : List RunBridge) (background background_after : List Started) : Type 0 where
  pub sorted : List Started
  pub by_link : IsInOrderOf (λ (x : Started). x.link) (flat_map (λ (s : RunBridge). s.bridge.background) bridges) sorted
  pub listed : background_after ≡ background ++ sorted

-- a bridge receives the cycle: these are the drops at it, and nothing is lost there
pub record ReceivesOne (run : Run) (net : Network) (cycle bridge : ℕ) (after : RunBridge) (drops : List Dropped) : Type 0 where
  pub stands : StandsBeforeCycle run net (cycle + 1) bridge after
  pub are_drops : drops ≡ drops_of_cycle run net bridge cycle
  pub none_lost : LosesNothingIn run net bridge cycle

-- the drops of the first bridges in the cycle
abbrev pub drops_of_first : Run → Network → ℕ → ℕ → List Dropped
drops_of_first run net cycle bridges = each_below (λ bridge. drops_of_cycle run net bridge cycle) bridges

-- the first bridges lose nothing in the cycle
abbrev pub FirstLoseNothing : Run → Network → ℕ → ℕ → Type 0
FirstLoseNothing run net cycle bridges = (bridge : ℕ) → bridge < bridges → LosesNothingIn run net bridge cycle
