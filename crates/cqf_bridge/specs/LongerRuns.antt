-- Laws about a bridge that follows a run which becomes longer, as further tables are closed.
use Rattle.std.specs.Prelude.{ℕ, ◌≤◌, ◌<◌, List}
use Rattle.cqf_model.specs.declared.topology.Row.{Row}
use Rattle.cqf_model.specs.Network.{Network}
use Rattle.cqf_model.specs.Run.{Run}
use Rattle.cqf_laws_network.specs.NetworkLaws.{HaveTheSameTables, IsShorter, with_tables}
use Rattle.cqf_laws_cycle.specs.BridgeCycle.{IsCompiledNetwork}
use Rattle.cqf_bridge.specs.BridgeState.{BridgeState}
use Rattle.cqf_bridge.specs.Follows.{FollowsTheNetwork, HasSentOfTheNetwork}

-- a bridge's records depend only on the tables of the cycles that it has received: it also follows the run with other tables in the next
-- cycle and later ones
abbrev pub TablesToComeDontCount : Type 0
TablesToComeDontCount = (run : Run) (others : List (List Row)) (net : Network) (b : BridgeState) → HaveTheSameTables b.received run.tables others →
    FollowsTheNetwork run net b → FollowsTheNetwork (with_tables run others) net b

-- halfway through a cycle the cycle's own table doesn't matter yet
abbrev pub TablesToComeDontCountHalfway : Type 0
TablesToComeDontCountHalfway = (run : Run) (others : List (List Row)) (net : Network) (b : BridgeState) → HaveTheSameTables b.received run.tables others →
    HasSentOfTheNetwork run net b → HasSentOfTheNetwork (with_tables run others) net b

-- a run, a shorter one with the same tables in its cycles, and the legal networks of both
pub record IsLonger (run : Run) (others : List (List Row)) (cycles longer : ℕ) (net more : Network) : Type 0 where
  pub shorter : IsShorter cycles longer run.tables others
  pub beginning : IsCompiledNetwork (with_tables run others) cycles net
  pub whole : IsCompiledNetwork run longer more

-- a bridge that follows the shorter run's network follows the longer one's
abbrev pub LongerRunIsFollowed : Type 0
LongerRunIsFollowed = (run : Run) (others : List (List Row)) (cycles longer : ℕ) (net more : Network) (b : BridgeState) →
    IsLonger run others cycles longer net more → b.received ≤ cycles → FollowsTheNetwork (with_tables run others) net b → FollowsTheNetwork run more b

-- a bridge that has sent a cycle of the shorter run's network has sent a cycle of the longer one's
abbrev pub LongerRunIsFollowedHalfway : Type 0
LongerRunIsFollowedHalfway = (run : Run) (others : List (List Row)) (cycles longer : ℕ) (net more : Network) (b : BridgeState) →
    IsLonger run others cycles longer net more → b.received < cycles → HasSentOfTheNetwork (with_tables run others) net b → HasSentOfTheNetwork run more b
