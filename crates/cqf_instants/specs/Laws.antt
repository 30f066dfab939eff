-- The laws that a pass relies on.
use Rattle.cqf_laws_instants.specs.Instants.{BatchIsDue, FirstBatchIsEmpty, QueueHasRoom}
use Rattle.cqf_laws_instants.specs.GatheredLaws.{CoveredGoByTheirTree, GatheredIsQueued, UncoveredGoNowhere}
use Rattle.cqf_laws_instants.specs.QueueLaws.{CoveringCovers}

-- what a link sends in a cycle, how much that is, and what enters its queue
pub record TheLaws : Type 0 where
  pub queue : GatheredIsQueued
  pub due : BatchIsDue
  pub first : FirstBatchIsEmpty
  pub room : QueueHasRoom
  pub covered : CoveredGoByTheirTree
  pub uncovered : UncoveredGoNowhere
  pub covers : CoveringCovers
