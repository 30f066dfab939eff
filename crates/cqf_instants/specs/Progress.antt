-- The progress of a pass over the cycles of a run, and what the pass computes.
use Rattle.std.specs.Prelude.{ℕ, ◌≡◌, ◌+◌, ◌≤◌, ◌<◌, List, length, vec_capacity}
use Rattle.cqf_lists.specs.Lists.{each_below}
use Rattle.cqf_model.specs.declared.frames.Started.{Started}
use Rattle.cqf_model.specs.Book.{starts_in, starts_of}
use Rattle.cqf_instants.specs.declared.basis.Basis.{Basis}
use Rattle.cqf_instants.specs.declared.standing.Standing.{Standing}
use Rattle.cqf_instants.specs.Queues.{caps_below}
use Rattle.cqf_instants.specs.Meaning.{Given}
use Rattle.cqf_instants.specs.Reporting.{CanReport, IsReadyFor}

-- a basis is that of a run, in its legal network
abbrev pub IsBasisOf : Given → Basis → Type 0
IsBasisOf given basis =
    CanReport given basis.links.items basis.cycle_time basis.guard basis.cycles basis.branches.items basis.offers.items

-- a basis is that of some run, in its legal network
pub record SomeBasis (basis : Basis) : Type 0 where
  pub given : Given
  pub is : IsBasisOf given basis

-- the starts of streams' frames in a cycle of the run, by link, then instant
abbrev pub starts_of_cycle : Given → ℕ → List Started
starts_of_cycle given cycle = each_below (starts_in given.run.domain given.net.carried cycle) (length given.run.domain.links)

-- these are the starts of a run whose basis this is, by cycle, then link, then instant
pub record AreStartsOf (basis : Basis) (starts : List Started) : Type 0 where
  pub given : Given
  pub is : IsBasisOf given basis
  pub are : starts ≡ starts_of given.run.domain basis.cycles given.net.carried

-- the progress of a pass: its basis, the number of cycles computed so far, and the starts of the last of them
pub record Progress : Type 0 where
  pub basis : Basis
  pub reported : ℕ
  pub starts : List Started

-- the next cycle is computed: the starts are those of that cycle, in each run with this basis
pub record ReportsNext (old new : Progress) : Type 0 where
  pub basis : new.basis ≡ old.basis
  pub in_run : old.reported < old.basis.cycles
  pub reported : new.reported ≡ old.reported + 1
  pub starts : (given : Given) → IsBasisOf given old.basis → new.starts ≡ starts_of_cycle given old.reported

-- all cycles are done, and the pass is unchanged
pub record IsOver (old new : Progress) : Type 0 where
  pub same : new ≡ old
  pub all : old.reported ≡ old.basis.cycles

-- the starts have room for what the queues of this many links can hold
pub record QueueHasRoomFor (links : ℕ) (standing : Standing) : Type 0 where
  pub now : caps_below standing.now.items links ≤ vec_capacity standing.starts
  pub next : caps_below standing.next.items links ≤ vec_capacity standing.starts

-- `reported` cycles are computed, and the queues are ready for the next one, in each run with this basis
pub record IsUnderWay (basis : Basis) (reported : ℕ) (standing : Standing) : Type 0 where
  pub some : SomeBasis basis
  pub within : reported ≤ basis.cycles
  pub room : QueueHasRoomFor (length basis.links.items) standing
  pub ready : (given : Given) → IsBasisOf given basis →
      IsReadyFor given basis.offers.items (length basis.links.items) basis.branches.items reported standing.begins standing.from standing.now.items
      standing.next.items
