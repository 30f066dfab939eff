-- What the starts of a run are computed from, and what is ready for a cycle of it.
use Rattle.std.specs.Prelude.{ℕ, ◌≡◌, ◌^◌, ◌/◌, ◌<◌, ◌≤◌, List, [], length, min, slice_get}
use Rattle.std.specs.Option.{option_map_or}
use Rattle.std.specs.Global.{Global}
use Rattle.std.specs.declared.vec.Vec.{Vec}
use Rattle.cqf_units.specs.Timing.{budget_of, ticks_of_octet}
use Rattle.cqf_model.specs.Domain.{guard_by}
use Rattle.cqf_model.specs.declared.topology.Link.{Link}
use Rattle.cqf_laws_shift.specs.Run.{IsLegalRun}
use Rattle.cqf_instants.specs.declared.queues.LaidHop.{LaidHop}
use Rattle.cqf_instants.specs.declared.queues.Waiting.{Waiting}
use Rattle.cqf_instants.specs.declared.offers.Entering.{Entering}
use Rattle.cqf_instants.specs.Entering.{AreEntering, IsParted, StandByInstant}
use Rattle.cqf_instants.specs.Queues.{cap_at, queue_at}
use Rattle.cqf_instants.specs.Meaning.{AreBranches, Feeds, Given, begin_of, most_sent}

-- how many frames of the shortest size a budget has room for
abbrev pub frames_in : ℕ → ℕ → ℕ → ℕ
frames_in cycle_time guard octet_time = budget_of cycle_time guard octet_time / 84

-- the guard band of a link
abbrev pub guard_at : List Link → ℕ → ℕ → ℕ
guard_at links guard l = option_map_or (guard_by guard) (slice_get links l) guard

-- each guard band is within the cycle
abbrev pub AreGuardsShort : List Link → ℕ → ℕ → Type 0
AreGuardsShort links cycle_time guard = (l : ℕ) → guard_at links guard l ≤ cycle_time

-- how many frames of the shortest size a link's budget has room for
abbrev pub frames_at : List Link → ℕ → ℕ → ℕ → ℕ
frames_at links cycle_time guard l =
    frames_in cycle_time (guard_at links guard l) (option_map_or (λ (link : Link). ticks_of_octet link.rate) (slice_get links l) 0)

-- the most frames that a link sends in a cycle if there are this many offers: each offer is at most one frame of a queue
abbrev pub room_at : List Link → ℕ → ℕ → ℕ → ℕ → ℕ
room_at links cycle_time guard offers l = min (frames_at links cycle_time guard l) offers

-- n empty queues, each with room for what its link can send in a cycle
pub record AreEmptyQueues (links : List Link) (cycle_time guard offers n : ℕ) (queues : List (Vec Waiting Global)) : Type 0 where
  pub all : length queues ≡ n
  pub none : (l : ℕ) → queue_at queues l ≡ []
  pub room : (l : ℕ) → l < n → cap_at queues l ≡ room_at links cycle_time guard offers l

-- what the starts are computed from: a legal run, its links, cycle time, guard band and number of cycles, the hops of its rows'
-- trees, and its offers by index, with the hops by which they enter
pub record CanReport (given : Given) (links : List Link) (cycle_time guard cycles : ℕ) (branches : List LaidHop) (offers : List Entering) : Type 0 where
  pub legal : IsLegalRun given.run given.net
  pub are_links : given.run.domain.links ≡ links
  pub is_time : cycle_time ≡ given.run.domain.cycle_time
  pub is_guard : guard ≡ given.run.domain.guard
  pub are_cycles : cycles ≡ length given.run.tables
  pub are : AreBranches given branches
  pub few : length branches < 2 ^ 32
  pub entering : AreEntering given branches offers
  pub stand : StandByInstant offers branches

-- the queues of a cycle feed the links, those of the next cycle are empty, and both have room; the cycle's offers are the next ones
pub record IsReadyFor (given : Given) (offers : List Entering) (links : ℕ) (branches : List LaidHop) (cycle begins from : ℕ)
    (now next : List (Vec Waiting Global)) : Type 0 where
  pub queues : length now ≡ links
  pub next_queues : length next ≡ links
  pub feeds : cycle < length given.run.tables → (l : ℕ) → l < links → Feeds given branches l cycle (queue_at now l)
  pub fresh : (l : ℕ) → queue_at next l ≡ []
  pub room : (l : ℕ) → most_sent given l ≤ cap_at now l
  pub next_room : (l : ℕ) → most_sent given l ≤ cap_at next l
  pub beginning : begins ≡ begin_of given cycle
  pub parted : IsParted offers begins from
