-- A link's queue, its queue for the next cycle: the frames of one cycle that go on by the link in the next, sorted by one number for each
-- frame.
use Rattle.std.specs.Prelude.{ℕ, ◌≡◌, ◌+◌, ◌*◌, ◌-◌, ◌<◌, ◌++◌, ◌==◌, true, false, if◌then◌else◌, List, [], ◌∷◌, Contains, filter, length, map}
use Rattle.std.specs.List.{flat_map, list_any}
use Rattle.std.specs.List.Sorted.{IsNonDecreasingBy, IsPermutation}
use Rattle.cqf_lists.specs.Lists.{each_below}
use Rattle.cqf_model.specs.declared.frames.Offered.{Offered}
use Rattle.cqf_model.specs.declared.frames.Sent.{Sent}
use Rattle.cqf_model.specs.declared.topology.Row.{Row}
use Rattle.cqf_model.specs.Book.{batch}
use Rattle.cqf_model.specs.Domain.{bridge_of, enters}
use Rattle.cqf_model.specs.Network.{Network, queued_frame, queued_in}
use Rattle.cqf_model.specs.Run.{Run}
use Rattle.cqf_model.specs.Shift.{IsCovered}
use Rattle.cqf_model.specs.Table.{goes_to, table_of}
use Rattle.cqf_model.specs.Policing.{Carried, Received, came_by, numbered, offer_received, sent_received}
use Rattle.cqf_laws_shift.specs.Run.{IsLegalRun}
use Rattle.cqf_laws_cycle.specs.Gathered.{is_offered_in}
use Rattle.cqf_laws_instants.specs.QueueLaws.{following, goes_by}
use Rattle.cqf_laws_instants.specs.TakenLaws.{AreItsBatches, source_of}

-- the frames that the link m brings to the bridge of the link l and that go on by l
abbrev pub gathered_from : Run → Carried → ℕ → ℕ → List Received
gathered_from run batches l m = let d = run.domain in
    if enters d m (bridge_of d l)
    then map (sent_received d m) (filter (λ (sent : Sent). goes_by run l (sent_received d m sent)) (batches m))
    else []

-- the offers of the cycle that go on by the link, by index
abbrev pub gathered_offers : Run → ℕ → ℕ → List Received
gathered_offers run l cycle =
    map offer_received
    (filter (λ (x : Offered). goes_by run l (offer_received x)) (filter (is_offered_in run.domain (bridge_of run.domain l) cycle) (numbered run.offers)))

-- the links' frames by link number, each link's in the order in which it sent them, then the offers
abbrev pub gathered_of : Run → Carried → ℕ → ℕ → List Received
gathered_of run batches l cycle = each_below (gathered_from run batches l) (length run.domain.links) ++ gathered_offers run l cycle

-- a frame's key in a cycle that begins at an instant: the instant of its full arrival, its source and its number, in one number
abbrev pub key_of : ℕ → Received → ℕ
key_of begins x = ((x.at - begins) * 8192 + source_of x.ingress) * 16777216 + x.frame

-- sorted by these keys, by any sort, a queue is what the cycle queues to the link
abbrev pub GatheredIsQueued : Type 0
GatheredIsQueued = (run : Run) (net : Network) (l cycle : ℕ) (batches : Carried) (sorted : List Received) →
    IsLegalRun run net → cycle < length run.tables → length run.offers < 16777216 →
    AreItsBatches run net (bridge_of run.domain l) cycle batches →
    IsPermutation (gathered_of run batches l cycle) sorted → IsNonDecreasingBy (key_of (cycle * run.domain.cycle_time)) sorted →
    queued_in run net.carried l cycle ≡ flat_map (following run l) sorted

-- a frame goes on by a link exactly if the row's tree has the link after the one by which the frame came, or at the edge, and is then
-- queued with the row
pub record GoesByTree (run : Run) (l : ℕ) (x : Received) (row : Row) : Type 0 where
  pub goes : goes_by run l x ≡ list_any (λ next. next == l) (goes_to row (came_by x.ingress))
  pub queued : following run l x ≡ (if list_any (λ next. next == l) (goes_to row (came_by x.ingress)) then queued_frame run.domain x row ∷ [] else [])

-- a frame that a link brings goes on by the tree of its stream's row in any table
abbrev pub RelayedGoByTheirTree : Type 0
RelayedGoByTheirTree = (run : Run) (net : Network) (l m cycle table : ℕ) (sent : Sent) (row : Row) →
    IsLegalRun run net → cycle < length run.tables → enters run.domain m (bridge_of run.domain l) ≡ true →
    Contains (batch run.domain net.carried m cycle) sent → Contains (table_of run.tables table) row → row.no ≡ sent.stream →
    GoesByTree run l (sent_received run.domain m sent) row

-- an offer that a row covers goes on by the tree of that row
abbrev pub CoveredGoByTheirTree : Type 0
CoveredGoByTheirTree = (run : Run) (l : ℕ) (x : Offered) (row : Row) → x.offer.bridge ≡ bridge_of run.domain l → IsCovered run x row →
    GoesByTree run l (offer_received x) row

-- an offer that no row covers goes on by no link
abbrev pub UncoveredGoNowhere : Type 0
UncoveredGoNowhere = (run : Run) (l : ℕ) (x : Offered) → x.offer.bridge ≡ bridge_of run.domain l → Contains (numbered run.offers) x →
    ((row : Row) → ¬ IsCovered run x row) → goes_by run l (offer_received x) ≡ false
