-- Bridges whose links go on separately, in a run.
use Rattle.std.specs.Prelude.{ℕ, ◌≡◌, ◌≤◌, ◌<◌, ◌*◌, List, [], ◌∷◌, Option, Some, None, true, filter, length, map}
use Rattle.std.specs.List.{flat_map}
use Rattle.std.specs.List.Sorted.{IsNonDecreasingBy, IsPermutation}
use Rattle.cqf_model.specs.declared.frames.Dropped.{Dropped}
use Rattle.cqf_model.specs.declared.frames.Offered.{Offered}
use Rattle.cqf_model.specs.declared.topology.Row.{Row}
use Rattle.cqf_model.specs.Book.{batch, drops_in}
use Rattle.cqf_model.specs.Domain.{Domain, bridge_of, enters}
use Rattle.cqf_model.specs.History.{IsLegalHistory, Recorded, seals, tables_of}
use Rattle.cqf_model.specs.Network.{Network}
use Rattle.cqf_model.specs.Run.{Run}
use Rattle.cqf_model.specs.Table.{table_of}
use Rattle.cqf_model.specs.Policing.{Received, numbered, offer_received, policed_before}
use Rattle.cqf_laws_shift.specs.Run.{IsLegalRun}
use Rattle.cqf_laws_cycle.specs.Gathered.{is_offered_in, offered_for}
use Rattle.cqf_laws_instants.specs.QueueLaws.{covering}
use Rattle.cqf_relay.specs.Segments.{Sendings, batch_at, came_in}
use Rattle.cqf_relay.specs.Logs.{is_in}
use Rattle.cqf_relay.specs.Offering.{Going, covered_after, dropped_after}
use Rattle.cqf_relay.specs.Standing.{Come, HasGoneOnBy, MayBeTables, offers_in}

-- everything of a run has arrived at a bridge: each table, the bridge's offers, and what each link that ends there has sent
pub record HasCome (run : Run) (sends : Sendings) (bridge : ℕ) (come : Come) : Type 0 where
  pub tables : come.tables ≡ run.tables
  pub offers : (cycle : ℕ) → cycle < length run.tables → offers_in come cycle ≡ offered_for run.domain run.offers bridge cycle
  pub upto : (m : ℕ) → enters run.domain m bridge ≡ true → come.upto m ≡ length run.tables
  pub brought : (m cycle : ℕ) → enters run.domain m bridge ≡ true →
      filter (is_in cycle) (come.brought m) ≡ map (came_in run.domain m cycle) (batch_at (sends m) cycle)

-- everything of a run has arrived at its bridges, and each link has gone on over all cycles by what arrived at the bridge that it leaves
pub record HaveGone (run : Run) (sends : Sendings) (come : ℕ → Come) : Type 0 where
  pub has_come : (bridge : ℕ) → HasCome run sends bridge (come bridge)
  pub gone : (l : ℕ) → l < length run.domain.links →
      HasGoneOnBy run.domain (bridge_of run.domain l) (come (bridge_of run.domain l)) l (sends l)
  pub all : (l : ℕ) → l < length run.domain.links → length (sends l) ≡ length run.tables

-- if everything has arrived and each link has gone on over all cycles, each link has sent what the network sends
abbrev pub RelaysFollowTheNetwork : Type 0
RelaysFollowTheNetwork = (run : Run) (net : Network) (sends : Sendings) (come : ℕ → Come) (l cycle : ℕ) → IsLegalRun run net →
    length run.offers < 16777216 → HaveGone run sends come → l < length run.domain.links → cycle < length run.tables →
    batch_at (sends l) cycle ≡ batch run.domain net.carried l cycle

-- a frame with the row by which it goes on, if there is one
abbrev pub going_with : Received → Option Row → List Going
going_with x None = []
going_with x (Some row) = record { received = x; row = row } ∷ []

-- the offers of a cycle that the run's rows cover, by index, each with its row
abbrev pub covered_of : Run → ℕ → ℕ → List Going
covered_of run bridge cycle = flat_map (λ (x : Offered). going_with (offer_received x) (covering run x))
    (filter (is_offered_in run.domain bridge cycle) (numbered run.offers))

-- the offers that a bridge keeps, judging one after the other, are these
abbrev pub KeptAreCovered : Type 0
KeptAreCovered = (run : Run) (net : Network) (bridge cycle : ℕ) → IsLegalRun run net → cycle < length run.tables →
    IsPermutation (covered_after run.domain bridge cycle (table_of run.tables cycle) [] (offered_for run.domain run.offers bridge cycle))
    (covered_of run bridge cycle)

-- the offers that a bridge drops, by frame, are the run's drops there
abbrev pub DroppedAreTheRuns : Type 0
DroppedAreTheRuns = (run : Run) (net : Network) (bridge cycle : ℕ) (fresh : List Dropped) → IsLegalRun run net → cycle < length run.tables →
    IsPermutation (dropped_after run.domain bridge cycle (table_of run.tables cycle) [] (offered_for run.domain run.offers bridge cycle)) fresh →
    IsNonDecreasingBy (λ (x : Dropped). x.frame) fresh →
    fresh ≡ drops_in run.domain (length run.offers) (λ b. policed_before run net.carried b (length run.tables * run.domain.cycle_time)) cycle bridge

-- the tables of a legal history may be given to such bridges
abbrev pub TablesMayCome : Type 0
TablesMayCome = (d : Domain) (entries : List Recorded) (cycles : ℕ) → IsLegalHistory d entries → cycles ≤ seals entries →
    MayBeTables d (tables_of d entries cycles)
