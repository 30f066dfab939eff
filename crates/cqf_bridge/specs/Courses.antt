-- Bridges that each go on at their own pace, with batches under way between them and further tables not yet closed.
use Rattle.std.specs.Prelude.{ℕ, ◌≡◌, ◌+◌, ◌≤◌, ◌<◌, ◌++◌, List, [], Some, length, slice_get, true, Contains}
use Rattle.std.specs.List.{flat_map}
use Rattle.std.specs.Option.{option_to_list}
use Rattle.cqf_model.specs.declared.frames.Background.{Background}
use Rattle.cqf_model.specs.declared.frames.Dropped.{Dropped}
use Rattle.cqf_model.specs.declared.frames.Offer.{Offer}
use Rattle.cqf_model.specs.declared.topology.Row.{Row}
use Rattle.cqf_model.specs.Book.{Contents}
use Rattle.cqf_model.specs.Domain.{Domain, IsAccepted, enters, leaves}
use Rattle.cqf_model.specs.History.{IsLegalHistory, Recorded, seals, table_at}
use Rattle.cqf_model.specs.Run.{AreBackground, AreOffers, Run}
use Rattle.cqf_model.specs.Table.{table_of}
use Rattle.cqf_laws_cycle.specs.Gathered.{backed_for, offered_for}
use Rattle.cqf_bridge.specs.Batch.{LinkBatch}
use Rattle.cqf_bridge.specs.BridgeState.{BridgeState, SendsCycle, new_bridge}
use Rattle.cqf_agenda.specs.Links.{links_into}
use Rattle.cqf_bridge.specs.Receiving.{IsRunOfBridge, ReceivesCycle}
use Rattle.cqf_bridge.specs.Cycles.{page_given}

-- what bridges have done so far: for each bridge how many cycles it has sent, the tables that it took and the pages that it posted; for
-- each link the batches that were put on it and those that were taken from it. Each list is by cycle
pub record Course : Type 0 where
  pub sent : ℕ → ℕ
  pub tables : ℕ → List (List Row)
  pub pages : ℕ → List Contents
  pub put : ℕ → List LinkBatch
  pub taken : ℕ → List LinkBatch

-- the number of pages that a bridge has posted: it has received this many cycles
abbrev pub posted : Course → ℕ → ℕ
posted course bridge = length (course.pages bridge)

-- what a bridge has taken in a cycle: the batch of each link that ends in it, by link number, if it was taken
abbrev pub taken_in : Domain → Course → ℕ → ℕ → List LinkBatch
taken_in d course bridge cycle = flat_map (λ l. option_to_list (slice_get (course.taken l) cycle)) (links_into d bridge)

-- the input of a run: a domain, the offers at its bridges, and the background frames of its links
pub record Traffic : Type 0 where
  pub domain : Domain
  pub offers : List Offer
  pub background : List Background

-- one bridge's part of a course: it began with nothing done, and had these states before and halfway through its cycles. In each cycle it
-- sent batches with its background frames of the cycle, and put the batch of each link on the link. With its table and its offers of the
-- cycle and the batches that it took, it received the cycle and posted the page of what it sent and dropped
pub record HasWorked (t : Traffic) (course : Course) (bridge : ℕ) : Type 0 where
  pub before : ℕ → BridgeState
  pub halfway : ℕ → BridgeState
  pub batches : ℕ → List LinkBatch
  pub dropped : ℕ → List Dropped
  pub began : before 0 ≡ new_bridge t.domain bridge
  pub not_after : posted course bridge ≤ course.sent bridge
  pub not_ahead : course.sent bridge ≤ posted course bridge + 1
  pub sends : (cycle : ℕ) → cycle < course.sent bridge →
      SendsCycle (before cycle) (halfway cycle) cycle (backed_for t.domain t.background bridge cycle) [] (batches cycle)
  pub puts : (l cycle : ℕ) (x : LinkBatch) → leaves t.domain l bridge ≡ true → slice_get (course.put l) cycle ≡ Some x →
      (cycle < course.sent bridge) × Contains (batches cycle) x × (x.link ≡ l)
  pub had_table : posted course bridge ≤ length (course.tables bridge)
  pub had_batches : (l : ℕ) → enters t.domain l bridge ≡ true → posted course bridge ≤ length (course.taken l)
  pub receives : (cycle : ℕ) (run : Run) → cycle < posted course bridge →
      IsRunOfBridge t.domain bridge cycle (table_of (course.tables bridge) cycle) (offered_for t.domain t.offers bridge cycle) run →
      ReceivesCycle run (halfway cycle) (before (cycle + 1)) cycle (taken_in t.domain course bridge cycle) (dropped cycle)
  pub posts : (cycle : ℕ) → cycle < posted course bridge →
      slice_get (course.pages bridge) cycle ≡ Some (page_given (batches cycle) (halfway cycle).background (dropped cycle))

-- bridges under way, under the tables of one history: each did its part; the tables that it took are those of the history's Seals, each at
-- its index; and what was taken from a link is the beginning of what was put on it. No order between the bridges is assumed
pub record AreUnderWay (t : Traffic) (entries : List Recorded) (course : Course) : Type 0 where
  pub worked : (bridge : ℕ) → bridge < length t.domain.bridges → HasWorked t course bridge
  pub sealed : (bridge : ℕ) → bridge < length t.domain.bridges → length (course.tables bridge) ≤ seals entries
  pub tables : (bridge cycle : ℕ) → bridge < length t.domain.bridges → cycle < length (course.tables bridge) →
      table_of (course.tables bridge) cycle ≡ table_at t.domain entries cycle
  pub links : (l : ℕ) → l < length t.domain.links → (rest : List LinkBatch) × (course.put l ≡ course.taken l ++ rest)

-- the allowed input of a run: an accepted domain, a legal history, and offers and background frames of the domain
pub record IsGiven (t : Traffic) (entries : List Recorded) : Type 0 where
  pub accepted : IsAccepted t.domain
  pub legal : IsLegalHistory t.domain entries
  pub offers : AreOffers t.domain t.offers
  pub background : AreBackground t.domain t.background
