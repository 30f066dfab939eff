-- The bridges of a domain, driven cycle by cycle, with nothing between them but their batches.
use Rattle.std.specs.Prelude.{ℕ, ◌≡◌, ◌+◌, ◌≤◌, ◌<◌, ◌++◌, List, length, map, Contains}
use Rattle.cqf_model.specs.declared.frames.Background.{Background}
use Rattle.cqf_model.specs.declared.frames.Dropped.{Dropped}
use Rattle.cqf_model.specs.declared.frames.Offer.{Offer}
use Rattle.cqf_model.specs.Book.{Contents, IsBook, page_of}
use Rattle.cqf_model.specs.Domain.{Domain, IsAccepted, bridge_of}
use Rattle.cqf_model.specs.Headline.{KeepsThePromise}
use Rattle.cqf_model.specs.History.{IsLegalHistory, Recorded, seals}
use Rattle.cqf_model.specs.HistoryBook.{run_of_history}
use Rattle.cqf_model.specs.Network.{Network, compiled_lists, LosesNothing}
use Rattle.cqf_model.specs.Run.{AreBackground, AreOffers, Run}
use Rattle.cqf_laws_cycle.specs.BridgeCycle.{IsCompiledNetwork}
use Rattle.cqf_laws_cycle.specs.Gathered.{backed_for}
use Rattle.cqf_laws_cycle.specs.PageLaws.{book_of_pages}
use Rattle.cqf_bridge.specs.declared.faults.BridgeFault.{BridgeFault}
use Rattle.cqf_bridge.specs.declared.faults.BridgeFault.TheVariants.{Memory}
use Rattle.cqf_bridge.specs.Batch.{LinkBatch}
use Rattle.cqf_bridge.specs.BridgeState.{BridgeState, SendsCycle, new_bridge}
use Rattle.cqf_bridge.specs.Faults.{IsSendFault}
use Rattle.cqf_agenda.specs.Links.{links_into}
use Rattle.cqf_bridge.specs.Receiving.{IsReceiveFault, ReceivesCycle}
use Rattle.cqf_bridge.specs.Cycles.{page_given}
use Rattle.cqf_bridge.specs.Follows.{FollowsTheNetwork, HasSentOfTheNetwork, handed_with}

-- what bridges do, by bridge and cycle: the state of each before the cycle, and when it had sent it; the batches to which it appended its
-- own, its own batches, and those that it was given; and its drops
pub record DrivenCourse : Type 0 where
  pub before : ℕ → ℕ → BridgeState
  pub halfway : ℕ → ℕ → BridgeState
  pub given : ℕ → ℕ → List LinkBatch
  pub sent : ℕ → ℕ → List LinkBatch
  pub handed : ℕ → ℕ → List LinkBatch
  pub dropped : ℕ → ℕ → List Dropped

-- a bridge is given in a cycle a batch for each link that ends in it, by number, and each is one that the bridge which the link leaves sent
-- in the cycle
pub record ArePassedOn (d : Domain) (course : DrivenCourse) (bridge cycle : ℕ) : Type 0 where
  pub one_each : map (λ (x : LinkBatch). x.link) (course.handed bridge cycle) ≡ links_into d bridge
  pub was_sent : (x : LinkBatch) → Contains (course.handed bridge cycle) x → Contains (course.sent (bridge_of d x.link) cycle) x

-- a bridge sends a cycle, with the run's background frames
abbrev pub SendsInCourse : Run → DrivenCourse → ℕ → ℕ → Type 0
SendsInCourse run course bridge cycle =
    SendsCycle (course.before bridge cycle) (course.halfway bridge cycle) cycle (backed_for run.domain run.background bridge cycle)
    (course.given bridge cycle) (course.given bridge cycle ++ course.sent bridge cycle)

-- a bridge sends a cycle, and receives it with the run's table and offers
pub record GoesThrough (run : Run) (course : DrivenCourse) (bridge cycle : ℕ) : Type 0 where
  pub sends : SendsInCourse run course bridge cycle
  pub passed_on : ArePassedOn run.domain course bridge cycle
  pub receives : ReceivesCycle run (course.halfway bridge cycle) (course.before bridge (cycle + 1)) cycle (course.handed bridge cycle)
      (course.dropped bridge cycle)

-- the bridges of the run's domain begin with nothing done, and go through this many cycles
pub record AreDriven (run : Run) (cycles : ℕ) (course : DrivenCourse) : Type 0 where
  pub begin : (bridge : ℕ) → bridge < length run.domain.bridges → course.before bridge 0 ≡ new_bridge run.domain bridge
  pub go_on : (bridge cycle : ℕ) → bridge < length run.domain.bridges → cycle < cycles → GoesThrough run course bridge cycle

-- each bridge that is driven in this way follows the network before each cycle and after the last one, and has sent as the network does in
-- between. The network may be one of more cycles
abbrev pub DrivenBridgesFollow : Type 0
DrivenBridgesFollow = (run : Run) (cycles driven bridge cycle : ℕ) (net : Network) (course : DrivenCourse) → IsCompiledNetwork run cycles net →
    driven ≤ cycles → AreDriven run driven course → bridge < length run.domain.bridges → cycle ≤ driven →
    FollowsTheNetwork run net (course.before bridge cycle)

abbrev pub DrivenBridgesSend : Type 0
DrivenBridgesSend = (run : Run) (cycles driven bridge cycle : ℕ) (net : Network) (course : DrivenCourse) → IsCompiledNetwork run cycles net →
    driven ≤ cycles → AreDriven run driven course → bridge < length run.domain.bridges → cycle < driven →
    HasSentOfTheNetwork run net (course.halfway bridge cycle)

-- a bridge's output in a cycle
abbrev pub page_of_course : DrivenCourse → ℕ → ℕ → Contents
page_of_course course bridge cycle =
    page_given (course.sent bridge cycle) (course.halfway bridge cycle).background (course.dropped bridge cycle)

-- so the bridges' output is the run's book, page by page
abbrev pub DrivenBridgesGiveTheirPages : Type 0
DrivenBridgesGiveTheirPages = (run : Run) (cycles bridge cycle : ℕ) (course : DrivenCourse) (book : Contents) → IsAccepted run.domain →
    IsBook run (compiled_lists run.domain) cycles book → AreDriven run cycles course → bridge < length run.domain.bridges → cycle < cycles →
    page_of run.domain bridge cycle book ≡ page_of_course course bridge cycle

abbrev pub DrivenBridgesGiveTheBook : Type 0
DrivenBridgesGiveTheBook = (run : Run) (cycles : ℕ) (course : DrivenCourse) (book : Contents) → IsAccepted run.domain →
    IsBook run (compiled_lists run.domain) cycles book → AreDriven run cycles course →
    book ≡ book_of_pages run.domain cycles (page_of_course course)

-- a bridge that was driven through the cycles before this one refuses to send it only if an allocation fails
abbrev pub DrivenBridgesSendButForMemory : Type 0
DrivenBridgesSendButForMemory = (run : Run) (cycles cycle bridge : ℕ) (net : Network) (course : DrivenCourse) (after : BridgeState) (fault : BridgeFault) →
    IsCompiledNetwork run cycles net → cycle ≤ cycles → AreDriven run cycle course → bridge < length run.domain.bridges →
    IsSendFault (course.before bridge cycle) after cycle fault → fault ≡ Memory

-- the bridges were driven through the cycles before this one, and all have sent it
pub record HaveAllSent (run : Run) (course : DrivenCourse) (cycle : ℕ) : Type 0 where
  pub driven : AreDriven run cycle course
  pub sent_it : (bridge : ℕ) → bridge < length run.domain.bridges → SendsInCourse run course bridge cycle

-- if nothing is lost inside, a bridge that is given what the others sent refuses to receive the cycle only if an allocation fails
abbrev pub DrivenBridgesReceiveButForMemory : Type 0
DrivenBridgesReceiveButForMemory = (run : Run) (cycles cycle bridge : ℕ) (net : Network) (course : DrivenCourse) (after : BridgeState) (fault : BridgeFault) →
    IsCompiledNetwork run cycles net → LosesNothing run cycles net → cycle < cycles → HaveAllSent run course cycle →
    bridge < length run.domain.bridges → ArePassedOn run.domain course bridge cycle →
    IsReceiveFault run (course.halfway bridge cycle) after cycle (handed_with run cycle (course.handed bridge cycle)) fault → fault ≡ Memory

-- the output of driven bridges under the tables of a legal history says the shift: each frame that its reservation covers leaves its path's
-- k-th bridge on each branch k cycles after its own cycle, once; no other frame leaves; and every other offer is dropped at its edge
-- bridge, once, with its reason. The network of this book loses nothing inside, and its loads, instants and latencies are as promised
abbrev pub DrivenBridgesSayTheShift : Type 0
DrivenBridgesSayTheShift =
    (d : Domain) (entries : List Recorded) (offers : List Offer) (background : List Background) (cycles : ℕ) (course : DrivenCourse) →
    IsAccepted d → IsLegalHistory d entries → cycles ≤ seals entries → AreOffers d offers → AreBackground d background →
    (let run = run_of_history d entries offers background cycles in
    AreDriven run cycles course → KeepsThePromise run (book_of_pages d cycles (page_of_course course)))
