-- Laws about bridges that each go on at their own pace, in a planner's words.
use Rattle.std.specs.Prelude.{ℕ, ◌≡◌, ◌+◌, ◌≤◌, ◌<◌, List, Some, length, slice_get, false, true}
use Rattle.cqf_model.specs.Book.{Contents, page_of}
use Rattle.cqf_model.specs.Domain.{enters}
use Rattle.cqf_model.specs.History.{Recorded}
use Rattle.cqf_model.specs.HistoryBook.{IsBookOfHistory}
use Rattle.cqf_model.specs.Run.{Run}
use Rattle.cqf_model.specs.Table.{table_of}
use Rattle.cqf_laws_cycle.specs.Gathered.{offered_for}
use Rattle.cqf_bridge.specs.declared.faults.BridgeFault.{BridgeFault}
use Rattle.cqf_bridge.specs.declared.faults.BridgeFault.TheVariants.{Memory}
use Rattle.cqf_bridge.specs.BridgeState.{BridgeState}
use Rattle.cqf_bridge.specs.Faults.{IsSendFault}
use Rattle.cqf_bridge.specs.Receiving.{Handed, IsReceiveFault, IsRunOfBridge}
use Rattle.cqf_bridge.specs.Courses.{AreUnderWay, Course, HasWorked, IsGiven, Traffic, posted, taken_in}

-- each page that was posted is that page of the one-thread book of the history, over any number of its cycles that includes the page's
abbrev pub PagesAreOfTheBook : Type 0
PagesAreOfTheBook =
    (t : Traffic) (entries : List Recorded) (course : Course) (cycles bridge cycle : ℕ) (book page : Contents) → IsGiven t entries →
    AreUnderWay t entries course → IsBookOfHistory t.domain entries t.offers t.background cycles book → bridge < length t.domain.bridges →
    cycle < cycles → slice_get (course.pages bridge) cycle ≡ Some page → page ≡ page_of t.domain bridge cycle book

-- a bridge of the domain isn't spent, and has sent and received these numbers of cycles
pub record HasGone (t : Traffic) (bridge sent received : ℕ) (b : BridgeState) : Type 0 where
  pub domain : b.domain ≡ t.domain
  pub number : b.number ≡ bridge
  pub not_spent : b.spent ≡ false
  pub has_sent : b.sent ≡ sent
  pub has_received : b.received ≡ received

-- each bridge has this state before each of its cycles and after the last one; and: each bridge has this state halfway through each cycle
abbrev pub BridgesStandBefore : Type 0
BridgesStandBefore =
    (t : Traffic) (entries : List Recorded) (course : Course) (bridge cycle : ℕ) (worked : HasWorked t course bridge) → IsGiven t entries →
    AreUnderWay t entries course → bridge < length t.domain.bridges → cycle ≤ posted course bridge →
    HasGone t bridge cycle cycle (worked.before cycle)

abbrev pub BridgesStandHalfway : Type 0
BridgesStandHalfway =
    (t : Traffic) (entries : List Recorded) (course : Course) (bridge cycle : ℕ) (worked : HasWorked t course bridge) → IsGiven t entries →
    AreUnderWay t entries course → bridge < length t.domain.bridges → cycle < course.sent bridge →
    HasGone t bridge (cycle + 1) cycle (worked.halfway cycle)

-- under the tables of one history, a bridge refuses to send its next cycle only if an allocation fails
abbrev pub BridgesSendButForMemory : Type 0
BridgesSendButForMemory =
    (t : Traffic) (entries : List Recorded) (course : Course) (bridge : ℕ) (worked : HasWorked t course bridge) (after : BridgeState)
    (fault : BridgeFault) → IsGiven t entries → AreUnderWay t entries course → bridge < length t.domain.bridges →
    IsSendFault (worked.before (posted course bridge)) after (posted course bridge) fault → fault ≡ Memory

-- a bridge has sent its next cycle, and has the cycle's table and a batch of each link that ends in it
pub record HasAll (t : Traffic) (course : Course) (bridge : ℕ) : Type 0 where
  pub has_sent : posted course bridge < course.sent bridge
  pub has_table : posted course bridge < length (course.tables bridge)
  pub has_batches : (l : ℕ) → enters t.domain l bridge ≡ true → posted course bridge < length (course.taken l)

-- what it is given with that cycle
abbrev pub handed_next : Traffic → Course → ℕ → Handed
handed_next t course bridge = record {
  table_cycle = posted course bridge;
  rows = table_of (course.tables bridge) (posted course bridge);
  batches = taken_in t.domain course bridge (posted course bridge);
}

-- under the tables of one history, a bridge that has all that its next cycle requires refuses to receive the cycle only if an allocation
-- fails
abbrev pub BridgesReceiveButForMemory : Type 0
BridgesReceiveButForMemory =
    (t : Traffic) (entries : List Recorded) (course : Course) (bridge : ℕ) (worked : HasWorked t course bridge) (after : BridgeState)
    (fault : BridgeFault) → IsGiven t entries → AreUnderWay t entries course → bridge < length t.domain.bridges → HasAll t course bridge →
    ((run : Run) → IsRunOfBridge t.domain bridge (posted course bridge) (table_of (course.tables bridge) (posted course bridge))
    (offered_for t.domain t.offers bridge (posted course bridge)) run →
    IsReceiveFault run (worked.halfway (posted course bridge)) after (posted course bridge) (handed_next t course bridge) fault) → fault ≡ Memory
