-- Bridges that exchange their batches follow the network together.
use Rattle.std.proofs.Common.{refl, ◌≡◌, ℕ, zero, suc, ◌+◌, ◌≤◌, ◌<◌, List, ◌++◌, length, map, sym, ap, ◌∙◌, arith, subst, Contains}
use Rattle.std.proofs.lemmas.List.{append_cancel_left, map-id}
use Rattle.std.proofs.lemmas.Simd.{map-map}
use Rattle.cqf_lists.proofs.Made.{map_same}
use Rattle.cqf_lists.proofs.Members.{contains_from_map, contains_map}
use Rattle.cqf_lists.proofs.Numbers.{kept_number}
use Rattle.cqf_model.specs.Book.{Contents, IsBook, background_in, page_of}
use Rattle.cqf_model.specs.Domain.{IsAccepted, bridge_of, enters}
use Rattle.cqf_model.specs.Network.{Network, compiled_lists, LosesNothing}
use Rattle.cqf_model.specs.Run.{Run}
use Rattle.cqf_model.proofs.Links.{bridge_within}
use Rattle.cqf_laws_cycle.specs.BridgeCycle.{IsCompiledNetwork}
use Rattle.cqf_laws_cycle.specs.Gathered.{backed_for}
use Rattle.cqf_laws_cycle.specs.PageLaws.{BookIsItsPages, IsSomeBook, book_of_pages, on_links_of}
use Rattle.cqf_laws_cycle.proofs.PageParts.{same_pages}
use Rattle.cqf_bridge.specs.declared.faults.BridgeFault.{BridgeFault}
use Rattle.cqf_bridge.specs.declared.faults.BridgeFault.TheVariants.{Memory}
use Rattle.cqf_bridge.specs.Batch.{LinkBatch}
use Rattle.cqf_agenda.specs.Links.{links_from, links_into}
use Rattle.cqf_bridge.specs.BridgeState.{BridgeState, SendsCycle}
use Rattle.cqf_bridge.specs.Receiving.{IsReceiveFault, ReceivesCycle}
use Rattle.cqf_bridge.specs.Faults.{IsSendFault}
use Rattle.cqf_bridge.specs.Cycles.{GivesTheBatches, GivesTheDrops, NewBridgeFollows, PageFollows}
use Rattle.cqf_bridge.specs.Cycles.{ReceivingFollows, SendingFollows, drops_of_cycle, page_given}
use Rattle.cqf_bridge.specs.Driven.{AreDriven, ArePassedOn, DrivenCourse, GoesThrough, SendsInCourse, page_of_course}
use Rattle.cqf_bridge.specs.Follows.{FollowsTheNetwork, HasSentOfTheNetwork, batch_of, batches_from, batches_into, handed_with}
use Rattle.cqf_bridge.specs.NoFaults.{ReceivesButForMemory, SendsButForMemory}

-- a bridge follows the network before a cycle
pub record IsBefore (run : Run) (net : Network) (course : DrivenCourse) (bridge cycle : ℕ) : Type 0 where
  pub follows : FollowsTheNetwork run net (course.before bridge cycle)
  pub received : (course.before bridge cycle).received ≡ cycle
  pub number : (course.before bridge cycle).number ≡ bridge

module _ (run : Run) (cycles : ℕ) (net : Network) (course : DrivenCourse) (compiled : IsCompiledNetwork run cycles net) (sending : SendingFollows)
    (receiving : ReceivingFollows) where
  -- it returns the network's batches in the cycle
  gives : (bridge cycle : ℕ) → cycle < cycles → IsBefore run net course bridge cycle → SendsInCourse run course bridge cycle →
      GivesTheBatches run cycle net (course.before bridge cycle) (course.halfway bridge cycle) (course.given bridge cycle)
      (course.given bridge cycle ++ course.sent bridge cycle)
  gives bridge cycle within is sends =
      let before = course.before bridge cycle in
      let halfway = course.halfway bridge cycle in
      let given = course.given bridge cycle in
      let given_after = given ++ course.sent bridge cycle in
      sending run cycles cycle net before halfway given given_after
      (record {
        compiled = compiled;
        follows = is.follows;
        next = (sym is.received, is.follows.turn);
        within_run = within;
        sends = subst (λ (b : ℕ). SendsCycle before halfway cycle (backed_for run.domain run.background b cycle) given given_after) (sym is.number)
            sends;
      })

  -- those that it sent
  sent_are : (bridge cycle : ℕ) → cycle < cycles → IsBefore run net course bridge cycle → SendsInCourse run course bridge cycle →
      course.sent bridge cycle ≡ batches_from run.domain net.carried bridge cycle
  sent_are bridge cycle within is sends =
      let given = course.given bridge cycle in
      append_cancel_left given (course.sent bridge cycle) (batches_from run.domain net.carried bridge cycle)
      ((gives bridge cycle within is sends).batches ∙ ap (λ (b : ℕ). given ++ batches_from run.domain net.carried b cycle) is.number)

  module _ (cycle : ℕ) (within : cycle < cycles) (all : (bridge : ℕ) → bridge < length run.domain.bridges → IsBefore run net course bridge cycle)
      (send : (bridge : ℕ) → bridge < length run.domain.bridges → SendsInCourse run course bridge cycle) where
    -- a batch that a bridge is given is the network's
    handed_is : (bridge : ℕ) → ArePassedOn run.domain course bridge cycle → (x : LinkBatch) → Contains (course.handed bridge cycle) x →
        x ≡ batch_of run.domain net.carried cycle x.link
    handed_is bridge passed x held =
        let d = run.domain in
        let listed : Contains (links_into d bridge) x.link =
        subst (λ (ls : List ℕ). Contains ls x.link) passed.one_each (contains_map (λ (y : LinkBatch). y.link) (course.handed bridge cycle) x held) in
        let in_links = (kept_number (λ l. enters d l bridge) (length d.links) x.link listed).0 in
        let from = bridge_of d x.link in
        let in_bridges = bridge_within d x.link compiled.accepted in_links in
        let of_network : Contains (batches_from d net.carried from cycle) x =
        subst (λ (xs : List LinkBatch). Contains xs x) (sent_are from cycle within (all from in_bridges) (send from in_bridges)) (passed.was_sent x held) in
        let f = contains_from_map (batch_of d net.carried cycle) (links_from d from) x of_network in
        sym f.2 ∙ ap (batch_of d net.carried cycle) (ap (λ (y : LinkBatch). y.link) f.2)

    -- so all that it is given are
    handed_are : (bridge : ℕ) → ArePassedOn run.domain course bridge cycle → course.handed bridge cycle ≡ batches_into run.domain net.carried bridge cycle
    handed_are bridge passed =
        let of_link = batch_of run.domain net.carried cycle in
        let handed = course.handed bridge cycle in
        sym (map-id handed)
        ∙ map_same (λ (x : LinkBatch). x) (λ (x : LinkBatch). of_link x.link) handed (handed_is bridge passed)
        ∙ sym (map-map of_link (λ (x : LinkBatch). x.link) handed)
        ∙ ap (map of_link) passed.one_each

    -- and halfway it has sent as the network does
    halfway_is : (bridge : ℕ) → bridge < length run.domain.bridges →
        HasSentOfTheNetwork run net (course.halfway bridge cycle) × ((course.halfway bridge cycle).received ≡ cycle)
        × ((course.halfway bridge cycle).number ≡ bridge)
    halfway_is bridge inside =
        let g = gives bridge cycle within (all bridge inside) (send bridge inside) in
        (g.has_sent, g.cycle_same, g.number ∙ (all bridge inside).number)

    -- then it drops what the network drops
    drops : (bridge : ℕ) → bridge < length run.domain.bridges → GoesThrough run course bridge cycle →
        GivesTheDrops run cycle net (course.halfway bridge cycle) (course.before bridge (cycle + 1)) (course.dropped bridge cycle)
    drops bridge inside through =
        let halfway = course.halfway bridge cycle in
        let after = course.before bridge (cycle + 1) in
        let dropped = course.dropped bridge cycle in
        let h = halfway_is bridge inside in
        receiving run cycles cycle net halfway after dropped
        (record {
          compiled = compiled;
          has_sent = h.0;
          next = sym h.1;
          receives = subst (λ (xs : List LinkBatch). ReceivesCycle run halfway after cycle xs dropped)
              (handed_are bridge through.passed_on ∙ ap (λ (b : ℕ). batches_into run.domain net.carried b cycle) (sym h.2))
              through.receives;
        })

    -- so it follows the network before the next cycle
    next_before : (bridge : ℕ) → bridge < length run.domain.bridges → GoesThrough run course bridge cycle → IsBefore run net course bridge (cycle + 1)
    next_before bridge inside through =
        let r = drops bridge inside through in
        record { follows = r.follows; received = r.one_on; number = r.number ∙ (halfway_is bridge inside).2 }

    -- its output in a cycle is the network's part for it
    course_is : (bridge : ℕ) → bridge < length run.domain.bridges → GoesThrough run course bridge cycle →
        page_of_course course bridge cycle
        ≡ page_given (batches_from run.domain net.carried bridge cycle) (on_links_of run.domain bridge (background_in run.domain net.backed cycle))
        (drops_of_cycle run net bridge cycle)
    course_is bridge inside through =
        let is = all bridge inside in
        let g = gives bridge cycle within is (send bridge inside) in
        let sent = sent_are bridge cycle within is (send bridge inside) in
        let others = g.background ∙ ap (λ (b : ℕ). on_links_of run.domain b (background_in run.domain net.backed cycle)) is.number in
        let dropped = (drops bridge inside through).are_drops ∙ ap (λ (b : ℕ). drops_of_cycle run net b cycle) (halfway_is bridge inside).2 in
        λ i. page_given (sent i) (others i) (dropped i)

    -- and if nothing is lost, it refuses to receive only if memory is refused
    receives_then : ReceivesButForMemory → LosesNothing run cycles net → (bridge : ℕ) (after : BridgeState) (fault : BridgeFault) →
        bridge < length run.domain.bridges → ArePassedOn run.domain course bridge cycle →
        IsReceiveFault run (course.halfway bridge cycle) after cycle (handed_with run cycle (course.handed bridge cycle)) fault → fault ≡ Memory
    receives_then but_for_memory loses bridge after fault inside passed h =
        let halfway = course.halfway bridge cycle in
        let is = halfway_is bridge inside in
        but_for_memory run cycles cycle net halfway after fault compiled loses is.0.of_run.domain
        (record { not_spent = is.0.of_run.not_spent; next = (sym is.1, is.0.turn, refl) }) within
        (subst (λ (xs : List LinkBatch). IsReceiveFault run halfway after cycle (handed_with run cycle xs) fault)
        (handed_are bridge passed ∙ ap (λ (b : ℕ). batches_into run.domain net.carried b cycle) (sym is.2)) h)

  module _ (driven : ℕ) (few : driven ≤ cycles) (are : AreDriven run driven course) (begins : NewBridgeFollows) where
    -- and so each does before each cycle
    pub all_before : (cycle : ℕ) → cycle ≤ driven → (bridge : ℕ) → bridge < length run.domain.bridges → IsBefore run net course bridge cycle
    all_before zero upto bridge inside =
        let new = are.begin bridge inside in
        record {
          follows = subst (FollowsTheNetwork run net) (sym new) (begins run net bridge inside);
          received = ap (λ (b : BridgeState). b.received) new;
          number = ap (λ (b : BridgeState). b.number) new;
        }
    all_before (suc cycle) upto bridge inside =
        let within : cycle < driven = omega (arith, upto) in
        let next : cycle + 1 ≡ suc cycle = omega arith in
        subst (IsBefore run net course bridge) next
        (next_before cycle (omega (arith, within, few)) (all_before cycle (omega (arith, upto))) (λ b in_bridges. (are.go_on b cycle in_bridges within).sends)
        bridge inside (are.go_on bridge cycle inside within))

    -- halfway it has sent as the network does
    pub all_halfway : (cycle : ℕ) → cycle < driven → (bridge : ℕ) → bridge < length run.domain.bridges →
        HasSentOfTheNetwork run net (course.halfway bridge cycle)
    all_halfway cycle within bridge inside =
        (halfway_is cycle (omega (arith, within, few)) (all_before cycle (omega (arith, within))) (λ b in_bridges. (are.go_on b cycle in_bridges within).sends)
        bridge inside).0

    -- and its output is the network's part for it
    pub all_given : (cycle : ℕ) → cycle < driven → (bridge : ℕ) → bridge < length run.domain.bridges →
        page_of_course course bridge cycle
        ≡ page_given (batches_from run.domain net.carried bridge cycle) (on_links_of run.domain bridge (background_in run.domain net.backed cycle))
        (drops_of_cycle run net bridge cycle)
    all_given cycle within bridge inside =
        course_is cycle (omega (arith, within, few)) (all_before cycle (omega (arith, within))) (λ b in_bridges. (are.go_on b cycle in_bridges within).sends)
        bridge inside (are.go_on bridge cycle inside within)

    -- the next cycle it refuses to send only if memory is refused
    pub all_send : SendsButForMemory → (bridge : ℕ) (after : BridgeState) (fault : BridgeFault) → bridge < length run.domain.bridges →
        IsSendFault (course.before bridge driven) after driven fault → fault ≡ Memory
    all_send but_for_memory bridge after fault inside h =
        let is = all_before driven (omega arith) bridge inside in
        but_for_memory driven (course.before bridge driven) after fault is.follows.of_run.not_spent (sym is.received, is.follows.turn) h

    -- and if nothing is lost, it refuses to receive it only if memory is refused
    pub all_receive : ReceivesButForMemory → LosesNothing run cycles net → driven < cycles →
        ((bridge : ℕ) → bridge < length run.domain.bridges → SendsInCourse run course bridge driven) → (bridge : ℕ) (after : BridgeState)
        (fault : BridgeFault) → bridge < length run.domain.bridges → ArePassedOn run.domain course bridge driven →
        IsReceiveFault run (course.halfway bridge driven) after driven (handed_with run driven (course.handed bridge driven)) fault → fault ≡ Memory
    all_receive but_for_memory loses within send = receives_then driven within (all_before driven (omega arith)) send but_for_memory loses

module _ (begins : NewBridgeFollows) (sending : SendingFollows) (receiving : ReceivingFollows) (page_follows : PageFollows)
    (run : Run) (cycles : ℕ) (course : DrivenCourse) (book : Contents) (accepted : IsAccepted run.domain)
    (is : IsBook run (compiled_lists run.domain) cycles book) (are : AreDriven run cycles course) where
  -- a bridge's output in a cycle is its page
  pub page_is_of_course : (bridge cycle : ℕ) → bridge < length run.domain.bridges → cycle < cycles →
      page_of run.domain bridge cycle book ≡ page_of_course course bridge cycle
  page_is_of_course bridge cycle inside within =
      let compiled : IsCompiledNetwork run cycles is.net = record { accepted = accepted; legal = is.legal } in
      page_follows run cycles cycle bridge is.net book compiled is inside within
      ∙ sym (all_given run cycles is.net course compiled sending receiving cycles (omega arith) are begins cycle within bridge inside)

  -- and their whole output is the book
  pub book_is_of_course : BookIsItsPages → book ≡ book_of_pages run.domain cycles (page_of_course course)
  book_is_of_course are_pages =
      let d = run.domain in
      let some : IsSomeBook d cycles book = record {
        tables = run.tables;
        offers = run.offers;
        background = run.background;
        lists = compiled_lists d;
        is_book = is;
      } in
      are_pages d cycles book some
      ∙ same_pages d cycles (λ bridge cycle. page_of d bridge cycle book) (page_of_course course) accepted page_is_of_course
