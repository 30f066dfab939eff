-- Bridges that each go on at their own pace follow the network of their run.
use Rattle.std.proofs.Common.{◌≡◌, ℕ, zero, suc, ◌+◌, ◌≤◌, ◌<◌, List, ◌++◌, [], ◌∷◌, Some, length, sym, ap, ◌∙◌, arith, subst, Contains, inl, inr, refl}
use Rattle.std.specs.Prelude.{slice_get, true}
use Rattle.std.specs.Option.{option_to_list}
use Rattle.std.proofs.lemmas.Option.{same_Some, slice_get_cases, slice_get_within}
use Rattle.cqf_lists.proofs.Members.{contains_from_map}
use Rattle.cqf_lists.proofs.Ones.{flat_map_ones}
use Rattle.cqf_lists.proofs.Indices.{slice_get_front}
use Rattle.cqf_lists.proofs.EachBelow.{get_or-singles}
use Rattle.cqf_laws_history.specs.HistoryLaws.{ThereAreSoManyTables}
use Rattle.cqf_model.specs.declared.topology.Row.{Row}
use Rattle.cqf_model.specs.Book.{Contents, IsBook, background_in, page_of}
use Rattle.cqf_model.specs.Domain.{bridge_of, enters}
use Rattle.cqf_model.specs.History.{Recorded, seals, table_at, tables_of}
use Rattle.cqf_model.specs.HistoryBook.{IsBookOfHistory}
use Rattle.cqf_model.specs.Network.{Network, compiled_lists}
use Rattle.cqf_model.specs.Run.{AreOffers, Run}
use Rattle.cqf_model.specs.Table.{table_of}
use Rattle.cqf_model.proofs.Links.{bridge_within, leaves_its_bridge}
use Rattle.cqf_laws_cycle.specs.BridgeCycle.{IsCompiledNetwork}
use Rattle.cqf_laws_cycle.specs.PageLaws.{on_links_of}
use Rattle.cqf_laws_cycle.specs.Gathered.{backed_for, offered_for}
use Rattle.cqf_bridge.specs.declared.faults.BridgeFault.{BridgeFault}
use Rattle.cqf_bridge.specs.declared.faults.BridgeFault.TheVariants.{Memory}
use Rattle.cqf_bridge.specs.Batch.{LinkBatch}
use Rattle.cqf_agenda.specs.Links.{links_from, links_into}
use Rattle.cqf_bridge.specs.BridgeState.{BridgeState, SendsCycle}
use Rattle.cqf_bridge.specs.Faults.{IsSendFault}
use Rattle.cqf_bridge.specs.Receiving.{Handed, IsReceiveFault, IsRunOfBridge, ReceivesCycle}
use Rattle.cqf_bridge.specs.Cycles.{GivesTheBatches, GivesTheDrops, NewBridgeFollows, PageFollows}
use Rattle.cqf_bridge.specs.Cycles.{ReceivingFollows, SendingFollows, drops_of_cycle, page_given}
use Rattle.cqf_bridge.specs.Follows.{FollowsTheNetwork, HasSentOfTheNetwork, batch_of, batches_from, batches_into, handed_in}
use Rattle.cqf_bridge.specs.NoFaults.{ReceivesButForMemory, RunOfHistoryLosesNothing, SendsButForMemory}
use Rattle.cqf_laws_network.specs.NetworkLaws.{LegalNetworkExists}
use Rattle.cqf_bridge.specs.CourseLaws.{HasAll, HasGone, handed_next}
use Rattle.cqf_bridge.specs.Courses.{AreUnderWay, Course, HasWorked, IsGiven, Traffic, posted, taken_in}
use Rattle.cqf_agenda.proofs.LinkNumbers.{link_into}

-- the run of a domain's input, with these tables
abbrev pub run_with : Traffic → List (List Row) → Run
run_with t tables = record { domain = t.domain; tables = tables; offers = t.offers; background = t.background }

-- a bridge that follows the network before a cycle
pub record IsBefore (run : Run) (net : Network) (bridge cycle : ℕ) (b : BridgeState) : Type 0 where
  pub follows : FollowsTheNetwork run net b
  pub received : b.received ≡ cycle
  pub number : b.number ≡ bridge

-- and one that has sent as the network does, halfway
pub record IsHalfway (run : Run) (net : Network) (bridge cycle : ℕ) (b : BridgeState) : Type 0 where
  pub has_sent : HasSentOfTheNetwork run net b
  pub received : b.received ≡ cycle
  pub number : b.number ≡ bridge

-- the run of the bridges' tables, and its network
pub record IsFollowed (t : Traffic) (course : Course) (tables : List (List Row)) (cycles : ℕ) (net : Network) : Type 0 where
  pub compiled : IsCompiledNetwork (run_with t tables) cycles net
  pub offers : AreOffers t.domain t.offers
  pub worked : (bridge : ℕ) → bridge < length t.domain.bridges → HasWorked t course bridge
  pub tables_are : (bridge cycle : ℕ) → bridge < length t.domain.bridges → cycle < cycles → cycle < length (course.tables bridge) →
      table_of tables cycle ≡ table_of (course.tables bridge) cycle
  pub links : (l : ℕ) → l < length t.domain.links → (rest : List LinkBatch) × (course.put l ≡ course.taken l ++ rest)

module _ (t : Traffic) (course : Course) (tables : List (List Row)) (cycles : ℕ) (net : Network) (is : IsFollowed t course tables cycles net)
    (sending : SendingFollows) (receiving : ReceivingFollows) where
  -- a bridge that follows the network returns its batches in the next cycle
  gives : (bridge cycle : ℕ) (w : HasWorked t course bridge) → cycle < cycles → cycle < course.sent bridge →
      IsBefore (run_with t tables) net bridge cycle (w.before cycle) →
      GivesTheBatches (run_with t tables) cycle net (w.before cycle) (w.halfway cycle) [] (w.batches cycle)
  gives bridge cycle w within sent before =
      sending (run_with t tables) cycles cycle net (w.before cycle) (w.halfway cycle) [] (w.batches cycle)
      (record {
        compiled = is.compiled;
        follows = before.follows;
        next = (sym before.received, before.follows.turn);
        within_run = within;
        sends = subst (λ (b : ℕ). SendsCycle (w.before cycle) (w.halfway cycle) cycle (backed_for t.domain t.background b cycle) [] (w.batches cycle))
            (sym before.number) (w.sends cycle sent);
      })

  -- those that it sent
  sent_are : (bridge cycle : ℕ) (w : HasWorked t course bridge) → cycle < cycles → cycle < course.sent bridge →
      IsBefore (run_with t tables) net bridge cycle (w.before cycle) → w.batches cycle ≡ batches_from t.domain net.carried bridge cycle
  sent_are bridge cycle w within sent before =
      (gives bridge cycle w within sent before).batches ∙ ap (λ (b : ℕ). batches_from t.domain net.carried b cycle) before.number

  module _ (cycle : ℕ) (within : cycle < cycles)
      (all : (bridge : ℕ) (w : HasWorked t course bridge) → bridge < length t.domain.bridges → cycle ≤ posted course bridge →
      IsBefore (run_with t tables) net bridge cycle (w.before cycle)) where
    -- a batch that was taken in the cycle is the network's
    taken_is : (l : ℕ) (x : LinkBatch) → l < length t.domain.links → slice_get (course.taken l) cycle ≡ Some x →
        x ≡ batch_of t.domain net.carried cycle l
    taken_is l x inside there =
        let d = t.domain in
        let from = bridge_of d l in
        let in_bridges = bridge_within d l is.compiled.accepted inside in
        let w = is.worked from in_bridges in
        let rest = is.links l inside in
        let was_put : slice_get (course.put l) cycle ≡ Some x =
        ap (λ (xs : List LinkBatch). slice_get xs cycle) rest.1
        ∙ slice_get_front (course.taken l) rest.0 cycle (slice_get_within (course.taken l) cycle x there)
        ∙ there in
        let p = w.puts l cycle x (leaves_its_bridge d l inside) was_put in
        let before = all from w in_bridges (omega (arith, p.0, w.not_ahead)) in
        let of_network : Contains (batches_from d net.carried from cycle) x =
        subst (λ (xs : List LinkBatch). Contains xs x) (sent_are from cycle w within p.0 before) p.1 in
        let f = contains_from_map (batch_of d net.carried cycle) (links_from d from) x of_network in
        let on_link : f.0 ≡ l = ap (λ (y : LinkBatch). y.link) f.2 ∙ p.2 in
        sym f.2 ∙ ap (batch_of d net.carried cycle) on_link

    -- so all that a bridge takes in the cycle are
    all_taken_are : (bridge : ℕ) → ((l : ℕ) → enters t.domain l bridge ≡ true → cycle < length (course.taken l)) →
        taken_in t.domain course bridge cycle ≡ batches_into t.domain net.carried bridge cycle
    all_taken_are bridge has =
        flat_map_ones (λ (l : ℕ). option_to_list (slice_get (course.taken l) cycle)) (batch_of t.domain net.carried cycle) (links_into t.domain bridge) one
      where
        -- of one link
        one : (l : ℕ) → Contains (links_into t.domain bridge) l →
            option_to_list (slice_get (course.taken l) cycle) ≡ batch_of t.domain net.carried cycle l ∷ []
        one l listed =
            let k = link_into t.domain bridge l listed in
            elim (slice_get_cases (course.taken l) cycle).1 [
              | inl s ↦
                  ap option_to_list s.2 ∙ ap (λ (x : LinkBatch). x ∷ []) (taken_is l s.0 k.0 s.2)
              | inr s ↦ absurd (omega (arith, s.0, has l k.1))
            ]

    -- halfway it has sent as the network does
    halfway_is : (bridge : ℕ) (w : HasWorked t course bridge) → bridge < length t.domain.bridges → cycle < course.sent bridge →
        IsHalfway (run_with t tables) net bridge cycle (w.halfway cycle)
    halfway_is bridge w inside sent =
        let before = all bridge w inside (omega (arith, sent, w.not_ahead)) in
        let g = gives bridge cycle w within sent before in
        record { has_sent = g.has_sent; received = g.cycle_same; number = g.number ∙ before.number }

    -- then it drops what the network drops
    drops : (bridge : ℕ) (w : HasWorked t course bridge) → bridge < length t.domain.bridges → cycle < posted course bridge →
        GivesTheDrops (run_with t tables) cycle net (w.halfway cycle) (w.before (cycle + 1)) (w.dropped cycle)
    drops bridge w inside has =
        let run = run_with t tables in
        let h = halfway_is bridge w inside (omega (arith, has, w.not_after)) in
        let of_run : IsRunOfBridge t.domain bridge cycle (table_of (course.tables bridge) cycle) (offered_for t.domain t.offers bridge cycle) run = record {
          domain = refl;
          table = is.tables_are bridge cycle inside within (omega (arith, has, w.had_table));
          good = is.offers;
          here = refl;
        } in
        let taken = all_taken_are bridge (λ l here. omega (arith, has, w.had_batches l here)) in
        receiving run cycles cycle net (w.halfway cycle) (w.before (cycle + 1)) (w.dropped cycle)
        (record {
          compiled = is.compiled;
          has_sent = h.has_sent;
          next = sym h.received;
          receives = subst (λ (xs : List LinkBatch). ReceivesCycle run (w.halfway cycle) (w.before (cycle + 1)) cycle xs (w.dropped cycle))
              (taken ∙ ap (λ (b : ℕ). batches_into t.domain net.carried b cycle) (sym h.number))
              (w.receives cycle run has of_run);
        })

    -- so it follows the network before the next cycle
    next_before : (bridge : ℕ) (w : HasWorked t course bridge) → bridge < length t.domain.bridges → cycle < posted course bridge →
        IsBefore (run_with t tables) net bridge (cycle + 1) (w.before (cycle + 1))
    next_before bridge w inside has =
        let r = drops bridge w inside has in
        let h = halfway_is bridge w inside (omega (arith, has, w.not_after)) in
        record { follows = r.follows; received = r.one_on; number = r.number ∙ h.number }

    -- its output in the cycle is the network's part for it
    page_is : (bridge : ℕ) (w : HasWorked t course bridge) → bridge < length t.domain.bridges → cycle < posted course bridge →
        page_given (w.batches cycle) (w.halfway cycle).background (w.dropped cycle)
        ≡ page_given (batches_from t.domain net.carried bridge cycle) (on_links_of t.domain bridge (background_in t.domain net.backed cycle))
        (drops_of_cycle (run_with t tables) net bridge cycle)
    page_is bridge w inside has =
        let sent : cycle < course.sent bridge = omega (arith, has, w.not_after) in
        let before = all bridge w inside (omega (arith, has)) in
        let batches = sent_are bridge cycle w within sent before in
        let others = (gives bridge cycle w within sent before).background
        ∙ ap (λ (b : ℕ). on_links_of t.domain b (background_in t.domain net.backed cycle)) before.number in
        let dropped = (drops bridge w inside has).are_drops
        ∙ ap (λ (b : ℕ). drops_of_cycle (run_with t tables) net b cycle) (halfway_is bridge w inside sent).number in
        λ i. page_given (batches i) (others i) (dropped i)

  -- each bridge follows the network before each of its cycles
  pub all_before : NewBridgeFollows → (cycle : ℕ) → cycle ≤ cycles → (bridge : ℕ) (w : HasWorked t course bridge) →
      bridge < length t.domain.bridges → cycle ≤ posted course bridge → IsBefore (run_with t tables) net bridge cycle (w.before cycle)
  all_before begins zero upto bridge w inside has = record {
    follows = subst (FollowsTheNetwork (run_with t tables) net) (sym w.began) (begins (run_with t tables) net bridge inside);
    received = ap (λ (b : BridgeState). b.received) w.began;
    number = ap (λ (b : BridgeState). b.number) w.began;
  }
  all_before begins (suc cycle) upto bridge w inside has =
      let next : cycle + 1 ≡ suc cycle = omega arith in
      subst (λ (n : ℕ). IsBefore (run_with t tables) net bridge n (w.before n)) next
      (next_before cycle (omega (arith, upto)) (all_before begins cycle (omega (arith, upto))) bridge w inside (omega (arith, has)))

  -- and has sent as it does halfway
  pub all_halfway : NewBridgeFollows → (cycle : ℕ) → cycle < cycles → (bridge : ℕ) (w : HasWorked t course bridge) →
      bridge < length t.domain.bridges → cycle < course.sent bridge → IsHalfway (run_with t tables) net bridge cycle (w.halfway cycle)
  all_halfway begins cycle within = halfway_is cycle within (all_before begins cycle (omega (arith, within)))

  -- its output is the network's part for it
  pub all_pages : NewBridgeFollows → (cycle : ℕ) → cycle < cycles → (bridge : ℕ) (w : HasWorked t course bridge) →
      bridge < length t.domain.bridges → cycle < posted course bridge →
      page_given (w.batches cycle) (w.halfway cycle).background (w.dropped cycle)
      ≡ page_given (batches_from t.domain net.carried bridge cycle) (on_links_of t.domain bridge (background_in t.domain net.backed cycle))
      (drops_of_cycle (run_with t tables) net bridge cycle)
  all_pages begins cycle within = page_is cycle within (all_before begins cycle (omega (arith, within)))

  -- what it takes is what the network sends to it
  pub all_taken : NewBridgeFollows → (cycle : ℕ) → cycle < cycles → (bridge : ℕ) →
      ((l : ℕ) → enters t.domain l bridge ≡ true → cycle < length (course.taken l)) →
      taken_in t.domain course bridge cycle ≡ batches_into t.domain net.carried bridge cycle
  all_taken begins cycle within = all_taken_are cycle within (all_before begins cycle (omega (arith, within)))

module _ (t : Traffic) (entries : List Recorded) (course : Course) (given : IsGiven t entries) (are : AreUnderWay t entries course) where
  -- the tables of the bridges are those of the run of the history
  pub follow_history : (cycles : ℕ) (net : Network) → IsCompiledNetwork (run_with t (tables_of t.domain entries cycles)) cycles net →
      IsFollowed t course (tables_of t.domain entries cycles) cycles net
  follow_history cycles net compiled = record {
    compiled = compiled;
    offers = given.offers;
    worked = are.worked;
    tables_are = λ bridge cycle inside within has. get_or-singles (table_at t.domain entries) cycles cycle [] within ∙ sym (are.tables bridge cycle inside has);
    links = are.links;
  }

  -- a page that was posted is the book's
  pub page_of_book : NewBridgeFollows → SendingFollows → ReceivingFollows → PageFollows → ThereAreSoManyTables →
      (cycles bridge cycle : ℕ) (book page : Contents) →
      IsBookOfHistory t.domain entries t.offers t.background cycles book → bridge < length t.domain.bridges → cycle < cycles →
      slice_get (course.pages bridge) cycle ≡ Some page → page ≡ page_of t.domain bridge cycle book
  page_of_book begins sending receiving page_follows count cycles bridge cycle book page of_history inside within there =
      let tables = tables_of t.domain entries cycles in
      let run = run_with t tables in
      let is : IsBook run (compiled_lists t.domain) cycles book =
      subst (λ (n : ℕ). IsBook run (compiled_lists t.domain) n book) (count t.domain entries cycles) of_history.is_book in
      let compiled : IsCompiledNetwork run cycles is.net = record { accepted = given.accepted; legal = is.legal } in
      let w = are.worked bridge inside in
      let has = slice_get_within (course.pages bridge) cycle page there in
      let posted_so = same_Some page _ (sym there ∙ w.posts cycle has) in
      posted_so
      ∙ all_pages t course tables cycles is.net (follow_history cycles is.net compiled) sending receiving begins cycle within bridge w inside has
      ∙ sym (page_follows run cycles cycle bridge is.net book compiled is inside within)

  module _ (begins : NewBridgeFollows) (sending : SendingFollows) (receiving : ReceivingFollows) (exists : LegalNetworkExists) where
    -- the network of the cycles that are sealed, and one more
    one_more : (net : Network) × IsCompiledNetwork (run_with t (tables_of t.domain entries (seals entries + 1))) (seals entries + 1) net
    one_more =
        let run = run_with t (tables_of t.domain entries (seals entries + 1)) in
        let some = exists run (compiled_lists t.domain) (seals entries + 1) in
        (some.0, record { accepted = given.accepted; legal = some.1 })

    -- a bridge before one of its cycles follows it
    before_is : (bridge cycle : ℕ) (w : HasWorked t course bridge) → bridge < length t.domain.bridges → cycle ≤ posted course bridge →
        IsBefore (run_with t (tables_of t.domain entries (seals entries + 1))) one_more.0 bridge cycle (w.before cycle)
    before_is bridge cycle w inside has =
        all_before t course (tables_of t.domain entries (seals entries + 1)) (seals entries + 1) one_more.0
        (follow_history (seals entries + 1) one_more.0 one_more.1) sending receiving begins cycle
        (omega (arith, has, w.had_table, are.sealed bridge inside)) bridge w inside has

    -- so it is in the cycle that its lists say
    pub stands_before : (bridge cycle : ℕ) (w : HasWorked t course bridge) → bridge < length t.domain.bridges → cycle ≤ posted course bridge →
        HasGone t bridge cycle cycle (w.before cycle)
    stands_before bridge cycle w inside has =
        let b = before_is bridge cycle w inside has in
        record {
          domain = b.follows.of_run.domain;
          number = b.number;
          not_spent = b.follows.of_run.not_spent;
          has_sent = b.follows.turn ∙ b.received;
          has_received = b.received;
        }

    -- and so it is halfway
    pub stands_halfway : (bridge cycle : ℕ) (w : HasWorked t course bridge) → bridge < length t.domain.bridges → cycle < course.sent bridge →
        HasGone t bridge (cycle + 1) cycle (w.halfway cycle)
    stands_halfway bridge cycle w inside sent =
        let b = all_halfway t course (tables_of t.domain entries (seals entries + 1)) (seals entries + 1) one_more.0
        (follow_history (seals entries + 1) one_more.0 one_more.1) sending receiving begins cycle
        (omega (arith, sent, w.not_ahead, w.had_table, are.sealed bridge inside)) bridge w inside sent in
        record {
          domain = b.has_sent.of_run.domain;
          number = b.number;
          not_spent = b.has_sent.of_run.not_spent;
          has_sent = b.has_sent.turn ∙ ap (λ (n : ℕ). n + 1) b.received;
          has_received = b.received;
        }

    -- it refuses to send its next cycle only if memory is refused
    pub send_wants_memory : SendsButForMemory → (bridge : ℕ) (w : HasWorked t course bridge) (after : BridgeState) (fault : BridgeFault) →
        bridge < length t.domain.bridges → IsSendFault (w.before (posted course bridge)) after (posted course bridge) fault → fault ≡ Memory
    send_wants_memory but_for_memory bridge w after fault inside h =
        let b = before_is bridge (posted course bridge) w inside (omega arith) in
        but_for_memory (posted course bridge) (w.before (posted course bridge)) after fault b.follows.of_run.not_spent (sym b.received, b.follows.turn) h

    -- and to receive it only if memory is refused
    pub receive_wants_memory : ReceivesButForMemory → RunOfHistoryLosesNothing → (bridge : ℕ) (w : HasWorked t course bridge) (after : BridgeState)
        (fault : BridgeFault) → bridge < length t.domain.bridges → HasAll t course bridge →
        ((run : Run) → IsRunOfBridge t.domain bridge (posted course bridge) (table_of (course.tables bridge) (posted course bridge))
        (offered_for t.domain t.offers bridge (posted course bridge)) run →
        IsReceiveFault run (w.halfway (posted course bridge)) after (posted course bridge) (handed_next t course bridge) fault) → fault ≡ Memory
    receive_wants_memory but_for_memory loses bridge w after fault inside all h =
        let cycle = posted course bridge in
        let cycles = seals entries in
        let within : cycle < cycles = omega (arith, all.has_table, are.sealed bridge inside) in
        let run = run_with t (tables_of t.domain entries cycles) in
        let some = exists run (compiled_lists t.domain) cycles in
        let net = some.0 in
        let compiled : IsCompiledNetwork run cycles net = record { accepted = given.accepted; legal = some.1 } in
        let is = follow_history cycles net compiled in
        let half = all_halfway t course (tables_of t.domain entries cycles) cycles net is sending receiving begins cycle within bridge w inside all.has_sent in
        let table = is.tables_are bridge cycle inside within all.has_table in
        let taken = all_taken t course (tables_of t.domain entries cycles) cycles net is sending receiving begins cycle within bridge all.has_batches
        ∙ ap (λ (b : ℕ). batches_into t.domain net.carried b cycle) (sym half.number) in
        let handed : handed_next t course bridge ≡ handed_in run net (w.halfway cycle).number cycle =
        λ i. record { table_cycle = cycle; rows = sym table i; batches = taken i } in
        let of_run : IsRunOfBridge t.domain bridge cycle (table_of (course.tables bridge) cycle) (offered_for t.domain t.offers bridge cycle) run = record {
          domain = refl;
          table = table;
          good = given.offers;
          here = refl;
        } in
        but_for_memory run cycles cycle net (w.halfway cycle) after fault compiled
        (loses t.domain entries t.offers t.background cycles net given.legal (omega arith) given.offers given.background compiled) half.has_sent.of_run.domain
        (record { not_spent = half.has_sent.of_run.not_spent; next = (sym half.received, half.has_sent.turn, refl) }) within
        (subst (λ (x : Handed). IsReceiveFault run (w.halfway cycle) after cycle x fault) handed (h run of_run))
