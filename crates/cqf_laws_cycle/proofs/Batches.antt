-- What a link sends in a cycle arrives fully in the next node in the same cycle.
use Rattle.std.proofs.Common.{◌≡◌, ℕ, ◌+◌, ◌*◌, ◌<◌, ◌≤◌, true, cond, List, length, sym, ap, ◌∙◌, inl, inr, arith, subst, eq-eqb, eqb-true, AllPairs, Contains}
use Rattle.std.specs.Prelude.{[], ◌++◌, ◌==◌, map, filter, slice_index_or}
use Rattle.std.proofs.lemmas.Bool.{cases_Bool, cases_lt, cond-false}
use Rattle.std.proofs.lemmas.List.{get_or-map, length-map}
use Rattle.cqf_lists.proofs.EachBelow.{same_below}
use Rattle.cqf_lists.proofs.Filters.{filter_weaker}
use Rattle.cqf_lists.proofs.Made.{pairs_of_flat}
use Rattle.cqf_lists.proofs.Members.{contains_from_filter, contains_from_flat, contains_none}
use Rattle.cqf_lists.proofs.Pairs.{pairs_none}
use Rattle.cqf_units.specs.Timing.{ending_of, idle_after, slot_of, time_of}
use Rattle.cqf_units.proofs.Times.{slot_parts, time_some}
use Rattle.cqf_units.proofs.Cycles.{cycle_from, cycle_is, cycle_upto}
use Rattle.cqf_model.specs.declared.frames.Sent.{Sent}
use Rattle.cqf_model.specs.declared.ports.Arrival.{Arrival}
use Rattle.cqf_model.specs.declared.ports.Start.{Start}
use Rattle.cqf_model.specs.Book.{batch}
use Rattle.cqf_model.specs.Domain.{Domain, cycle_of, delay_of, enters, guard_of, octet_time_of}
use Rattle.cqf_model.specs.GateList.{Entry}
use Rattle.cqf_model.specs.Network.{IsLegalNetwork, Network, QueuedFrame, Sends, arrivals_of, comes_before, no_frame, sent_of}
use Rattle.cqf_model.specs.Port.{Transmission, class_of, no_arrival, octets_of}
use Rattle.cqf_model.specs.Run.{Run}
use Rattle.cqf_model.specs.Policing.{Carried, Received, offered_at, received_at, relayed_at, sent_received, whole_at}
use Rattle.cqf_model.proofs.Legal.{ends_later}
use Rattle.cqf_model.proofs.Links.{delay_within, guard_within, octet_positive}
use Rattle.cqf_model.proofs.Sending.{sent_of_octets, sent_of_once, sent_of_when}
use Rattle.cqf_laws_cycle.specs.Compiled.{PortListSends}
use Rattle.cqf_laws_cycle.specs.BridgeCycle.{IsCompiledNetwork, received_in}

-- a transmission has the octets of the frame that was queued
octets_sent : (queued : List QueuedFrame) (index : ℕ) → index < length (arrivals_of queued) →
    octets_of (arrivals_of queued) index ≡ (slice_index_or queued index no_frame).arrival.octets
octets_sent queued index l =
    ap (λ (x : Arrival). x.octets)
    (get_or-map (λ (x : QueuedFrame). x.arrival) queued index no_frame no_arrival (omega (arith, l, length-map queued (λ (x : QueuedFrame). x.arrival))))

module _ (run : Run) (cycles : ℕ) (net : Network) (compiled : IsCompiledNetwork run cycles net) (sends : PortListSends) where
  -- what a link of the domain sends arrives fully in its own cycle
  link_whole : (m : ℕ) (sent : Sent) → m < length run.domain.links → Contains (net.carried m) sent →
      cycle_of run.domain (whole_at run.domain m sent) ≡ cycle_of run.domain sent.start.0
  link_whole m sent in_links h =
      let d = run.domain in
      let queued = comes_before run net.carried m cycles in
      let s = compiled.legal.sends m in_links in
      let w = contains_from_flat (sent_of queued) s.starts sent (subst (λ (xs : List Sent). Contains xs sent) s.are_sent h) in
      let index = w.0.0 in
      let start = w.0.1 in
      let octets = octets_of (arrivals_of queued) index in
      let octet_time = octet_time_of d m in
      let cycle = cycle_of d start in
      let some : 0 < d.cycle_time = omega (arith, compiled.accepted.guard_short) in
      let same_start : start ≡ sent.start.0 = sym (sent_of_when queued w.0 sent w.2) in
      let same_octets : octets ≡ sent.octets = octets_sent queued index (s.legal.first index start w.1).waits.inside
      ∙ sym (sent_of_octets queued w.0 sent w.2) in
      let same_time : time_of (octets + 8) octet_time ≡ time_of (sent.octets + 8) octet_time = ap (λ (n : ℕ). time_of (n + 8) octet_time) same_octets in
      let delay = delay_within d m compiled.accepted in_links in
      let ended = ((sends d.cycle_time (guard_of d m) cycle start (ending_of start octets octet_time)
      (class_of (arrivals_of queued) index) (omega (arith, delay)) (guard_within d m compiled.accepted)
      (cycle_from d.cycle_time start, cycle_upto d.cycle_time start some) (ends_later start octets octet_time (octet_positive d m in_links))).0
      (s.legal.eligible index start w.1)).1 in
      cycle_is d.cycle_time cycle (whole_at d m sent) (omega (arith, cycle_from d.cycle_time start, same_start))
      (omega (arith, ended, same_start, same_time, delay, guard_within d m compiled.accepted))
      ∙ ap (cycle_of d) same_start

  -- and so does what any link sends
  sent_whole : (m : ℕ) (sent : Sent) → Contains (net.carried m) sent → cycle_of run.domain (whole_at run.domain m sent) ≡ cycle_of run.domain sent.start.0
  sent_whole m sent h =
      elim (cases_lt m (length run.domain.links)) [
        | inl l ↦ link_whole m sent l h
        | inr g ↦ absurd (contains_none sent (subst (λ (xs : List Sent). Contains xs sent) (compiled.legal.no_others m g).0 h))
      ]

  -- a batch arrives fully in its cycle
  pub batch_whole : (m cycle : ℕ) (sent : Sent) → Contains (batch run.domain net.carried m cycle) sent →
      cycle_of run.domain (whole_at run.domain m sent) ≡ cycle
  batch_whole m cycle sent h =
      let w = contains_from_filter (λ (x : Sent). cycle_of run.domain x.start.0 == cycle) (net.carried m) sent h in
      sent_whole m sent w.0 ∙ eqb-true (cycle_of run.domain sent.start.0) cycle w.1

  module _ (batches : Carried) (cycle bridge : ℕ) (are : (m : ℕ) → enters run.domain m bridge ≡ true → batches m ≡ batch run.domain net.carried m cycle) where
    -- so at an instant of the cycle a link brings what belongs to its batch
    brings_at : (t m : ℕ) → cycle_of run.domain t ≡ cycle → relayed_at run.domain batches bridge t m ≡ relayed_at run.domain net.carried bridge t m
    brings_at t m here =
        let d = run.domain in
        let whole = λ (sent : Sent). whole_at d m sent == t in
        let of_cycle = λ (sent : Sent). cycle_of d sent.start.0 == cycle in
        elim (cases_Bool (enters d m bridge)) [
          | inl comes ↦
              let same : filter whole (batch d net.carried m cycle) ≡ filter whole (net.carried m) =
              sym (filter_weaker whole of_cycle (net.carried m) (λ sent h w.
              eq-eqb (cycle_of d sent.start.0) cycle (sym (sent_whole m sent h) ∙ ap (cycle_of d) (eqb-true (whole_at d m sent) t w) ∙ here))) in
              ap (λ (sents : List Sent). cond (enters d m bridge) (map (sent_received d m) sents) []) (ap (filter whole) (are m comes) ∙ same)
          | inr passes ↦
              cond-false (enters d m bridge) (map (sent_received d m) (filter whole (batches m))) [] passes
              ∙ sym (cond-false (enters d m bridge) (map (sent_received d m) (filter whole (net.carried m))) [] passes)
        ]

    -- and the cycle brings all batches
    pub cycle_brings : received_in run batches bridge cycle ≡ received_in run net.carried bridge cycle
    cycle_brings =
        let d = run.domain in
        let begins = cycle * d.cycle_time in
        same_below (λ offset. received_at run batches bridge (begins + offset)) (λ offset. received_at run net.carried bridge (begins + offset)) d.cycle_time
        (λ offset l.
        let t = begins + offset in
        let here : cycle_of d t ≡ cycle = cycle_is d.cycle_time cycle t (omega arith) (omega (arith, l)) in
        ap (λ (xs : List Received). xs ++ offered_at run.offers bridge t)
        (same_below (relayed_at d batches bridge t) (relayed_at d net.carried bridge t) (length d.links) (λ m h. brings_at t m here)))

-- a later transmission arrives fully later
later_whole : (s t r o p delay : ℕ) → 0 < r → idle_after s o r ≤ t → ending_of s o r + delay < ending_of t p r + delay
later_whole s t r o p delay positive free = omega (arith, free, slot_parts o r, time_some (p + 8) r (omega arith) positive)

-- the frames of a link arrive fully in the order in which they were sent
link_in_order : (d : Domain) (entries : List Entry) (end m : ℕ) (queued : List QueuedFrame) (sents : List Sent) (backed : List Start) → 0 < octet_time_of d m →
    Sends d entries end m queued sents backed → AllPairs (λ (a b : Sent). whole_at d m a < whole_at d m b) sents
link_in_order d entries end m queued sents backed positive s =
    let R = λ (a b : Sent). whole_at d m a < whole_at d m b in
    let r = octet_time_of d m in
    subst (AllPairs R) (sym s.are_sent)
    (pairs_of_flat (sent_of queued) (λ (a b : Transmission). a.1 < b.1) R s.starts (λ x in_x. sent_of_once R queued x) (λ x y u v in_x in_y l of_x of_y.
    let free = s.legal.idle y.0 y.1 in_y x.0 x.1 in_x l in
    let same : octets_of (arrivals_of queued) x.0 ≡ u.octets = octets_sent queued x.0 (s.legal.first x.0 x.1 in_x).waits.inside
    ∙ sym (sent_of_octets queued x u of_x) in
    let began : u.start.0 ≡ x.1 = sent_of_when queued x u of_x in
    let begins : v.start.0 ≡ y.1 = sent_of_when queued y v of_y in
    later_whole u.start.0 v.start.0 r u.octets v.octets (delay_of d m) positive (omega (arith, free, began, begins, ap (λ (n : ℕ). slot_of n r) same)))
    s.legal.in_order)

-- and so do those of each link of a legal network
pub frames_in_order : (run : Run) (lists : ℕ → List Entry) (cycles m : ℕ) (net : Network) → IsLegalNetwork run lists cycles net →
    AllPairs (λ (a b : Sent). whole_at run.domain m a < whole_at run.domain m b) (net.carried m)
frames_in_order run lists cycles m net legal =
    let d = run.domain in
    let R = λ (a b : Sent). whole_at d m a < whole_at d m b in
    elim (cases_lt m (length d.links)) [
      | inl l ↦ link_in_order d (lists m) (cycles * d.cycle_time) m (comes_before run net.carried m cycles) (net.carried m) (net.backed m)
          (octet_positive d m l) (legal.sends m l)
      | inr g ↦ subst (AllPairs R) (sym (legal.no_others m g).0) (pairs_none R)
    ]
