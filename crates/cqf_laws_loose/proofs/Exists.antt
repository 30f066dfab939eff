-- A loose network exists: it goes on cycle by cycle, since what is sent in a cycle is heard in no earlier one.
use Rattle.cqf_model.proofs.Links.{guard_within}
use Rattle.std.proofs.Common.{◌≡◌, ℕ, ◌+◌, ◌*◌, ◌/◌, ◌<◌, ◌≤◌, true, cond, List, length, sym, refl, ap, ◌∙◌, inl, inr, arith, subst, eqb-true}
use Rattle.std.specs.Prelude.{[], ◌++◌, map, filter, nat_lt, ◌==◌, zero, suc, if◌then◌else◌}
use Rattle.std.specs.List.{flat_map}
use Rattle.std.proofs.Math.Nat.{mul-le-mul_right}
use Rattle.std.proofs.lemmas.Bool.{cases_lt, cond-true, cond-false, lt-ltb, le-ltb}
use Rattle.std.proofs.lemmas.List.{append-nil}
use Rattle.cqf_lists.proofs.EachBelow.{same_below}
use Rattle.cqf_lists.proofs.Filters.{filter-map, filter_weaker}
use Rattle.cqf_lists.proofs.Members.{contains_none}
use Rattle.cqf_units.proofs.Cycles.{cycle_below, cycle_upto, takes_time}
use Rattle.cqf_model.specs.declared.frames.Sent.{Sent}
use Rattle.cqf_model.specs.declared.ports.Start.{Start}
use Rattle.cqf_model.specs.Domain.{Domain, bridge_of, cycle_of, enters, guard_of, octet_time_of}
use Rattle.cqf_model.specs.Network.{IsNetworkBy, Network, QueuedFrame, Sends, arrivals_of, backed_in, backed_of, comes_before, comes_in, compiled_lists, queued_before, queued_to}
use Rattle.cqf_model.specs.Network.{sent_of}
use Rattle.cqf_model.specs.Port.{AreLegal, PortRules, Transmission}
use Rattle.cqf_model.specs.Run.{Run}
use Rattle.cqf_model.specs.Policing.{Carried, Received, offered_at, police_all, received_at, relayed_at, sent_received}
use Rattle.cqf_model.specs.Policing.{whole_at}
use Rattle.cqf_model.proofs.Coming.{backed_in_late}
use Rattle.cqf_model.proofs.Legal.{none_at_0}
use Rattle.cqf_laws_network.specs.PortLaws.{LateArrivalChangesNothing, LegalStartsExist}
use Rattle.cqf_laws_network.specs.NetworkLaws.{CarryTheSame, PortGoesByThePast, Sending}
use Rattle.cqf_laws_cycle.specs.Compiled.{PortListIsOpen}
use Rattle.cqf_laws_cycle.specs.PortCycle.{waits_in}
use Rattle.cqf_laws_cycle.proofs.PortCycles.{sends_of_all}
use Rattle.cqf_laws_shift.specs.Heard.{IsHeardAs, IsHeardRun}
use Rattle.cqf_laws_shift.proofs.CycleLaws.{CycleLaws}
use Rattle.cqf_laws_shift.proofs.RunsBeside.{run_as}
use Rattle.cqf_laws_loose.specs.LooseLaws.{LooseNetworkExists}
use Rattle.cqf_laws_loose.specs.LooseRuns.{IsTransit, heard_by}
use Rattle.cqf_model.specs.Loose.{IsAcceptedWith, Slack}
use Rattle.cqf_laws_loose.proofs.Exact.{sent_least}
use Rattle.cqf_laws_loose.proofs.Loose.{heard_as}

-- no frame is heard in an earlier cycle than that in which it was sent
abbrev pub NoSooner : Domain → (ℕ → Sent → Sent) → Type 0
NoSooner d noted = (l : ℕ) (sent : Sent) → l < length d.links → cycle_of d sent.start.0 ≤ cycle_of d (whole_at d l (noted l sent))

module _ (run : Run) (noted : ℕ → Sent → Sent) (later : NoSooner run.domain noted) (carried other : Carried) (cycles : ℕ)
    (alike : CarryTheSame run.domain (cycles * run.domain.cycle_time) carried other) where
  -- what has fully arrived before a cycle was sent before it
  sent_sooner : (m : ℕ) (sent : Sent) (u : ℕ) → m < length run.domain.links → u < cycles * run.domain.cycle_time → whole_at run.domain m (noted m sent) ≡ u →
      sent.start.0 < cycles * run.domain.cycle_time
  sent_sooner m sent u h early is =
      let n = run.domain.cycle_time in
      let some = takes_time n u cycles early in
      let in_cycle : u / n < cycles = cycle_below n u cycles early in
      let sooner : sent.start.0 / n < cycles = omega (arith, later m sent h, ap (λ z. z / n) is, in_cycle) in
      let ends : (sent.start.0 / n + 1) * n ≤ cycles * n = mul-le-mul_right n (omega (arith, sooner)) in
      omega (arith, ends, cycle_upto n sent.start.0 some)

  -- so what is heard at an instant before the cycle is the same
  relayed_same : (bridge u m : ℕ) → m < length run.domain.links → u < cycles * run.domain.cycle_time →
      relayed_at run.domain (heard_by noted carried) bridge u m ≡ relayed_at run.domain (heard_by noted other) bridge u m
  relayed_same bridge u m h early =
      let d = run.domain in
      let t = cycles * d.cycle_time in
      let whole = λ (sent : Sent). whole_at d m sent == u in
      let heard_whole = λ (sent : Sent). whole_at d m (noted m sent) == u in
      let before = λ (sent : Sent). nat_lt sent.start.0 t in
      let sooner : (sent : Sent) → heard_whole sent ≡ true → before sent ≡ true =
      λ sent w. lt-ltb sent.start.0 t (sent_sooner m sent u h early (eqb-true (whole_at d m (noted m sent)) u w)) in
      let same : filter heard_whole (carried m) ≡ filter heard_whole (other m) =
      filter_weaker heard_whole before (carried m) (λ sent c. sooner sent) ∙ ap (filter heard_whole) (alike m h)
      ∙ sym (filter_weaker heard_whole before (other m) (λ sent c. sooner sent)) in
      let mapped : filter whole (map (noted m) (carried m)) ≡ filter whole (map (noted m) (other m)) =
      filter-map (noted m) whole (carried m) ∙ ap (map (noted m)) same ∙ sym (filter-map (noted m) whole (other m)) in
      ap (λ (sents : List Sent). cond (enters d m bridge) (map (sent_received d m) sents) []) mapped

  -- and so is what arrives at a bridge
  received_same : (bridge u : ℕ) → u < cycles * run.domain.cycle_time →
      received_at run (heard_by noted carried) bridge u ≡ received_at run (heard_by noted other) bridge u
  received_same bridge u early =
      ap (λ (xs : List Received). xs ++ offered_at run.offers bridge u)
      (same_below (relayed_at run.domain (heard_by noted carried) bridge u) (relayed_at run.domain (heard_by noted other) bridge u) (length run.domain.links)
      (λ m h. relayed_same bridge u m h early))

  -- and what is queued to a port
  queued_same : (l n : ℕ) → n ≤ cycles * run.domain.cycle_time → queued_before run (heard_by noted carried) l n ≡ queued_before run (heard_by noted other) l n
  queued_same l n upto =
      let b = bridge_of run.domain l in
      ap (λ (xs : List Received). queued_to run.domain l (police_all run.domain run.tables b [] xs))
      (same_below (received_at run (heard_by noted carried) b) (received_at run (heard_by noted other) b) n (λ u less. received_same b u (omega (arith, less, upto))))

  -- and what arrives at it before the cycle
  pub comes_same : (l : ℕ) → comes_before run (heard_by noted carried) l cycles ≡ comes_before run (heard_by noted other) l cycles
  comes_same l =
      let d = run.domain in
      same_below (comes_in run (heard_by noted carried) l) (comes_in run (heard_by noted other) l) cycles (λ cycle k.
      let upto : (cycle + 1) * d.cycle_time ≤ cycles * d.cycle_time = mul-le-mul_right d.cycle_time (omega (arith, k)) in
      ap (λ (xs : List QueuedFrame). backed_in d run.background l cycle ++ filter (λ (x : QueuedFrame). cycle_of d x.arrival.at.0 == cycle) xs)
      (queued_same l ((cycle + 1) * d.cycle_time) upto))

-- a network that goes like this for some cycles
abbrev pub GoesSo : Run → (ℕ → Sent → Sent) → ℕ → Network → Type 0
GoesSo run noted cycles net = IsNetworkBy run (compiled_lists run.domain) cycles net (heard_by noted net.carried)

module _ (exist : LegalStartsExist) (late : LateArrivalChangesNothing) (port : PortGoesByThePast) (laws : CycleLaws) (opens : PortListIsOpen) (run : Run)
    (noted : ℕ → Sent → Sent) (short : (l : ℕ) → guard_of run.domain l < run.domain.cycle_time) (later : NoSooner run.domain noted) where
  -- a port's rules
  abbrev rules : ℕ → PortRules
  rules l = record { entries = compiled_lists run.domain l; octet_time = octet_time_of run.domain l }

  -- what a port starts of some frames up to an end
  abbrev starts : ℕ → List QueuedFrame → ℕ → List Transmission
  starts l queued end = (exist (rules l) (arrivals_of queued) end).0

  -- these starts are legal
  sends_some : (l : ℕ) (queued : List QueuedFrame) (end : ℕ) →
      Sends run.domain (compiled_lists run.domain l) end l queued (flat_map (sent_of queued) (starts l queued end)) (flat_map (backed_of queued) (starts l queued end))
  sends_some l queued end = record {
    starts = starts l queued end;
    legal = (exist (rules l) (arrivals_of queued) end).1;
    are_sent = refl;
    are_backed = refl;
  }

  -- a link of the domain sends this, and any other link nothing
  abbrev only_links : {X : Type 0} → ℕ → List X → List X
  only_links {X} l xs = if nat_lt l (length run.domain.links) then xs else []

  -- the network with one cycle more
  abbrev one_more : ℕ → Network → Network
  one_more cycles net = record {
    carried = λ l. let queued = waits_in run (heard_by noted net.carried) l cycles in
        only_links l (flat_map (sent_of queued) (starts l queued ((cycles + 1) * run.domain.cycle_time)));
    backed = λ l. let queued = waits_in run (heard_by noted net.carried) l cycles in
        only_links l (flat_map (backed_of queued) (starts l queued ((cycles + 1) * run.domain.cycle_time)));
  }

  -- it goes on like this
  goes_on : (cycles : ℕ) (net : Network) → GoesSo run noted cycles net → GoesSo run noted (cycles + 1) (one_more cycles net)
  goes_on cycles net so = record { sends = sends; no_others = no_others }
    where
      d : Domain
      d = run.domain

      more : Network
      more = one_more cycles net

      first : ℕ
      first = cycles * run.domain.cycle_time

      last : ℕ
      last = (cycles + 1) * run.domain.cycle_time

      own : (l : ℕ) → l < length run.domain.links →
          Sends run.domain (compiled_lists run.domain l) last l (waits_in run (heard_by noted net.carried) l cycles) (more.carried l) (more.backed l)
      own l h =
          let queued = waits_in run (heard_by noted net.carried) l cycles in
          let inside = lt-ltb l (length run.domain.links) h in
          subst (λ (sents : List Sent). Sends run.domain (compiled_lists run.domain l) last l queued sents (more.backed l))
          (sym (cond-true (nat_lt l (length run.domain.links)) (flat_map (sent_of queued) (starts l queued last)) [] inside))
          (subst (λ (backed : List Start). Sends run.domain (compiled_lists run.domain l) last l queued (flat_map (sent_of queued) (starts l queued last)) backed)
          (sym (cond-true (nat_lt l (length run.domain.links)) (flat_map (backed_of queued) (starts l queued last)) [] inside)) (sends_some l queued last))

      alike : CarryTheSame run.domain first net.carried more.carried
      alike l h =
          let came = comes_before run (heard_by noted net.carried) l cycles in
          let background = backed_in d run.background l cycles in
          let so_far : Sending d (compiled_lists d l) l (came ++ []) =
          record {
            end = first;
            sents = net.carried l;
            backed = net.backed l;
            sends =
                subst (λ (xs : List QueuedFrame). Sends d (compiled_lists d l) first l xs (net.carried l) (net.backed l)) (sym (append-nil came)) (so.sends l h);
          } in
          let on : Sending d (compiled_lists d l) l (came ++ background) =
          record { end = last; sents = more.carried l; backed = more.backed l; sends = own l h } in
          (port d (compiled_lists d l) l first came [] background (λ x c. absurd (contains_none x c)) (backed_in_late d run.background l cycles) so_far on
          (omega arith) (omega arith)).sent

      sends : (l : ℕ) → l < length run.domain.links →
          Sends run.domain (compiled_lists run.domain l) last l (comes_before run (heard_by noted more.carried) l (cycles + 1)) (more.carried l) (more.backed l)
      sends l h =
          let same : waits_in run (heard_by noted net.carried) l cycles ≡ waits_in run (heard_by noted more.carried) l cycles =
          ap (λ (xs : List QueuedFrame). xs ++ backed_in d run.background l cycles) (comes_same run noted later net.carried more.carried cycles alike l) in
          sends_of_all late laws.gives opens run (heard_by noted more.carried) cycles l (more.carried l) (more.backed l) (short l) h
          (subst (λ (xs : List QueuedFrame). Sends d (compiled_lists d l) last l xs (more.carried l) (more.backed l)) same (own l h))

      no_others : (l : ℕ) → length run.domain.links ≤ l → (more.carried l ≡ []) × (more.backed l ≡ [])
      no_others l past =
          let queued = waits_in run (heard_by noted net.carried) l cycles in
          let outside = le-ltb l (length run.domain.links) past in (
            cond-false (nat_lt l (length run.domain.links)) (flat_map (sent_of queued) (starts l queued last)) [] outside,
            cond-false (nat_lt l (length run.domain.links)) (flat_map (backed_of queued) (starts l queued last)) [] outside,
          )

  -- with no cycle it has sent nothing
  begins : GoesSo run noted 0 (record { carried = λ l. []; backed = λ l. [] })
  begins = record {
    sends = λ l h.
        let queued = comes_before run (heard_by noted (λ k. [])) l 0 in
        let end = 0 * run.domain.cycle_time in
        let w = exist (rules l) (arrivals_of queued) end in
        record {
          starts = [];
          legal = subst (AreLegal (rules l) (arrivals_of queued) end) (none_at_0 (rules l) (arrivals_of queued) end w.0 (omega arith) w.1) w.1;
          are_sent = refl;
          are_backed = refl;
        };
    no_others = λ l past. (refl, refl);
  }

  -- so there is such a network
  pub network_so : (cycles : ℕ) → (net : Network) × GoesSo run noted cycles net
  network_so zero = (record { carried = λ l. []; backed = λ l. [] }, begins)
  network_so (suc cycles) =
      let before = network_so cycles in
      let e : cycles + 1 ≡ suc cycles = omega arith in
      (one_more cycles before.0, subst (λ z. GoesSo run noted z (one_more cycles before.0)) e (goes_on cycles before.0 before.1))

-- each frame is heard within the bounds
pub transit_heard : (d : Domain) (slack : Slack) (noted : ℕ → Sent → Sent) → IsAcceptedWith d slack → IsTransit d slack noted → (l : ℕ) (sent : Sent) →
    l < length d.links → IsHeardAs d l sent (noted l sent)
transit_heard d slack noted accepted transit l sent h = elim (cases_lt sent.octets 64) [
  | inl less ↦ transit.short l sent h less
  | inr long ↦ heard_as d slack l sent (noted l sent) accepted h (transit.within l sent h long)
]

-- the law
pub loose_network_exists : LegalStartsExist → LateArrivalChangesNothing → PortGoesByThePast → CycleLaws → PortListIsOpen → LooseNetworkExists
loose_network_exists exist late port laws opens run slack noted accepted orderly offered background transit =
    let later : NoSooner run.domain noted = λ l sent h. (transit_heard run.domain slack noted accepted transit l sent h).no_sooner in
    let made = network_so exist late port laws opens run noted (λ l. guard_within run.domain l accepted.accepted) later (length run.tables) in
    let heard = heard_by noted made.0.carried in
    let is_heard : IsHeardRun run made.0 heard =
    record {
      accepted = accepted.accepted;
      orderly = orderly;
      offered = offered;
      background = background;
      legal = made.1;
      meets = record { noted = noted; are = λ l. refl; each = λ l sent h c. transit_heard run.domain slack noted accepted transit l sent h };
    } in
    let alone = run_as laws run made.0 heard is_heard in (
      made.0,
      record {
        accepted = accepted;
        orderly = orderly;
        offered = offered;
        background = background;
        loose = record {
          goes = made.1;
          noted = noted;
          are = λ l. refl;
          each = λ l sent h c. transit.within l sent h (sent_least laws run made.0.carried alone l sent h c);
        };
      },
    )
