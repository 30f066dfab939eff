-- What a port sends in a cycle depends only on what arrived at it before the cycle, and on the background frames of the cycle.
use Rattle.std.proofs.Common.{◌≡◌, ℕ, ◌+◌, ◌*◌, ◌<◌, ◌≤◌, ◌⊎◌, Bool, true, List, length, sym, refl, ap, ◌∙◌, inl, inr, arith, subst, eq-eqb, ne_eqb, eqb-true}
use Rattle.std.proofs.Common.{Contains}
use Rattle.std.specs.Prelude.{[], ◌∷◌, ◌++◌, ◌==◌, filter, nat_lt, slice_index_or}
use Rattle.std.specs.List.{flat_map, list_any}
use Rattle.std.proofs.lemmas.Bool.{lt-ltb}
use Rattle.std.proofs.lemmas.List.{get_or_append_left, length-map, map-append}
use Rattle.std.proofs.lemmas.List.Elements.{Contains-append_right, filter-append}
use Rattle.cqf_lists.proofs.EachBelow.{filter_each, filter_none}
use Rattle.cqf_lists.proofs.Filters.{filter_weaker}
use Rattle.cqf_lists.proofs.Made.{contains_if}
use Rattle.cqf_lists.proofs.Members.{contains_from_filter, contains_from_flat, contains_from_map, contains_none, contains_one}
use Rattle.cqf_units.proofs.Cycles.{cycle_from, cycle_is, cycle_upto, parity}
use Rattle.cqf_model.specs.declared.frames.Sent.{Sent}
use Rattle.cqf_model.specs.declared.ports.Arrival.{Arrival}
use Rattle.cqf_model.specs.declared.ports.Start.{Start}
use Rattle.cqf_model.specs.Domain.{Domain, bridge_of, cycle_of, guard_of, octet_time_of}
use Rattle.cqf_model.specs.GateList.{Entry, IsOpen}
use Rattle.cqf_model.specs.Network.{Network, QueuedFrame, Sends, arrivals_of, backed_of, comes_before, compiled_lists, no_frame, queued_before, queued_by}
use Rattle.cqf_model.specs.Network.{queued_frame, queued_in, queued_to, sent_of}
use Rattle.cqf_model.specs.Port.{AreLegal, PortRules, Transmission}
use Rattle.cqf_model.specs.Run.{Run}
use Rattle.cqf_model.specs.Table.{goes_to, hop_number_after}
use Rattle.cqf_model.specs.Policing.{Carried, DroppedFor, ExceedsGate, LacksRow, Policed, Queued, Received, Verdict, came_by, policed_before}
use Rattle.cqf_model.proofs.Links.{guard_within, octet_positive}
use Rattle.cqf_model.proofs.Sending.{backed_same, backed_then, sent_same, sent_then}
use Rattle.cqf_laws_network.specs.PortLaws.{LateArrivalChangesNothing, LegalStartsAreUnique}
use Rattle.cqf_laws_network.specs.NetworkLaws.{BeginningIsLegal, HaveOnePast, IsShorter, PortsGetThePast, backed_before, carried_before, sent_before}
use Rattle.cqf_laws_cycle.specs.Compiled.{GateGivesClass, PortListIsOpen, given_class, open_class}
use Rattle.cqf_laws_cycle.specs.BridgeCycle.{IsCompiledNetwork}
use Rattle.cqf_laws_cycle.specs.PortCycle.{MakesTheBatch, StartsInCycle, waits_in}
use Rattle.cqf_model.proofs.Arrivals.{IsClosedUntil, front_legal}
use Rattle.cqf_laws_cycle.proofs.Closed.{more_legal}
use Rattle.cqf_laws_cycle.proofs.Continued.{waits_on}

-- the class that a cycle gives is of streams, and the cycle doesn't send it
gives_no_open : (c : ℕ) → ((given_class c ≡ open_class c) ⊎ (given_class c < 6)) → ⊥
gives_no_open c sent =
    elim (parity c) [
      | inl e ↦
          let own : open_class c ≡ 7 = rw e in
          let given : given_class c ≡ 6 = rw e in
          elim sent [ inl same ↦ omega (arith, own, given, same) | inr less ↦ omega (arith, given, less) ]
      | inr e ↦
          let own : open_class c ≡ 6 = rw e in
          let given : given_class c ≡ 7 = rw e in
          elim sent [ inl same ↦ omega (arith, own, given, same) | inr less ↦ omega (arith, given, less) ]
    ]

-- a queued frame has the class that its cycle gives
queued_class : GateGivesClass → (d : Domain) (l : ℕ) (x : Received) (verdict : Verdict) (q : QueuedFrame) → 0 < d.cycle_time →
    Contains (queued_by d l x verdict) q → q.arrival.class ≡ given_class (cycle_of d q.arrival.at.0)
queued_class gives d l x (Queued row) q some h =
    let k = contains_if (list_any (λ next. next == l) (goes_to row (came_by x.ingress))) (queued_frame d x row ∷ []) q h in
    let is = contains_one (queued_frame d x row) q k in
    subst (λ (y : QueuedFrame). y.arrival.class ≡ given_class (cycle_of d y.arrival.at.0)) is (gives d.cycle_time row.octets row.pace (hop_number_after row (came_by x.ingress)) x.at some)
queued_class gives d l x (DroppedFor reason) q some h = absurd (contains_none q h)
queued_class gives d l x LacksRow q some h = absurd (contains_none q h)
queued_class gives d l x ExceedsGate q some h = absurd (contains_none q h)

-- so its class is closed up to the end of the cycle
pub queued_waits : GateGivesClass → PortListIsOpen → (d : Domain) (l t : ℕ) (policed : List Policed) (q : QueuedFrame) → guard_of d l < d.cycle_time →
    Contains (queued_to d l policed) q → q.arrival.at.0 ≤ t → t < (cycle_of d q.arrival.at.0 + 1) * d.cycle_time →
    IsOpen (compiled_lists d l) q.arrival.class t → ⊥
queued_waits gives opens d l t policed q short h from upto is_open =
    let w = contains_from_flat (λ (p : Policed). queued_by d l p.received p.verdict) policed q h in
    let given = queued_class gives d l w.0.received w.0.verdict q (omega (arith, short)) w.2 in
    let c = cycle_of d q.arrival.at.0 in
    let begins : c * d.cycle_time ≤ t = omega (arith, cycle_from d.cycle_time q.arrival.at.0, from) in
    let sends = (opens d.cycle_time (guard_of d l) c t q.arrival.class short (begins, omega (arith, upto))).0 is_open in
    gives_no_open c (subst (λ (class : ℕ). (class ≡ open_class c) ⊎ (class < 6)) given sends.0)

-- each gate of what is queued in a cycle is closed until the cycle's end
closed_in_cycle : GateGivesClass → PortListIsOpen → (run : Run) (carried : Carried) (l cycle : ℕ) → guard_of run.domain l < run.domain.cycle_time → (x : Arrival) →
    Contains (arrivals_of (queued_in run carried l cycle)) x →
    IsClosedUntil (record { entries = compiled_lists run.domain l; octet_time = octet_time_of run.domain l }) ((cycle + 1) * run.domain.cycle_time) x
closed_in_cycle gives opens run carried l cycle short x h t came upto is_open =
    let d = run.domain in
    let last = (cycle + 1) * d.cycle_time in
    let of_cycle = λ (q : QueuedFrame). cycle_of d q.arrival.at.0 == cycle in
    let w = contains_from_map (λ (q : QueuedFrame). q.arrival) (queued_in run carried l cycle) x h in
    let k = contains_from_filter of_cycle (queued_before run carried l last) w.0 w.1 in
    let here : cycle_of d w.0.arrival.at.0 ≡ cycle = eqb-true (cycle_of d w.0.arrival.at.0) cycle k.1 in
    queued_waits gives opens d l t (policed_before run carried (bridge_of d l) last) w.0 short k.0
    (omega (arith, came, ap (λ (y : Arrival). y.at.0) w.2))
    (omega (arith, upto, ap (λ (c : ℕ). (c + 1) * d.cycle_time) here))
    (subst (λ (y : Arrival). IsOpen (compiled_lists d l) y.class t) (sym w.2) is_open)

module _ (d : Domain) (entries : List Entry) (end l : ℕ) (front more : List QueuedFrame) (sents : List Sent) (backed : List Start)
    (positive : 0 < octet_time_of d l)
    (closed : (x : Arrival) → Contains (arrivals_of more) x → IsClosedUntil (record { entries = entries; octet_time = octet_time_of d l }) end x) where
  -- the port's gate list and link
  abbrev rules : PortRules
  rules = record { entries = entries; octet_time = octet_time_of d l }

  -- the arrivals are those of the first part and those of the rest
  parts : arrivals_of (front ++ more) ≡ arrivals_of front ++ arrivals_of more
  parts = map-append (λ (x : QueuedFrame). x.arrival) front more

  -- a transmission that is legal for the first part is of a frame of it
  kept : (starts : List Transmission) → AreLegal rules (arrivals_of front) end starts → (x : Transmission) → Contains starts x →
      slice_index_or (front ++ more) x.0 no_frame ≡ slice_index_or front x.0 no_frame
  kept starts legal x h =
      let inside : x.0 < length front = omega (arith, (legal.first x.0 x.1 h).waits.inside, length-map front (λ (q : QueuedFrame). q.arrival)) in
      get_or_append_left front more no_frame x.0 inside

  -- what the first part of a queue sends, if the gates of all that follows are closed
  pub fewer_sends : Sends d entries end l (front ++ more) sents backed → Sends d entries end l front sents backed
  fewer_sends s =
      let legal : AreLegal rules (arrivals_of front) end s.starts =
      front_legal rules (arrivals_of front) (arrivals_of more) end positive closed s.starts
      (subst (λ (xs : List Arrival). AreLegal rules xs end s.starts) parts s.legal) in
      record {
        starts = s.starts;
        legal = legal;
        are_sent = s.are_sent ∙ sent_same (front ++ more) front s.starts (kept s.starts legal);
        are_backed = s.are_backed ∙ backed_same (front ++ more) front s.starts (kept s.starts legal);
      }

  -- and what the first part sends is sent with the rest
  pub more_sends : LateArrivalChangesNothing → Sends d entries end l front sents backed → Sends d entries end l (front ++ more) sents backed
  more_sends late s =
      record {
        starts = s.starts;
        legal = subst (λ (xs : List Arrival). AreLegal rules xs end s.starts) (sym parts)
            (more_legal late rules (arrivals_of front) (arrivals_of more) end s.starts positive closed s.legal);
        are_sent = s.are_sent ∙ sym (sent_same (front ++ more) front s.starts (kept s.starts s.legal));
        are_backed = s.are_backed ∙ sym (backed_same (front ++ more) front s.starts (kept s.starts s.legal));
      }

-- if a port sends, up to the end of a cycle, what its gate list demands for what it has when it sends the cycle, it sends what the
-- list demands for all that arrives by then
pub sends_of_all : LateArrivalChangesNothing → GateGivesClass → PortListIsOpen →
    (run : Run) (carried : Carried) (cycle l : ℕ) (sents : List Sent) (backed : List Start) → guard_of run.domain l < run.domain.cycle_time →
    l < length run.domain.links →
    Sends run.domain (compiled_lists run.domain l) ((cycle + 1) * run.domain.cycle_time) l (waits_in run carried l cycle) sents backed →
    Sends run.domain (compiled_lists run.domain l) ((cycle + 1) * run.domain.cycle_time) l (comes_before run carried l (cycle + 1)) sents backed
sends_of_all late gives opens run carried cycle l sents backed short in_links s =
    let d = run.domain in
    let last = (cycle + 1) * d.cycle_time in
    let closed = closed_in_cycle gives opens run carried l cycle short in
    subst (λ (xs : List QueuedFrame). Sends d (compiled_lists d l) last l xs sents backed) (sym (waits_on run carried l cycle))
    (more_sends d (compiled_lists d l) last l (waits_in run carried l cycle) (queued_in run carried l cycle) sents backed
    (octet_positive d l in_links) closed late s)

module _ (run : Run) (cycles cycle l : ℕ) (net : Network) (compiled : IsCompiledNetwork run cycles net) (in_cycles : cycle < cycles)
    (in_links : l < length run.domain.links) (beginning : BeginningIsLegal) (ports : PortsGetThePast) (gives : GateGivesClass) (opens : PortListIsOpen) where
  -- the cycle's beginning and end
  abbrev first : ℕ
  first = cycle * run.domain.cycle_time

  -- the instant at which it is over
  abbrev last : ℕ
  last = (cycle + 1) * run.domain.cycle_time

  -- what the port has when it sends the cycle
  abbrev queue : List QueuedFrame
  queue = waits_in run net.carried l cycle

  -- up to the end of the cycle the network is the legal one of a shorter run, and the same arrives at the port
  past : HaveOnePast run run.tables net.carried (carried_before last net.carried) (cycle + 1)
  past =
      let early = λ (sent : Sent). nat_lt sent.start.0 last in
      record { tables = λ c k. refl; links = λ m k. filter_weaker early early (net.carried m) (λ x c h. h) }

  -- so the port sends up to the end of the cycle what is legal for what it has when it sends the cycle
  pub sends_of_before : Sends run.domain (compiled_lists run.domain l) last l queue (sent_before last (net.carried l)) (backed_before last (net.backed l))
  sends_of_before =
      let d = run.domain in
      let sents = sent_before last (net.carried l) in
      let backed = backed_before last (net.backed l) in
      let shorter : IsShorter (cycle + 1) cycles run.tables run.tables = record { fewer = omega (arith, in_cycles); tables_same = λ c k. refl } in
      let begins = beginning run run.tables (compiled_lists d) (cycle + 1) cycles net shorter compiled.legal in
      let same = ports run run.tables net.carried (carried_before last net.carried) (cycle + 1) l past in
      let so_far : Sends d (compiled_lists d l) last l (comes_before run net.carried l (cycle + 1)) sents backed =
      subst (λ (xs : List QueuedFrame). Sends d (compiled_lists d l) last l xs sents backed) (sym same) (begins.sends l in_links) in
      fewer_sends d (compiled_lists d l) last l queue (queued_in run net.carried l cycle) sents backed (octet_positive d l in_links)
      (closed_in_cycle gives opens run net.carried l cycle (guard_within run.domain l compiled.accepted))
      (subst (λ (xs : List QueuedFrame). Sends d (compiled_lists d l) last l xs sents backed) (waits_on run net.carried l cycle) so_far)

  module _ (unique : LegalStartsAreUnique) (before made : List Transmission) (is : StartsInCycle run.domain l cycle queue before made) where
    -- an instant of the cycle
    abbrev of_cycle : ℕ → Bool
    of_cycle t = cycle_of run.domain t == cycle

    -- it is before the cycle's end
    ends : (t : ℕ) → of_cycle t ≡ true → nat_lt t last ≡ true
    ends t e =
        let d = run.domain in
        let some : 0 < d.cycle_time = omega (arith, compiled.accepted.guard_short) in
        let here : cycle_of d t ≡ cycle = eqb-true (cycle_of d t) cycle e in
        lt-ltb t last (omega (arith, cycle_upto d.cycle_time t some, ap (λ (c : ℕ). c * d.cycle_time) here))

    -- the transmissions are the port's own
    same_starts : sends_of_before.starts ≡ before ++ made
    same_starts =
        let rules : PortRules = record { entries = compiled_lists run.domain l; octet_time = octet_time_of run.domain l } in
        unique rules (arrivals_of queue) last sends_of_before.starts (before ++ made) sends_of_before.legal is.legal

    -- among these, the ones of the cycle
    made_in_cycle : filter (λ (x : Transmission). of_cycle x.1) (before ++ made) ≡ made
    made_in_cycle =
        let d = run.domain in
        let when = λ (x : Transmission). of_cycle x.1 in
        let none_before : filter when before ≡ [] =
        filter_none when before (λ x h. ne_eqb (cycle_of d x.1) cycle
        (λ e. omega (arith, is.sooner x.0 x.1 h, cycle_from d.cycle_time x.1, ap (λ (c : ℕ). c * d.cycle_time) e))) in
        let all_made : filter when made ≡ made =
        filter_each when made (λ x h.
        let upto : x.1 < last = is.legal.before_end x.0 x.1 (Contains-append_right before made x h) in
        eq-eqb (cycle_of d x.1) cycle (cycle_is d.cycle_time cycle x.1 (is.later x.0 x.1 h) (omega (arith, upto)))) in
        filter-append when before made ∙ ap (λ (xs : List Transmission). xs ++ filter when made) none_before ∙ all_made

    -- so a port that has only these frames starts in the cycle what its link sends in it
    pub batch_is_made : MakesTheBatch run net l cycle made
    batch_is_made =
        let in_cycle = λ (sent : Sent). of_cycle sent.start.0 in
        let back_in_cycle = λ (start : Start). of_cycle start.start.0 in
        record {
          batch_made = filter_weaker in_cycle (λ (sent : Sent). nat_lt sent.start.0 last) (net.carried l) (λ x m e. ends x.start.0 e)
              ∙ ap (filter in_cycle) (sends_of_before.are_sent ∙ ap (flat_map (sent_of queue)) same_starts)
              ∙ sent_then of_cycle queue (before ++ made)
              ∙ ap (flat_map (sent_of queue)) made_in_cycle;
          background_made = filter_weaker back_in_cycle (λ (start : Start). nat_lt start.start.0 last) (net.backed l) (λ x m e. ends x.start.0 e)
              ∙ ap (filter back_in_cycle) (sends_of_before.are_backed ∙ ap (flat_map (backed_of queue)) same_starts)
              ∙ backed_then of_cycle queue (before ++ made)
              ∙ ap (flat_map (backed_of queue)) made_in_cycle;
        }
