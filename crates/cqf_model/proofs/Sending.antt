-- The streams' frames and background frames that a port's transmissions send.
use Rattle.std.proofs.Common.{◌≡◌, ℕ, ◌*◌, ◌<◌, Bool, List, Option, Some, None, sym, ap, arith, inl, inr, length, subst, AllPairs, Contains}
use Rattle.std.specs.Prelude.{filter, slice_index_or}
use Rattle.std.specs.List.{flat_map}
use Rattle.std.proofs.lemmas.Bool.{cases_lt}
use Rattle.cqf_lists.proofs.Members.{contains_from_flat, contains_none, contains_one}
use Rattle.cqf_lists.proofs.Pairs.{pairs_none, pairs_one}
use Rattle.cqf_lists.proofs.Made.{filter_made, flat_map_same}
use Rattle.cqf_model.specs.declared.frames.Sent.{Sent}
use Rattle.cqf_model.specs.declared.ports.Arrival.{Arrival}
use Rattle.cqf_model.specs.declared.ports.Start.{Start}
use Rattle.cqf_model.specs.Domain.{Domain}
use Rattle.cqf_model.specs.GateList.{Entry}
use Rattle.cqf_model.specs.Port.{Transmission}
use Rattle.cqf_model.specs.Network.{IsLegalNetwork, Network, QueuedFrame, Sends, backed_by, backed_of, comes_before, no_frame, sent_by, sent_of}
use Rattle.cqf_model.specs.Run.{Run}

-- a stream's frame is sent when its transmission starts
sent_when : (t : ℕ) (x : Arrival) (stream : Option ℕ) (sent : Sent) → Contains (sent_by t x stream) sent → sent.start.0 ≡ t
sent_when t x None sent h = absurd (contains_none sent h)
sent_when t x (Some stream) sent h =
    let own : Sent = record { start = record { 0 = t }; frame = x.frame; stream = stream; octets = x.octets } in
    sym (ap (λ (y : Sent). y.start.0) (contains_one own sent h))

-- and so is a background frame
backed_when : (t : ℕ) (x : Arrival) (stream : Option ℕ) (start : Start) → Contains (backed_by t x stream) start → start.start.0 ≡ t
backed_when t x None start h =
    let own : Start = record { start = record { 0 = t }; class = x.class; octets = x.octets; frame = x.frame } in
    sym (ap (λ (y : Start). y.start.0) (contains_one own start h))
backed_when t x (Some stream) start h = absurd (contains_none start h)

-- a stream's frame has its transmission's instant
pub sent_of_when : (queued : List QueuedFrame) (x : Transmission) (sent : Sent) → Contains (sent_of queued x) sent → sent.start.0 ≡ x.1
sent_of_when queued x sent h =
    let q = slice_index_or queued x.0 no_frame in sent_when x.1 q.arrival q.stream sent h

-- and so does a background frame
pub backed_of_when : (queued : List QueuedFrame) (x : Transmission) (start : Start) → Contains (backed_of queued x) start → start.start.0 ≡ x.1
backed_of_when queued x start h =
    let q = slice_index_or queued x.0 no_frame in backed_when x.1 q.arrival q.stream start h

-- a stream's frame has the octets of the queued frame
sent_octets : (t : ℕ) (x : Arrival) (stream : Option ℕ) (sent : Sent) → Contains (sent_by t x stream) sent → sent.octets ≡ x.octets
sent_octets t x None sent h = absurd (contains_none sent h)
sent_octets t x (Some stream) sent h =
    let own : Sent = record { start = record { 0 = t }; frame = x.frame; stream = stream; octets = x.octets } in
    sym (ap (λ (y : Sent). y.octets) (contains_one own sent h))

-- so what a transmission sends has the octets of the frame at its index
pub sent_of_octets : (queued : List QueuedFrame) (x : Transmission) (sent : Sent) → Contains (sent_of queued x) sent →
    sent.octets ≡ (slice_index_or queued x.0 no_frame).arrival.octets
sent_of_octets queued x sent h =
    let q = slice_index_or queued x.0 no_frame in sent_octets x.1 q.arrival q.stream sent h

-- a transmission sends one frame at most
sent_once : (R : Sent → Sent → Type 0) (t : ℕ) (x : Arrival) (stream : Option ℕ) → AllPairs R (sent_by t x stream)
sent_once R t x None = pairs_none R
sent_once R t x (Some stream) = pairs_one R (record { start = record { 0 = t }; frame = x.frame; stream = stream; octets = x.octets })

-- so what it sends has no pairs
pub sent_of_once : (R : Sent → Sent → Type 0) (queued : List QueuedFrame) (x : Transmission) → AllPairs R (sent_of queued x)
sent_of_once R queued x =
    let q = slice_index_or queued x.0 no_frame in sent_once R x.1 q.arrival q.stream

-- a port sends a stream's frame before its end
pub sent_within : (d : Domain) (entries : List Entry) (end l : ℕ) (queued : List QueuedFrame) (sents : List Sent) (backed : List Start) →
    Sends d entries end l queued sents backed → (x : Sent) → Contains sents x → x.start.0 < end
sent_within d entries end l queued sents backed s x h =
    let w = contains_from_flat (sent_of queued) s.starts x (subst (λ (xs : List Sent). Contains xs x) s.are_sent h) in
    omega (arith, sent_of_when queued w.0 x w.2, s.legal.before_end w.0.0 w.0.1 w.1)

-- and a background frame
pub backed_within : (d : Domain) (entries : List Entry) (end l : ℕ) (queued : List QueuedFrame) (sents : List Sent) (backed : List Start) →
    Sends d entries end l queued sents backed → (x : Start) → Contains backed x → x.start.0 < end
backed_within d entries end l queued sents backed s x h =
    let w = contains_from_flat (backed_of queued) s.starts x (subst (λ (xs : List Start). Contains xs x) s.are_backed h) in
    omega (arith, backed_of_when queued w.0 x w.2, s.legal.before_end w.0.0 w.0.1 w.1)

-- a link of a legal network sends within the run
pub sent_in_run : (run : Run) (lists : ℕ → List Entry) (cycles : ℕ) (net : Network) → IsLegalNetwork run lists cycles net → (l : ℕ) (x : Sent) →
    Contains (net.carried l) x → x.start.0 < cycles * run.domain.cycle_time
sent_in_run run lists cycles net legal l x h =
    elim (cases_lt l (length run.domain.links)) [
      | inl k ↦ sent_within run.domain (lists l) (cycles * run.domain.cycle_time) l (comes_before run net.carried l cycles) (net.carried l) (net.backed l)
          (legal.sends l k) x h
      | inr g ↦ absurd (contains_none x (subst (λ (xs : List Sent). Contains xs x) (legal.no_others l g).0 h))
    ]

-- its background frames too
pub backed_in_run : (run : Run) (lists : ℕ → List Entry) (cycles : ℕ) (net : Network) → IsLegalNetwork run lists cycles net → (l : ℕ) (x : Start) →
    Contains (net.backed l) x → x.start.0 < cycles * run.domain.cycle_time
backed_in_run run lists cycles net legal l x h =
    elim (cases_lt l (length run.domain.links)) [
      | inl k ↦ backed_within run.domain (lists l) (cycles * run.domain.cycle_time) l (comes_before run net.carried l cycles) (net.carried l) (net.backed l)
          (legal.sends l k) x h
      | inr g ↦ absurd (contains_none x (subst (λ (xs : List Start). Contains xs x) (legal.no_others l g).1 h))
    ]

-- the frames that are sent at the instants of a test are those of the transmissions at these instants
pub sent_then : (test : ℕ → Bool) (queued : List QueuedFrame) (starts : List Transmission) →
    filter (λ (sent : Sent). test sent.start.0) (flat_map (sent_of queued) starts) ≡ flat_map (sent_of queued) (filter (λ (x : Transmission). test x.1) starts)
sent_then test queued starts =
    filter_made (sent_of queued) (λ (x : Transmission). test x.1) (λ (sent : Sent). test sent.start.0) starts
    (λ x sent h k. ap test (sent_of_when queued x sent k))

-- and so it is with background frames
pub backed_then : (test : ℕ → Bool) (queued : List QueuedFrame) (starts : List Transmission) →
    filter (λ (start : Start). test start.start.0) (flat_map (backed_of queued) starts) ≡ flat_map (backed_of queued)
    (filter (λ (x : Transmission). test x.1) starts)
backed_then test queued starts =
    filter_made (backed_of queued) (λ (x : Transmission). test x.1) (λ (start : Start). test start.start.0) starts
    (λ x start h k. ap test (backed_of_when queued x start k))

-- queues with the same frames at the transmissions' indices send the same
pub sent_same : (queued others : List QueuedFrame) (starts : List Transmission) →
    ((x : Transmission) → Contains starts x → slice_index_or queued x.0 no_frame ≡ slice_index_or others x.0 no_frame) →
    flat_map (sent_of queued) starts ≡ flat_map (sent_of others) starts
sent_same queued others starts same =
    flat_map_same (sent_of queued) (sent_of others) starts (λ x h. ap (λ (q : QueuedFrame). sent_by x.1 q.arrival q.stream) (same x h))

-- of background frames too
pub backed_same : (queued others : List QueuedFrame) (starts : List Transmission) →
    ((x : Transmission) → Contains starts x → slice_index_or queued x.0 no_frame ≡ slice_index_or others x.0 no_frame) →
    flat_map (backed_of queued) starts ≡ flat_map (backed_of others) starts
backed_same queued others starts same =
    flat_map_same (backed_of queued) (backed_of others) starts (λ x h. ap (λ (q : QueuedFrame). backed_by x.1 q.arrival q.stream) (same x h))
