-- What a port sends is in order of instant.
use Rattle.std.proofs.Common.{ℕ, ◌<◌, ◌≤◌, List, sym, arith, subst, AllPairs}
use Rattle.std.specs.Prelude.{Option, Some, None, slice_index_or}
use Rattle.cqf_lists.proofs.Made.{pairs_of_flat}
use Rattle.cqf_lists.proofs.Pairs.{pairs_none, pairs_one}
use Rattle.cqf_model.specs.declared.frames.Sent.{Sent}
use Rattle.cqf_model.specs.declared.ports.Arrival.{Arrival}
use Rattle.cqf_model.specs.declared.ports.Start.{Start}
use Rattle.cqf_model.specs.Domain.{Domain}
use Rattle.cqf_model.specs.GateList.{Entry}
use Rattle.cqf_model.specs.Network.{QueuedFrame, Sends, backed_by, backed_of, no_frame, sent_of}
use Rattle.cqf_model.specs.Port.{Transmission}
use Rattle.cqf_model.proofs.Sending.{backed_of_when, sent_of_once, sent_of_when}

-- a transmission starts at most one background frame
backed_once : (R : Start → Start → Type 0) (t : ℕ) (x : Arrival) (stream : Option ℕ) → AllPairs R (backed_by t x stream)
backed_once R t x None = pairs_one R (record { start = record { 0 = t }; class = x.class; octets = x.octets; frame = x.frame })
backed_once R t x (Some stream) = pairs_none R

-- a port sends streams' frames in order
pub sent_in_order : (d : Domain) (entries : List Entry) (end l : ℕ) (queued : List QueuedFrame) (sents : List Sent) (backed : List Start) →
    Sends d entries end l queued sents backed → AllPairs (λ (a b : Sent). a.start.0 ≤ b.start.0) sents
sent_in_order d entries end l queued sents backed s =
    let R : Sent → Sent → Type 0 = λ a b. a.start.0 ≤ b.start.0 in
    subst (AllPairs R) (sym s.are_sent)
    (pairs_of_flat (sent_of queued) (λ (a b : Transmission). a.1 < b.1) R s.starts (λ x c. sent_of_once R queued x)
    (λ x z u v c e before h k. omega (arith, before, sent_of_when queued x u h, sent_of_when queued z v k)) s.legal.in_order)

-- and background frames
pub backed_in_order : (d : Domain) (entries : List Entry) (end l : ℕ) (queued : List QueuedFrame) (sents : List Sent) (backed : List Start) →
    Sends d entries end l queued sents backed → AllPairs (λ (a b : Start). a.start.0 ≤ b.start.0) backed
backed_in_order d entries end l queued sents backed s =
    let R : Start → Start → Type 0 = λ a b. a.start.0 ≤ b.start.0 in
    subst (AllPairs R) (sym s.are_backed)
    (pairs_of_flat (backed_of queued) (λ (a b : Transmission). a.1 < b.1) R s.starts
    (λ x c. let q = slice_index_or queued x.0 no_frame in backed_once R x.1 q.arrival q.stream)
    (λ x z u v c e before h k. omega (arith, before, backed_of_when queued x u h, backed_of_when queued z v k)) s.legal.in_order)
