-- What a port of a network sends before an instant depends only on the front of its queue.
use Rattle.std.proofs.Common.{◌≡◌, ℕ, ◌<◌, ◌≤◌, List, length, length-append, sym, ap, ◌∙◌, inl, inr, arith, refl}
use Rattle.std.specs.Prelude.{◌++◌, Contains, nat_lt, slice_index_or}
use Rattle.std.specs.List.{flat_map}
use Rattle.std.proofs.lemmas.Bool.{lt-ltb, ltb-true}
use Rattle.std.proofs.lemmas.List.{get_or-map, get_or_append_left, length-map}
use Rattle.cqf_lists.proofs.EachBelow.{filter_each}
use Rattle.cqf_lists.proofs.Fronts.{Front}
use Rattle.cqf_lists.proofs.Members.{contains_from_filter}
use Rattle.cqf_lists.proofs.Indices.{in_either}
use Rattle.cqf_model.specs.declared.frames.Sent.{Sent}
use Rattle.cqf_model.specs.declared.ports.Arrival.{Arrival}
use Rattle.cqf_model.specs.declared.ports.Start.{Start}
use Rattle.cqf_model.specs.Domain.{Domain, octet_time_of}
use Rattle.cqf_model.specs.GateList.{Entry}
use Rattle.cqf_model.specs.Network.{QueuedFrame, Sends, arrivals_of, backed_of, no_frame, sent_of}
use Rattle.cqf_model.specs.Port.{AreLegal, PortRules, Transmission, instant_of, no_arrival}
use Rattle.cqf_model.proofs.Sending.{backed_same, backed_then, backed_within, sent_same, sent_then, sent_within}
use Rattle.cqf_laws_network.specs.PortLaws.{HasAllBefore, LegalPartIsLegalForTheSamePast, OnlyThePastCounts, starts_before}
use Rattle.cqf_laws_network.specs.NetworkLaws.{PortGoesByThePast, SendTheSame, backed_before, sent_before}
use Rattle.cqf_laws_network.proofs.Came.{Late}

-- a frame that came before the instant is in the front
in_front : (n : ℕ) (front rest : List QueuedFrame) → ((x : QueuedFrame) → Contains rest x → Late n x) → (p : ℕ) → p < length (front ++ rest) →
    (slice_index_or (front ++ rest) p no_frame).arrival.at.0 < n → p < length front
in_front n front rest late p l came =
    elim (in_either front rest p no_frame l) [
      | inl k ↦ k
      | inr m ↦ absurd (omega (arith, came, late (slice_index_or (front ++ rest) p no_frame) m))
    ]

-- the arrival at an index is that of the queued frame there
arrival_at : (queued : List QueuedFrame) (p : ℕ) → p < length queued →
    slice_index_or (arrivals_of queued) p no_arrival ≡ (slice_index_or queued p no_frame).arrival
arrival_at queued p l = get_or-map (λ (x : QueuedFrame). x.arrival) queued p no_frame no_arrival l

-- the indices of arrivals are those of queued frames
index_of : (queued : List QueuedFrame) (p : ℕ) → p < length (arrivals_of queued) → p < length queued
index_of queued p l = omega (arith, l, length-map queued (λ (x : QueuedFrame). x.arrival))

-- an arrival before the instant is of a frame in the front
arrived_in_front : (n : ℕ) (queued front : List QueuedFrame) → Front queued front (Late n) → (p : ℕ) → p < length (arrivals_of queued) →
    instant_of (arrivals_of queued) p < n → (p < length front) × (slice_index_or queued p no_frame ≡ slice_index_or front p no_frame)
arrived_in_front n queued front f p l came =
    let inside : p < length (front ++ f.rest) = omega (arith, index_of queued p l, ap (length {A = QueuedFrame}) f.is) in
    let at : slice_index_or queued p no_frame ≡ slice_index_or (front ++ f.rest) p no_frame =
    ap (λ (xs : List QueuedFrame). slice_index_or xs p no_frame) f.is in
    let before : (slice_index_or (front ++ f.rest) p no_frame).arrival.at.0 < n =
    omega (arith, came, ap (λ (x : Arrival). x.at.0) (arrival_at queued p (index_of queued p l)), ap (λ (x : QueuedFrame). x.arrival.at.0) at) in
    let k = in_front n front f.rest f.late p inside before in
    (k, at ∙ get_or_append_left front f.rest no_frame p k)

-- an index of the front is one of the queue, with the same frame
front_index : (n : ℕ) (queued front : List QueuedFrame) → Front queued front (Late n) → (p : ℕ) → p < length front → (p < length queued) ×
    (slice_index_or queued p no_frame ≡ slice_index_or front p no_frame)
front_index n queued front f p l = (
  omega (arith, l, ap (length {A = QueuedFrame}) f.is, length-append front f.rest),
  ap (λ (xs : List QueuedFrame). slice_index_or xs p no_frame) f.is ∙ get_or_append_left front f.rest no_frame p l,
)

-- two queues with one front have the same arrivals before the instant
same_before : (n : ℕ) (xs ys front : List QueuedFrame) → Front xs front (Late n) → Front ys front (Late n) → HasAllBefore n (arrivals_of xs) (arrivals_of ys)
same_before n xs ys front f g p l came =
    let h = arrived_in_front n xs front f p l came in
    let k = front_index n ys front g p h.0 in (
      omega (arith, k.0, length-map ys (λ (x : QueuedFrame). x.arrival)),
      arrival_at xs p (index_of xs p l) ∙ ap (λ (x : QueuedFrame). x.arrival) (h.1 ∙ sym k.1) ∙ sym (arrival_at ys p k.0),
    )

-- a transmission before the instant is of the same frame in both queues
same_frame : (n end : ℕ) (rules : PortRules) (xs ys front : List QueuedFrame) (starts : List Transmission) → Front xs front (Late n) → Front ys front (Late n) →
    AreLegal rules (arrivals_of xs) end starts → (x : Transmission) → Contains (starts_before n starts) x →
    slice_index_or xs x.0 no_frame ≡ slice_index_or ys x.0 no_frame
same_frame n end rules xs ys front starts f g legal x h =
    let w = contains_from_filter (λ (start : Transmission). nat_lt start.1 n) starts x h in
    let waits = (legal.first x.0 x.1 w.0).waits in
    let came : instant_of (arrivals_of xs) x.0 < n = omega (arith, waits.come, ltb-true x.1 n w.1) in
    let a = arrived_in_front n xs front f x.0 waits.inside came in
    let b = front_index n ys front g x.0 a.0 in
    a.1 ∙ sym b.1

module _ (d : Domain) (entries : List Entry) (l : ℕ) where
  -- the rules of the port
  abbrev rules : PortRules
  rules = record { entries = entries; octet_time = octet_time_of d l }

  -- a port sends no stream's frame from its end on
  pub sends_before_end : (end : ℕ) (queued : List QueuedFrame) (sents : List Sent) (backed : List Start) → Sends d entries end l queued sents backed →
      sent_before end sents ≡ sents
  sends_before_end end queued sents backed s =
      filter_each (λ (sent : Sent). nat_lt sent.start.0 end) sents (λ x h. lt-ltb x.start.0 end (sent_within d entries end l queued sents backed s x h))

  -- and no background frame
  pub backed_before_end : (end : ℕ) (queued : List QueuedFrame) (sents : List Sent) (backed : List Start) → Sends d entries end l queued sents backed →
      backed_before end backed ≡ backed
  backed_before_end end queued sents backed s =
      filter_each (λ (start : Start). nat_lt start.start.0 end) backed (λ x h. lt-ltb x.start.0 end (backed_within d entries end l queued sents backed s x h))

  module _ (n end : ℕ) (xs ys front : List QueuedFrame) (sents : List Sent) (backed : List Start) (f : Front xs front (Late n)) (g : Front ys front (Late n))
      (s : Sends d entries end l xs sents backed) where
    -- what it sends before an instant, from another queue with the same front
    sent_of_other : sent_before n sents ≡ flat_map (sent_of ys) (starts_before n s.starts)
    sent_of_other =
        ap (sent_before n) s.are_sent ∙ sent_then (λ t. nat_lt t n) xs s.starts
        ∙ sent_same xs ys (starts_before n s.starts) (same_frame n end rules xs ys front s.starts f g s.legal)

    -- the same for background frames
    backed_of_other : backed_before n backed ≡ flat_map (backed_of ys) (starts_before n s.starts)
    backed_of_other =
        ap (backed_before n) s.are_backed ∙ backed_then (λ t. nat_lt t n) xs s.starts
        ∙ backed_same xs ys (starts_before n s.starts) (same_frame n end rules xs ys front s.starts f g s.legal)

    -- that is legal for the other queue
    pub port_part : LegalPartIsLegalForTheSamePast → n ≤ end → Sends d entries n l ys (sent_before n sents) (backed_before n backed)
    port_part part le =
        record {
          starts = starts_before n s.starts;
          legal = part rules (arrivals_of xs) (arrivals_of ys) n end s.starts le (same_before n xs ys front f g) (same_before n ys xs front g f) s.legal;
          are_sent = sent_of_other;
          are_backed = backed_of_other;
        }

    -- and for the other queue the same is sent before the instant
    pub port_past : OnlyThePastCounts → (other_end : ℕ) (others : List Sent) (other_backed : List Start) → n ≤ end → n ≤ other_end →
        Sends d entries other_end l ys others other_backed → SendTheSame n sents others backed other_backed
    port_past past other_end others other_backed le other_le t =
        let same : starts_before n s.starts ≡ starts_before n t.starts =
        past rules (arrivals_of xs) (arrivals_of ys) n end other_end s.starts t.starts le other_le (same_before n xs ys front f g)
        (same_before n ys xs front g f) s.legal t.legal in
        record {
          sent = sent_of_other ∙ ap (flat_map (sent_of ys)) same ∙ sym (sent_then (λ u. nat_lt u n) ys t.starts) ∙ sym (ap (sent_before n) t.are_sent);
          background = backed_of_other ∙ ap (flat_map (backed_of ys)) same ∙ sym (backed_then (λ u. nat_lt u n) ys t.starts)
              ∙ sym (ap (backed_before n) t.are_backed);
        }

-- what a port sends depends only on the past
pub port_by_past : OnlyThePastCounts → PortGoesByThePast
port_by_past past d entries l end front rest other_rest late other_late one other le other_le =
    let f : Front (front ++ rest) front (Late end) = record { rest = rest; is = refl; late = late } in
    let g : Front (front ++ other_rest) front (Late end) = record { rest = other_rest; is = refl; late = other_late } in
    port_past d entries l end one.end (front ++ rest)
    (front ++ other_rest) front one.sents one.backed f g one.sends past other.end other.sents other.backed le other_le other.sends
