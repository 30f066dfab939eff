-- What a link sends of queued frames in turn, as a book records it.
use Rattle.std.proofs.Common.{◌≡◌, ℕ, ◌+◌, ◌*◌, ◌<◌, ◌∷◌, [], ◌++◌, List, Option, Some, sym, ap, ◌∙◌, refl, Contains, map, length, arith}
use Rattle.cqf_units.specs.Timing.{slot_of}
use Rattle.cqf_model.specs.declared.frames.Sent.{Sent}
use Rattle.cqf_model.specs.declared.frames.Started.{Started}
use Rattle.cqf_model.specs.declared.ports.Arrival.{Arrival}
use Rattle.cqf_model.specs.Book.{started}
use Rattle.cqf_model.specs.Domain.{bridge_of}
use Rattle.cqf_model.specs.Network.{QueuedFrame, queued_in, sent_by}
use Rattle.cqf_model.specs.Run.{Run, end_of_run}
use Rattle.cqf_model.specs.Policing.{Carried}
use Rattle.cqf_lists.proofs.Members.{contains_here, contains_later}
use Rattle.cqf_laws_shift.specs.Alone.{IsRunAlone}
use Rattle.cqf_laws_shift.specs.Run.{RunBesideIsRunAlone}
use Rattle.cqf_laws_shift.proofs.Came.{policed}
use Rattle.cqf_laws_shift.proofs.CycleLaws.{CycleLaws}
use Rattle.cqf_laws_shift.proofs.Queues.{queued_from}
use Rattle.cqf_laws_instants.specs.Instants.{StartsAreInTurn, in_turn_from, starts_from}
use Rattle.cqf_laws_instants.proofs.Dues.{batch_is_due, in_queue}

-- a stream's frame is sent as one frame
pub sent_one : (t : ℕ) (x : Arrival) (stream : Option ℕ) (number : ℕ) → stream ≡ Some number →
    sent_by t x stream ≡ record { start = record { 0 = t }; frame = x.frame; stream = number; octets = x.octets } ∷ []
sent_one t x stream number e = ap (sent_by t x) e

-- the book records streams' frames in turn, one after the other
due_starts_reported : (cycle link t octet_time : ℕ) (xs : List QueuedFrame) → ((x : QueuedFrame) → Contains xs x → (number : ℕ) × (x.stream ≡ Some number)) →
    map (started cycle link) (in_turn_from t octet_time xs) ≡ starts_from cycle link t octet_time xs
due_starts_reported cycle link t octet_time [] of_streams = refl
due_starts_reported cycle link t octet_time (x ∷ xs) of_streams =
    let next = t + slot_of x.arrival.octets octet_time in
    let s = of_streams x (contains_here x xs) in
    let one = sent_one t x.arrival x.stream s.0 s.1 in
    let rest = due_starts_reported cycle link next octet_time xs (λ y c. of_streams y (contains_later x xs y c)) in
    let own : Started = record { cycle = record { 0 = cycle }; link = link; frame = x.arrival.frame; octets = x.arrival.octets; start = record { 0 = t } } in
    ap (λ (ys : List Sent). map (started cycle link) (ys ++ in_turn_from next octet_time xs)) one ∙ ap (λ (ys : List Started). own ∷ ys) rest

module _ (laws : CycleLaws) (run : Run) (carried : Carried) (alone : IsRunAlone run carried) where
  -- each queued frame is a stream's
  pub queued_of_stream : (l cycle : ℕ) → cycle < length run.tables → (x : QueuedFrame) → Contains (queued_in run carried l cycle) x →
      (number : ℕ) × (x.stream ≡ Some number)
  queued_of_stream l cycle in_run x c =
      let from = queued_from run.domain l (policed run carried (end_of_run run) (bridge_of run.domain l)) x
      (in_queue laws run carried alone l cycle x in_run c) in
      (from.row.no, ap (λ (q : QueuedFrame). q.stream) (sym from.is))

-- the law
pub starts_are_in_turn : CycleLaws → RunBesideIsRunAlone → StartsAreInTurn
starts_are_in_turn laws beside run net l cycle legal in_run =
    ap (map (started (cycle + 1) l)) (batch_is_due laws beside run net l cycle legal in_run)
    ∙ due_starts_reported (cycle + 1) l _ _ (queued_in run net.carried l cycle)
    (queued_of_stream laws run net.carried (beside run net legal) l cycle (omega (arith, in_run)))
