-- Transmissions in turn: each starts when the one before it and the gap after that are over.
use Rattle.std.proofs.Common.{◌≡◌, ℕ, zero, suc, ◌+◌, ◌*◌, ◌<◌, ◌∷◌, [], ◌++◌, List, inl, inr, sym, ap, ap₂, ◌∙◌, subst, arith, refl, AllPairs, Contains}
use Rattle.std.proofs.Common.{length, get_or, sum_by, take, append_assoc, length-append}
use Rattle.std.specs.List.{flat_map}
use Rattle.std.proofs.lemmas.List.Sums.{sum_by-cons}
use Rattle.std.proofs.Math.Seq.{get_or-append_seam}
use Rattle.cqf_units.specs.Timing.{slot_of, wire_of}
use Rattle.cqf_units.proofs.Times.{slot_some}
use Rattle.cqf_model.specs.declared.frames.Sent.{Sent}
use Rattle.cqf_model.specs.Network.{QueuedFrame, no_frame, sent_by, sent_of}
use Rattle.cqf_model.specs.Port.{Transmission}
use Rattle.cqf_lists.proofs.Members.{contains_cases, contains_here, contains_later, contains_none}
use Rattle.cqf_lists.proofs.Pairs.{pairs_cons, pairs_none}
use Rattle.cqf_laws_instants.specs.Instants.{in_turn_from}

-- what a queued frame takes of the wire
abbrev pub wire : QueuedFrame → ℕ
wire q = wire_of q.arrival.octets

-- and its slot
abbrev pub slot : ℕ → QueuedFrame → ℕ
slot octet_time q = slot_of q.arrival.octets octet_time

-- the transmissions of these frames in turn, with indices from `index` on, from an instant on
abbrev pub due_starts : ℕ → ℕ → ℕ → List QueuedFrame → List Transmission
due_starts index t octet_time [] = []
due_starts index t octet_time (x ∷ xs) = (index, t) ∷ due_starts (index + 1) (t + slot_of x.arrival.octets octet_time) octet_time xs

-- the transmission of the frame at an index among them
pub record IsDueStart (index t octet_time : ℕ) (xs : List QueuedFrame) (p s : ℕ) : Type 0 where
  pub k : ℕ
  pub inside : k < length xs
  pub is_index : p ≡ index + k
  pub is_instant : s ≡ t + sum_by (slot octet_time) (take k xs)

-- a sum with one more summand
sum_more : (octet_time : ℕ) (x : QueuedFrame) (xs : List QueuedFrame) (k t : ℕ) →
    t + slot_of x.arrival.octets octet_time + sum_by (slot octet_time) (take k xs) ≡ t + sum_by (slot octet_time) (take (suc k) (x ∷ xs))
sum_more octet_time x xs k t = spread (slot octet_time x) (sum_by (slot octet_time) (take k xs)) t (sum_by (slot octet_time) (take (suc k) (x ∷ xs)))
    (sum_by-cons (slot octet_time) x (take k xs))
  where
    -- after the first of two
    spread : (a b t s : ℕ) → s ≡ a + b → t + a + b ≡ t + s
    spread a b t s e = omega (arith, e)

-- each of the transmissions is that of such a frame
pub due_start_is : (index t octet_time : ℕ) (xs : List QueuedFrame) (p s : ℕ) → Contains (due_starts index t octet_time xs) (p, s) →
    IsDueStart index t octet_time xs p s
due_start_is index t octet_time [] p s c = absurd (contains_none (p, s) c)
due_start_is index t octet_time (x ∷ xs) p s c =
    elim (contains_cases (index, t) (due_starts (index + 1) (t + slot_of x.arrival.octets octet_time) octet_time xs) (p, s) c) [
      | inl e ↦ record {
        k = 0;
        inside = omega arith;
        is_index = omega (arith, ap (λ (z : Transmission). z.0) e);
        is_instant = omega (arith, ap (λ (z : Transmission). z.1) e);
      }
      | inr later ↦
          let r = due_start_is (index + 1) (t + slot_of x.arrival.octets octet_time) octet_time xs p s later in
          record {
            k = suc r.k;
            inside = omega (arith, r.inside);
            is_index = omega (arith, r.is_index);
            is_instant = r.is_instant ∙ sum_more octet_time x xs r.k t;
          }
    ]

-- and each such frame has one
pub is_due_start : (index t octet_time : ℕ) (xs : List QueuedFrame) (k : ℕ) → k < length xs →
    Contains (due_starts index t octet_time xs) (index + k, t + sum_by (slot octet_time) (take k xs))
is_due_start index t octet_time [] k l = absurd (omega (arith, l))
is_due_start index t octet_time (x ∷ xs) zero l =
    let p : index ≡ index + 0 = omega arith in
    let s : t ≡ t + 0 = omega arith in
    let rest = due_starts (index + 1) (t + slot_of x.arrival.octets octet_time) octet_time xs in
    subst (λ (z : Transmission). Contains ((index, t) ∷ rest) z) (ap₂ (λ (a b : ℕ). (a, b)) p s) (contains_here (index, t) rest)
is_due_start index t octet_time (x ∷ xs) (suc k) l =
    let next = t + slot_of x.arrival.octets octet_time in
    let p : index + 1 + k ≡ index + suc k = omega arith in
    let s = sum_more octet_time x xs k t in
    let rest = due_starts (index + 1) next octet_time xs in
    contains_later (index, t) rest (index + suc k, t + sum_by (slot octet_time) (take (suc k) (x ∷ xs)))
    (subst (λ (z : Transmission). Contains rest z) (ap₂ (λ (a b : ℕ). (a, b)) p s) (is_due_start (index + 1) next octet_time xs k (omega (arith, l))))

-- they ascend
pub due_starts_ascend : (index t octet_time : ℕ) (xs : List QueuedFrame) → 0 < octet_time →
    AllPairs (λ (a b : Transmission). a.1 < b.1) (due_starts index t octet_time xs)
due_starts_ascend index t octet_time [] some = pairs_none (λ (a b : Transmission). a.1 < b.1)
due_starts_ascend index t octet_time (x ∷ xs) some =
    let next = t + slot_of x.arrival.octets octet_time in
    pairs_cons (λ (a b : Transmission). a.1 < b.1) (index, t) (due_starts (index + 1) next octet_time xs)
    (λ y c. let r = due_start_is (index + 1) next octet_time xs y.0 y.1 c in omega (arith, r.is_instant, slot_some x.arrival.octets octet_time some))
    (due_starts_ascend (index + 1) next octet_time xs some)

-- what they send of a queue that has these frames after others
pub due_starts_send : (queue before xs after : List QueuedFrame) (index t octet_time : ℕ) → queue ≡ before ++ (xs ++ after) → index ≡ length before →
    flat_map (sent_of queue) (due_starts index t octet_time xs) ≡ in_turn_from t octet_time xs
due_starts_send queue before [] after index t octet_time parts at = refl
due_starts_send queue before (x ∷ xs) after index t octet_time parts at =
    let next = t + slot_of x.arrival.octets octet_time in
    let here : get_or queue index no_frame ≡ x =
    ap₂ (λ (q : List QueuedFrame) (k : ℕ). get_or q k no_frame) parts at ∙ get_or-append_seam before x (xs ++ after) no_frame in
    let one : sent_of queue (index, t) ≡ sent_by t x.arrival x.stream = ap (λ (q : QueuedFrame). sent_by t q.arrival q.stream) here in
    let moved : queue ≡ (before ++ x ∷ []) ++ (xs ++ after) = parts ∙ sym (append_assoc before (x ∷ []) (xs ++ after)) in
    let rest = due_starts_send queue (before ++ x ∷ []) xs after (index + 1) next octet_time moved (omega (arith, at, length-append before (x ∷ []))) in
    ap₂ (λ (a b : List Sent). a ++ b) one rest
