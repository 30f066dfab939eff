-- If no repeated gate index is reported, all differ.
use Rattle.std.proofs.Common.{ℕ, zero, suc, ◌≡◌, ◌≢◌, ◌<◌, ◌+◌, ◌++◌, ◌==◌, ◌∙◌, Bool, true, false, List, [], ◌∷◌, Some, None, Result, Ok}
use Rattle.std.proofs.Common.{ap, arith, cond, eq-eqb, length, refl, slice_get, subst}
use Rattle.std.specs.List.{list_any}
use Rattle.std.specs.Option.{option_map_or}
use Rattle.cqf_lists.specs.Results.{and_then}
use Rattle.cqf_model.specs.Limits.{streams_within}
use Rattle.cqf_topology.specs.declared.keys.Key.TheVariants as key
use Rattle.cqf_topology.specs.Fields.{whole_document}
use Rattle.cqf_topology.proofs.Refusals.{and_then-Ok, refuse-Ok}
use Rattle.cqf_topology.proofs.Repeats.{first_repeat, first_repeat-None}
use Rattle.cqf_addressing.specs.declared.faults.AddressingFault.TheVariants as fault
use Rattle.cqf_addressing.specs.declared.streams.StreamAddress.{StreamAddress}
use Rattle.cqf_addressing.specs.Laws.{GateIndexesAreApart}
use Rattle.cqf_addressing.specs.Streams.{addresses_in, first_again, first_gate_twice, gate_index, gate_of, gates_from, if_apart, or_text}

-- the test by which gate indexes are compared
abbrev again : ℕ → ℕ → Bool
again gate other = other == gate

-- if no repeated gate index is reported, no element repeats
none_repeats : (earlier gates : List ℕ) → first_again earlier gates ≡ None → first_repeat again earlier gates ≡ None
none_repeats earlier [] h = refl
none_repeats earlier (gate ∷ gates) h = by (list_any (again gate) earlier) (none_repeats (earlier ++ gate ∷ []) gates) h
  where
    by : (b : Bool) → (first_again (earlier ++ gate ∷ []) gates ≡ None → first_repeat again (earlier ++ gate ∷ []) gates ≡ None) →
        cond b (Some (length earlier + 1, gate)) (first_again (earlier ++ gate ∷ []) gates) ≡ None →
        cond b (Some (length earlier)) (first_repeat again (earlier ++ gate ∷ []) gates) ≡ None
    by true rest e = absurd (cc)
    by false rest e = rest e

-- the gate index of a stream is at the stream's index in the list
gate_at : (number : ℕ) (addresses : List StreamAddress) (i : ℕ) → i < length addresses →
    slice_get (gates_from number addresses) i ≡ Some (option_map_or (gate_of (number + i)) (slice_get addresses i) (number + i + 1))
gate_at number [] i inside = absurd (omega arith)
gate_at number (x ∷ addresses) zero inside = ap (λ (n : ℕ). Some (gate_of n x)) (omega arith)
gate_at number (x ∷ addresses) (suc i) inside =
    gate_at (number + 1) addresses i (omega arith)
    ∙ ap (λ (n : ℕ). Some (option_map_or (gate_of n) (slice_get addresses i) (n + 1))) (omega arith)

index_at : (addresses : List StreamAddress) (i : ℕ) → i < length addresses → slice_get (gates_from 0 addresses) i ≡ Some (gate_index addresses i)
index_at addresses i inside =
    gate_at 0 addresses i inside ∙ ap (λ (n : ℕ). Some (option_map_or (gate_of n) (slice_get addresses i) (n + 1))) (omega arith)

-- two streams with the same gate index would be reported
apart : (addresses : List StreamAddress) → first_gate_twice addresses ≡ None → (i k : ℕ) → i < k → k < length addresses →
    gate_index addresses i ≢ gate_index addresses k
apart addresses none i k before inside same =
    first_repeat-None again [] (gates_from 0 addresses) (none_repeats [] (gates_from 0 addresses) none) k (omega arith) (record {
      twin = i;
      earlier = before;
      a = gate_index addresses i;
      b = gate_index addresses k;
      at_twin = index_at addresses i (omega arith);
      at_index = index_at addresses k inside;
      equal = eq-eqb (gate_index addresses i) (gate_index addresses k) same;
    })

pub indexes_apart : GateIndexesAreApart
indexes_apart limits text addresses h i k before inside =
    let (table, read, rest) = and_then-Ok (or_text (whole_document (key.Streams ∷ []) key.Streams [] text))
    (λ table. and_then (addresses_in (streams_within limits) table) if_apart) addresses h in
    let (found, all, kept) = and_then-Ok (addresses_in (streams_within limits) table) if_apart addresses rest in
    let none = refuse-Ok (first_gate_twice found) (λ twice. fault.GateTwice twice.0 twice.1) (Ok found) addresses kept in
    let same : found ≡ addresses = by found none.1 in
    apart addresses (subst (λ (list : List StreamAddress). first_gate_twice list ≡ None) same none.0) i k before inside
  where
    by : {E : Type 0} (found : List StreamAddress) → ◌≡◌ {A = Result (List StreamAddress) E} (Ok found) (Ok addresses) → found ≡ addresses
    by found e = cc
