-- The time that the streams' frames of a cycle take, compared with their octets of the wire.
use Rattle.std.proofs.Common.{◌≡◌, ℕ, ◌+◌, ◌*◌, ◌≤◌, ◌∷◌, [], List, Bool, true, false, if◌then◌else◌, ◌==◌, ap, arith, Contains, sum_by}
use Rattle.std.proofs.lemmas.List.Sums.{sum_by-cons}
use Rattle.cqf_lists.proofs.Members.{contains_here, contains_later}
use Rattle.cqf_units.specs.Timing.{cycle_at, shortest_of, slot_of, wire_of}
use Rattle.cqf_units.proofs.Times.{slot_within}
use Rattle.cqf_model.specs.declared.ports.Arrival.{Arrival}
use Rattle.cqf_model.specs.Due.{busy, is_streams, load, slot_in, wire_in}

-- an inequality of scaled terms holds for the scaled sums
pub sum_scaled : {X : Type 0} (f g : X → ℕ) (a b : ℕ) (xs : List X) → ((x : X) → Contains xs x → a * f x ≤ g x * b) → a * sum_by f xs ≤ sum_by g xs * b
sum_scaled f g a b [] each = omega arith
sum_scaled f g a b (x ∷ xs) each =
    joined (f x) (sum_by f xs) (sum_by f (x ∷ xs)) (g x) (sum_by g xs) (sum_by g (x ∷ xs)) (sum_by-cons f x xs) (sum_by-cons g x xs)
    (each x (contains_here x xs)) (sum_scaled f g a b xs (λ y c. each y (contains_later x xs y c)))
  where
    joined : (one rest all other more whole : ℕ) → all ≡ one + rest → whole ≡ other + more → a * one ≤ other * b → a * rest ≤ more * b → a * all ≤ whole * b
    joined one rest all other more whole first second here there =
        omega (arith, ap (λ z. a * z) first, ap (λ z. z * b) second, here, there)

-- if no frame is below the shortest size, they take no longer than frames of that size would for as many octets
pub busy_within : (octet_time cycle_time cycle : ℕ) (arrivals : List Arrival) → ((a : Arrival) → Contains arrivals a → 64 ≤ a.octets) →
    2100 * busy octet_time cycle_time cycle arrivals ≤ load cycle_time cycle arrivals * shortest_of octet_time
busy_within octet_time cycle_time cycle arrivals least =
    sum_scaled (slot_in octet_time cycle_time cycle) (wire_in cycle_time cycle) 2100 (shortest_of octet_time) arrivals
    (λ a c. by_test a (slot_within a.octets octet_time (least a c)) (cycle_at cycle_time a.at.0 == cycle) (is_streams a))
  where
    by_test : (a : Arrival) → 2100 * slot_of a.octets octet_time ≤ wire_of a.octets * shortest_of octet_time → (own counts : Bool) →
        2100 * (if own then (if counts then slot_of a.octets octet_time else 0) else 0)
        ≤ (if own then (if counts then wire_of a.octets else 0) else 0) * shortest_of octet_time
    by_test a within true true = within
    by_test a within true false = omega arith
    by_test a within false counts = omega arith
