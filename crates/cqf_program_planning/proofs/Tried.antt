-- What is known of streams that are placed on a cycle time, in the order of the network file or in another.
use Rattle.std.proofs.Common.{◌≡◌, ◌∙◌, ℕ, All, List, [], Option, Some, None, ap, length, refl, subst, sym}
use Rattle.std.specs.Prelude.{unwrap_or}
use Rattle.cqf_laws_history.specs.StateLaws.{SealsAreCounted}
use Rattle.cqf_network.specs.NetworkDomain.{NetworkDomain, domain_at}
use Rattle.cqf_program_placing.specs.Placing.{PlacedOr, PlacedStreams}
use Rattle.cqf_program_placing.specs.Settled.{SettledStream}
use Rattle.cqf_program_planning.specs.Judging.{ArePlacedAt, first_unplaced, flows_placed}
use Rattle.cqf_program_planning.specs.Orders.{AreTriedAt, IsSearched, order_after}
use Rattle.cqf_program_planning.proofs.AllPlaced.{AreAllGranted, all_granted}
use Rattle.cqf_program_planning.proofs.OtherOrders.{placed_again}
use Rattle.cqf_program_planning.proofs.OrderLemmas.{after_inside, none_after, none_searched, searched_order}
use Rattle.cqf_program_planning.proofs.TriedLemmas.{AreEachPlaced, each_placed, length-placed}

-- their domain; each is placed or isn't; and if all are placed, all are granted in the order of the file
pub record IsTriedKnown (network : NetworkDomain) (streams : List SettledStream) (cycle_time : ℕ) (placed : PlacedStreams) : Type 0 where
  pub domain : placed.domain ≡ domain_at network cycle_time
  pub placed_each : AreEachPlaced placed.domain streams placed.outcomes
  pub granted : SealsAreCounted → first_unplaced streams placed.outcomes ≡ None →
      AreAllGranted placed.domain [] streams (flows_placed placed.domain.cycle_time streams placed.outcomes) placed.entries

-- in the order of the file
known_first : (network : NetworkDomain) (streams : List SettledStream) (cycle_time : ℕ) (placed : PlacedStreams) → ArePlacedAt network streams cycle_time placed →
    IsTriedKnown network streams cycle_time placed
known_first network streams cycle_time placed are = record {
  domain = are.domain;
  placed_each = each_placed placed.domain [] streams placed.outcomes placed.entries are.placed_are;
  granted = λ counted none. all_granted placed.domain streams [] placed.entries placed.outcomes counted none are.placed_are;
}

-- in another
known_later : (network : NetworkDomain) (streams : List SettledStream) (tries cycle_time : ℕ) (first placed : PlacedStreams) →
    IsSearched network streams cycle_time tries (order_after streams first.outcomes) (Some placed) → IsTriedKnown network streams cycle_time placed
known_later network streams tries cycle_time first placed searched =
    let good = searched_order network streams cycle_time tries (order_after streams first.outcomes) placed
    (λ order is. after_inside streams first.outcomes order is) searched in
    let known = placed_again network streams cycle_time placed good in
    record {
      domain = known.1;
      placed_each = known.0.placed_each;
      granted = λ counted none. known.0.granted counted;
    }

pub tried_known : (network : NetworkDomain) (streams : List SettledStream) (tries cycle_time : ℕ) (placed : PlacedStreams) →
    AreTriedAt network streams tries cycle_time placed → IsTriedKnown network streams cycle_time placed
tried_known network streams tries cycle_time placed are = by are.found are.is_found are.is
  where
    by : (found : Option PlacedStreams) → IsSearched network streams cycle_time tries (order_after streams are.first.outcomes) found →
        placed ≡ unwrap_or found are.first → IsTriedKnown network streams cycle_time placed
    by None searched same = subst (IsTriedKnown network streams cycle_time) (sym same) (known_first network streams cycle_time are.first are.are_first)
    by (Some other) searched same =
        subst (IsTriedKnown network streams cycle_time) (sym same) (known_later network streams tries cycle_time are.first other searched)

-- if all are placed in the order of the file, that order is taken
pub tried_first : (network : NetworkDomain) (streams : List SettledStream) (tries cycle_time : ℕ) (placed : PlacedStreams) →
    AreTriedAt network streams tries cycle_time placed →
    ((first : PlacedStreams) → ArePlacedAt network streams cycle_time first → first_unplaced streams first.outcomes ≡ None) →
    ArePlacedAt network streams cycle_time placed
tried_first network streams tries cycle_time placed are all =
    let first = are.first in
    let each = length-placed first.domain streams first.outcomes
    (each_placed first.domain [] streams first.outcomes first.entries are.are_first.placed_are) in
    let none = none_searched network streams cycle_time tries (order_after streams first.outcomes) are.found
    (none_after streams first.outcomes each (all first are.are_first)) are.is_found in
    let same : first ≡ placed = sym (are.is ∙ ap (λ (found : Option PlacedStreams). unwrap_or found first) none) in
    subst (ArePlacedAt network streams cycle_time) same are.are_first
