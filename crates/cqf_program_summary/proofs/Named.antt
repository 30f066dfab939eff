-- Streams are found by name.
use Rattle.std.proofs.Common.{◌≡◌, ◌∙◌, ◌+◌, ◌∷◌, [], ℕ, List, ap, map, position, refl}
use Rattle.cqf_lists.proofs.Mapped.{position-map}
use Rattle.cqf_model.specs.Domain.{is_text}
use Rattle.cqf_topology.specs.DomainText.{index_of}
use Rattle.cqf_program_runs.specs.declared.deliveries.delivery.Delivery.{Delivery}
use Rattle.cqf_program_summary.specs.Summary.Counting.{fare_with, fare_with_each, fare_with_offer}
use Rattle.cqf_program_summary.specs.Summary.{Fare}

-- the index of a name is that of its stream
pub named_index : (name : List ℕ) (keys : List (List ℕ)) (fares : List Fare) → keys ≡ map (λ (f : Fare). f.name) fares →
    index_of name keys ≡ position (λ (f : Fare). is_text f.name name) fares
named_index name keys fares are = ap (index_of name) are ∙ position-map (λ (other : List ℕ). is_text other name) (λ (f : Fare). f.name) fares

-- a stream keeps its name
each_name : (here : List Delivery) (fare : Fare) → (fare_with_each here fare).name ≡ fare.name
each_name [] fare = refl
each_name (x ∷ here) fare = each_name here (fare_with fare x)

pub offer_name : (here : List Delivery) (fare : Fare) → (fare_with_offer here fare).name ≡ fare.name
offer_name here fare = each_name here (record fare { offered = fare.offered + 1 })
