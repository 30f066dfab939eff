-- The fields of a port that has taken arrivals and hasn't run.
use Rattle.std.proofs.Common.{ℕ, ◌≡◌, ◌≤◌, ◌<◌, ◌+◌, List, [], length, get_or, set, take, sym, ap, subst, ◌∙◌, arith, inl, inr}
use Rattle.std.proofs.lemmas.List.{get_or-take, length-take-le, take_more}
use Rattle.std.proofs.lemmas.Bool.{cases_lt}
use Rattle.cqf_units.specs.declared.timing.Nanos.{Nanos}
use Rattle.cqf_model.specs.declared.ports.Arrival.{Arrival}
use Rattle.cqf_model.specs.Port.{no_arrival, instant_of, class_of}
use Rattle.cqf_port.specs.PortState.{AreTaken}
use Rattle.cqf_port.specs.Progress.{IsNewest, AreNewest, IsAfterArrival, IsKeptByAll}
use Rattle.cqf_port.specs.declared.progress.Progress.{Progress}
use Rattle.cqf_port.proofs.Kept.{kept_offer_as}

module _ (arrivals : List Arrival) (taken : AreTaken arrivals) (index : ℕ) (inside : index < length arrivals) where
  -- the last arrival of its class came no later than the next arrival
  in_turn : (newest : List Nanos) → AreNewest (take index arrivals) newest → (get_or newest (class_of arrivals index) (record { 0 = 0 })).0
      ≤ instant_of arrivals index
  in_turn newest by_class =
      let t = (get_or newest (class_of arrivals index) (record { 0 = 0 })).0 in
      let there : IsNewest (take index arrivals) (class_of arrivals index) t = by_class.each (class_of arrivals index) (taken.classes index inside) in
      elim (cases_lt 0 t) [
        | inl some ↦ (let last = there.of_last some in
            let before : last.0 < index = omega (arith, last.1.inside, length-take-le index arrivals (omega (arith, inside))) in
            let same : get_or (take index arrivals) last.0 no_arrival ≡ get_or arrivals last.0 no_arrival =
            get_or-take index arrivals last.0 no_arrival before in
            let class : class_of arrivals last.0 ≡ class_of arrivals index = sym (ap (λ (x : Arrival). x.class) same) ∙ last.1.of_class in
            omega (arith, taken.by_class last.0 index before inside class, ap (λ (x : Arrival). x.at.0) same, last.2))
        | inr none ↦ omega (arith, none)
      ]

  -- so the next arrival is taken
  pub kept_next : (before after : Progress) (newest : List Nanos) (slot : ℕ) → IsKeptByAll (take index arrivals) before newest → slot
      ≡ class_of arrivals index →
      IsAfterArrival index (class_of arrivals index) before after → IsKeptByAll (take (index + 1) arrivals) after
      (set newest slot (get_or arrivals index no_arrival).at)
  kept_next before after newest slot kept same step rules some =
      let now = kept rules some in
      kept_offer_as rules (take index arrivals) (take (index + 1) arrivals) 0 [] before after newest (get_or arrivals index no_arrival) index slot now
      (taken.classes index inside) (taken.early index inside) (λ was. absurd (omega (arith, was.before_last))) (take_more arrivals index no_arrival inside)
      (sym (length-take-le index arrivals (omega (arith, inside)))) same
      (subst (λ (n : ℕ). (get_or newest n (record { 0 = 0 })).0 ≤ instant_of arrivals index) (sym same) (in_turn newest now.by_class)) step
