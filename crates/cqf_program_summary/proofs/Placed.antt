-- The path that a frame takes is found.
use Rattle.std.proofs.Common.{◌≡◌, ◌≢◌, ◌∙◌, ℕ, Bool, true, false, List, Some, None, Option, ap, arith, get_or, if◌then◌else◌, inl, inr, map, position, set, sym, refl}
use Rattle.std.specs.Prelude.{slice_get}
use Rattle.std.proofs.lemmas.Bool.{cases_Bool, cases_lt}
use Rattle.std.proofs.lemmas.List.Quantifiers.{position-Some}
use Rattle.std.proofs.lemmas.Option.{get_or_from_slice_get, same_Some, slice_get-get_or, slice_get_within}
use Rattle.cqf_topology.proofs.Accepted.{position-None}
use Rattle.cqf_program_runs.specs.declared.deliveries.delivery.Fate.{Fate}
use Rattle.cqf_program_runs.specs.declared.deliveries.delivery.Journey.{Journey}
use Rattle.cqf_program_summary.specs.declared.summary.fares.ListenerPath.{ListenerPath}
use Rattle.cqf_program_summary.specs.Summary.Counting.{AreApart, index_by, leads_there, leads_to, path_with, tally_with}
use Rattle.cqf_program_summary.proofs.Changed.{map_keeps, set_maps}

-- a path at the expected index leads there
there_leads : (name : List ℕ) (paths : List ListenerPath) (index : ℕ) → leads_there name (slice_get paths index) ≡ true →
    (path : ListenerPath) × (slice_get paths index ≡ Some path) × (leads_to name path.to ≡ true)
there_leads name paths index there = by (slice_get paths index) refl there
  where
    by : (o : Option ListenerPath) → slice_get paths index ≡ o → leads_there name o ≡ true → (path : ListenerPath) × (slice_get paths index ≡ Some path) × (leads_to name path.to ≡ true)
    by None e leads = absurd cc
    by (Some path) e leads = (path, e, leads)

module _ (paths : List ListenerPath) (expected : ℕ) (name : List ℕ) where
  -- the index that is found is that of a path that leads there
  pub found_leads : (index : ℕ) → index_by paths expected name ≡ Some index → (path : ListenerPath) × (slice_get paths index ≡ Some path) × (leads_to name path.to ≡ true)
  found_leads index found = elim (cases_Bool (leads_there name (slice_get paths expected))) [
    | inl there ↦ (let same : expected ≡ index = same_Some expected index
        (sym (ap (λ (b : Bool). if b then Some expected else position (λ (path : ListenerPath). leads_to name path.to) paths) there) ∙ found) in
        there_leads name paths index (ap (λ (k : ℕ). leads_there name (slice_get paths k)) (sym same) ∙ there))
    | inr elsewhere ↦ by_first (sym (ap (λ (b : Bool). if b then Some expected else position (λ (path : ListenerPath). leads_to name path.to) paths) elsewhere) ∙ found)
  ]
    where
      by_first : position (λ (path : ListenerPath). leads_to name path.to) paths ≡ Some index →
          (path : ListenerPath) × (slice_get paths index ≡ Some path) × (leads_to name path.to ≡ true)
      by_first e =
          let none : ListenerPath = record { to = None; tally = record { delivered = 0; late = 0; under_way = 0; taken = None } } in
          let at = position-Some (λ (path : ListenerPath). leads_to name path.to) paths index none e in
          (get_or paths index none, slice_get-get_or paths index none at.0, at.1)

  -- if none is found, none leads there
  pub none_leads : index_by paths expected name ≡ None → (path : ListenerPath) (k : ℕ) → slice_get paths k ≡ Some path → leads_to name path.to ≡ false
  none_leads none path k at = elim (cases_Bool (leads_there name (slice_get paths expected))) [
    | inl there ↦ absurd (some_is_none expected
        (sym (ap (λ (b : Bool). if b then Some expected else position (λ (w : ListenerPath). leads_to name w.to) paths) there) ∙ none))
    | inr elsewhere ↦ position-None (λ (w : ListenerPath). leads_to name w.to) paths
        (sym (ap (λ (b : Bool). if b then Some expected else position (λ (w : ListenerPath). leads_to name w.to) paths) elsewhere) ∙ none) k path at
  ]
    where
      some_is_none : (k : ℕ) → Some k ≡ None → ⊥
      some_is_none k e = absurd cc

-- if paths lead to different listeners, no other leads there
module _ (paths : List ListenerPath) (apart : AreApart paths) (name : List ℕ) (index : ℕ) (path : ListenerPath) (at : slice_get paths index ≡ Some path)
    (leads : leads_to name path.to ≡ true) where
  none_else : (other : ListenerPath) (k : ℕ) → slice_get paths k ≡ Some other → k ≢ index → leads_to name other.to ≡ true → ⊥
  none_else other k there differ also =
      let here : leads_to name (get_or paths index path).to ≡ true = ap (λ (w : ListenerPath). leads_to name w.to) (get_or_from_slice_get paths index path path at) ∙ leads in
      let so : leads_to name (get_or paths k path).to ≡ true = ap (λ (w : ListenerPath). leads_to name w.to) (get_or_from_slice_get paths k other path there) ∙ also in
      elim (cases_lt k index) [
        | inl less ↦ apart k index path less (slice_get_within paths index path at) name so here
        | inr more ↦ elim (cases_lt index k) [
          | inl less ↦ apart index k path less (slice_get_within paths k other there) name here so
          | inr least ↦ absurd (differ (omega (arith, more, least)))
        ]
      ]

  pub others_stay : (ending : Fate) (instant : ℕ) (journey : Journey) → journey.listener ≡ name → (other : ListenerPath) (k : ℕ) → slice_get paths k ≡ Some other →
      k ≢ index → path_with ending instant journey other ≡ other
  others_stay ending instant journey to other k there differ =
      ap (λ (b : Bool). if b then record other { tally = tally_with ending instant journey.whole other.tally } else other)
      (not_true (leads_to journey.listener other.to)
      (λ also. none_else other k there differ (ap (λ (n : List ℕ). leads_to n other.to) (sym to) ∙ also)))
    where
      not_true : (b : Bool) → (b ≡ true → ⊥) → b ≡ false
      not_true true never = absurd (never refl)
      not_true false never = refl

-- so counting the frame at the index that is found is counting it on each path that leads there
pub path_counted : (paths : List ListenerPath) (expected : ℕ) (ending : Fate) (instant : ℕ) (journey : Journey) (index : ℕ) (before after : ListenerPath) → AreApart paths →
    index_by paths expected journey.listener ≡ Some index → slice_get paths index ≡ Some before →
    after ≡ record before { tally = tally_with ending instant journey.whole before.tally } →
    set paths index after ≡ map (path_with ending instant journey) paths
path_counted paths expected ending instant journey index before after apart found at done =
    let found_at = found_leads paths expected journey.listener index found in
    let same : found_at.0 ≡ before = same_Some found_at.0 before (sym found_at.1 ∙ at) in
    let leads : leads_to journey.listener before.to ≡ true = ap (λ (w : ListenerPath). leads_to journey.listener w.to) (sym same) ∙ found_at.2 in
    set_maps (path_with ending instant journey) paths index before after at
    (done ∙ sym (ap (λ (b : Bool). if b then record before { tally = tally_with ending instant journey.whole before.tally } else before) leads))
    (others_stay paths apart journey.listener index before at leads ending instant journey refl)

pub none_counted : (paths : List ListenerPath) (expected : ℕ) (ending : Fate) (instant : ℕ) (journey : Journey) → index_by paths expected journey.listener ≡ None →
    paths ≡ map (path_with ending instant journey) paths
none_counted paths expected ending instant journey none =
    map_keeps (path_with ending instant journey) paths
    (λ path k at. ap (λ (b : Bool). if b then record path { tally = tally_with ending instant journey.whole path.tally } else path)
    (none_leads paths expected journey.listener none path k at))
