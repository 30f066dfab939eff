-- The next start of a port.
use Rattle.std.proofs.Common.{ℕ, ◌≡◌, ◌+◌, ◌-◌, ◌*◌, ◌/◌, ◌%◌, ◌≤◌, ◌<◌, List, Option, Some, None, get_or, min, max}
use Rattle.std.proofs.Common.{IsBitSet, inl, inr, sym, ap, subst, ◌∙◌, arith}
use Rattle.std.specs.Prelude.{MatchOption}
use Rattle.std.proofs.lemmas.Bool.{cases_lt}
use Rattle.std.proofs.Math.Nat.{mod-add-div'}
use Rattle.cqf_units.specs.declared.timing.Nanos.{Nanos}
use Rattle.cqf_model.specs.declared.ports.Arrival.{Arrival}
use Rattle.cqf_model.specs.GateList.{Entry, InForce, IsOpen, round_of, states_at}
use Rattle.cqf_model.specs.Port.{PortRules, Transmission, instant_of, class_of}
use Rattle.cqf_laws_network.specs.GateLaws.{StatesAreOfTheEntry, SomeEntryIsInForce}
use Rattle.cqf_port.specs.PortState.{AreTaken, WasOpen}
use Rattle.cqf_port.specs.Progress.{NoneReady, IsAbreast}
use Rattle.cqf_port.specs.NextStart.{StartsNext, StartsNoMore, HaveCome, NeverReady, IsNextReady}
use Rattle.cqf_port.specs.declared.progress.Progress.{Progress}
use Rattle.cqf_model.proofs.Starts.{legal_start}
use Rattle.cqf_port.proofs.Heads.{none_is_due, chosen_is_due}
use Rattle.cqf_port.proofs.Steps.{abreast_skip}

-- one more head has come by the later of two instants
pub come_more : (arrivals : List Arrival) (heads : List (Option ℕ)) (seen latest after : ℕ) → HaveCome arrivals heads seen latest →
    latest ≤ after → ((index : ℕ) → get_or heads seen None ≡ Some index → instant_of arrivals index ≤ after) → HaveCome arrivals heads (seen + 1) after
come_more arrivals heads seen latest after so_far later here class index below is_head = elim (cases_lt class seen) [
  | inl before ↦ omega (arith, so_far class index before is_head)
  | inr last ↦ (let same : seen ≡ class = omega arith in here index (subst (λ k. get_or heads k None ≡ Some index) (sym same) is_head))
]

-- rounds repeat
pub same_in_round : StatesAreOfTheEntry → SomeEntryIsInForce → (entries : List Entry) → 0 < round_of entries → (t rounds : ℕ) →
    states_at entries (t + rounds * round_of entries) ≡ states_at entries t
same_in_round states some_entry entries positive t rounds =
    let there = some_entry entries t positive in
    let here : InForce entries (t + rounds * round_of entries) there.0 there.1 = record {
      inside = there.2.inside;
      round = rounds + there.2.round;
      spans = omega (arith, there.2.spans);
      within = there.2.within;
    } in
    states entries (t + rounds * round_of entries) there.0 there.1 here ∙ sym (states entries t there.0 there.1 there.2)

-- what isn't ready in a whole round after all heads have come never is
pub never_ready : StatesAreOfTheEntry → SomeEntryIsInForce → (rules : PortRules) (arrivals : List Arrival) (heads : List (Option ℕ)) (from latest : ℕ)
    → 0 < round_of rules.entries → from ≤ latest → HaveCome arrivals heads 8 latest →
    ((s : ℕ) → from ≤ s → s < latest + round_of rules.entries → NoneReady rules arrivals heads s 0) → NeverReady rules arrivals heads from
never_ready states some_entry rules arrivals heads from latest positive in_order come none s following = elim (cases_lt s (latest + round_of rules.entries)) [
  | inl soon ↦ none s following soon
  | inr late ↦ λ class index lowest low ready.
      let round : ℕ = round_of rules.entries in
      let rounds : ℕ = (s - latest) / round in
      let before : ℕ = latest + (s - latest) % round in
      let whole = mod-add-div' (s - latest) round in
      let at : before + rounds * round ≡ s = omega (arith, whole) in
      let short : (s - latest) % round < round = omega (arith, positive) in
      none before (omega arith) (omega arith) class index lowest low (record {
        is_head = ready.is_head;
        come = omega (arith, come class index low ready.is_head);
        eligible = λ u after until. subst (λ x. IsBitSet x (class_of arrivals index)) (same_in_round states some_entry rules.entries positive u rounds)
            (ready.eligible (u + rounds * round) (omega (arith, at)) (omega (arith, at)));
      })
]

module _ (rules : PortRules) (arrivals : List Arrival) (reached from : ℕ) (starts : List Transmission) (progress : Progress)
    (taken : AreTaken arrivals) (abreast : IsAbreast rules arrivals reached starts progress) (first : from ≡ max reached progress.idle_from.0) where
  -- if no head is ready from an instant on, what the port knows holds for later ones
  abreast_until : (e : ℕ) → reached ≤ e → ((s : ℕ) → from ≤ s → s < e → NoneReady rules arrivals progress.heads s 0) →
      IsAbreast rules arrivals e starts progress
  abreast_until e later none = abreast_skip rules arrivals reached e starts progress abreast later (λ s after soon idle.
      let free = abreast.idle s after idle in
      none_is_due rules arrivals reached s starts progress taken abreast after (none s (omega arith) soon))

  -- the head that is ready first starts next
  pub starts_next : (result : Option Nanos) → MatchOption result (NeverReady rules arrivals progress.heads from)
      (λ t. IsNextReady rules arrivals progress.heads from t.0) →
      MatchOption result (StartsNoMore (record { rules = rules; reached = reached; arrivals = arrivals; starts = starts }))
      (λ t. StartsNext (record { rules = rules; reached = reached; arrivals = arrivals; starts = starts }) t.0)
  starts_next None never = λ end later. (abreast_until end later (λ s after soon. never s after)).legal
  starts_next (Some t) next =
      let here : IsAbreast rules arrivals t.0 starts progress = abreast_until t.0 (omega (arith, next.later)) next.none_before in
      record {
        from_now = omega (arith, next.later);
        index = next.index;
        legal = legal_start rules arrivals t.0 starts next.index here.legal (here.idle_again t.0 (omega arith) (omega (arith, next.later)))
            (chosen_is_due rules arrivals t.0 starts progress next.index taken here next.chosen);
      }

-- a class that was closed for a round is closed for longer
pub closed_for_good : StatesAreOfTheEntry → SomeEntryIsInForce → (entries : List Entry) (class first end last : ℕ) → 0 < round_of entries →
    end ≡ min last (first + round_of entries) → ((s : ℕ) → first ≤ s → s < end → ¬ IsOpen entries class s) → ¬ WasOpen entries class first last
closed_for_good states some_entry entries class first end last positive is closed was =
    let round : ℕ = round_of entries in
    let rounds : ℕ = (was.instant - first) / round in
    let within : ℕ = first + (was.instant - first) % round in
    let whole = mod-add-div' (was.instant - first) round in
    let from = was.from_first in
    let to = was.before_last in
    let short : (was.instant - first) % round < round = omega (arith, positive) in
    let at : within + rounds * round ≡ was.instant = omega (arith, whole, from) in
    let same : states_at entries was.instant ≡ states_at entries within = ap (states_at entries) (sym at)
    ∙ same_in_round states some_entry entries positive within rounds in
    closed within (omega arith) (omega arith) (subst (λ x. IsBitSet x class) same was.is_open)
