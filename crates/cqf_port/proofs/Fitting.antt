-- The instants from which a class stays open for a time.
use Rattle.std.proofs.Common.{ℕ, ◌≡◌, ◌+◌, ◌-◌, ◌*◌, ◌/◌, ◌%◌, ◌^◌, ◌≤◌, ◌<◌, List, [], length, take, get_or, IsBitSet, inl, inr, sym, ap, subst, ◌∙◌, arith}
use Rattle.std.proofs.lemmas.Bool.{cases_lt}
use Rattle.std.proofs.lemmas.List.{take_all}
use Rattle.std.proofs.lemmas.List.Elements.{All-get_or}
use Rattle.std.proofs.lemmas.List.Sums.{sum_by_more}
use Rattle.std.proofs.Math.Nat.{mod-add-div'}
use Rattle.cqf_gates.specs.TxList.{IsTxList}
use Rattle.cqf_model.specs.GateList.{Entry, InForce, IsOpenThrough, round_of, states_at}
use Rattle.cqf_laws_network.specs.GateLaws.{StatesAreOfTheEntry, RoundTakesTime, SomeEntryIsInForce}
use Rattle.cqf_port.specs.Quiet.{FitsNowhere}
use Rattle.cqf_port.specs.Spans.{AreSpans, IsAhead}
use Rattle.cqf_port.proofs.Coming.{same_in_round}
use Rattle.cqf_port.proofs.Staying.{span_within}

-- after an entry the next one is in force, in the same round
pub force_next : (entries : List Entry) (t index offset : ℕ) → IsTxList entries → InForce entries t index offset → index + 1 < length entries
    → InForce entries (t + ((get_or entries index (0, 0)).1 - offset)) (index + 1) 0
force_next entries t index offset list force more =
    let sum = sum_by_more (λ (entry : Entry). entry.1) entries index (0, 0) force.inside in
    record {
      inside = more;
      round = force.round;
      spans = omega (arith, force.spans, force.within, sum);
      within = All-get_or (λ (entry : Entry). 0 < entry.1) entries (index + 1) (0, 0) more list.lasting;
    }

-- after the last entry the first is in force, in the next round
pub force_again : (entries : List Entry) (t index offset : ℕ) → IsTxList entries → InForce entries t index offset → index + 1 ≡ length entries
    → InForce entries (t + ((get_or entries index (0, 0)).1 - offset)) 0 0
force_again entries t index offset list force last =
    let sum = sum_by_more (λ (entry : Entry). entry.1) entries index (0, 0) force.inside in
    let whole : round_of (take (index + 1) entries) ≡ round_of entries =
    ap (λ (xs : List Entry). round_of xs) (take_all (index + 1) entries (omega (arith, last))) in
    let once : (force.round + 1) * round_of entries ≡ force.round * round_of entries + round_of entries = grind arith in
    record {
      inside = list.some;
      round = force.round + 1;
      spans = omega (arith, force.spans, force.within, sum, whole, once);
      within = All-get_or (λ (entry : Entry). 0 < entry.1) entries 0 (0, 0) list.some list.lasting;
    }

-- what fits nowhere up to an instant, and nowhere from there on, fits nowhere
pub nowhere_on : (entries : List Entry) (class need first middle last : ℕ) → FitsNowhere entries class need first middle →
    FitsNowhere entries class need middle last → FitsNowhere entries class need first last
nowhere_on entries class need first middle last before after s from to = elim (cases_lt s middle) [
  | inl early ↦ before s from early
  | inr late ↦ after s late to
]

-- what doesn't fit doesn't fit later as long as no gate changes
pub nowhere_steady : (entries : List Entry) (t begins class need : ℕ) → 0 < need → ((s : ℕ) → t ≤ s → s < begins → states_at entries s ≡ states_at entries t)
    → ¬ IsOpenThrough entries class t (t + need) → FitsNowhere entries class need t begins
nowhere_steady entries t begins class need some steady waits s from to through =
    waits (λ u after until. elim (cases_lt u s) [
      | inl early ↦ subst (λ x. IsBitSet x class) (steady s from to ∙ sym (steady u after (omega arith))) (through s (omega arith) (omega arith))
      | inr late ↦ through u late (omega arith)
    ])

-- what takes longer than a class stays open from the beginning of an entry on fits nowhere within the entry
pub nowhere_within : StatesAreOfTheEntry → RoundTakesTime → SomeEntryIsInForce → (entries : List Entry) (spans : List (List ℕ)) (t index class need : ℕ)
    → AreSpans entries spans → InForce entries t index 0 → class < 8 → 0 < need → need < 2 ^ 62 → (get_or entries index (0, 0)).1 < 2 ^ 32 →
    get_or (get_or spans index []) class 0 < need → FitsNowhere entries class need t (t + (get_or entries index (0, 0)).1)
nowhere_within states round_takes some_entry entries spans t index class need known force low some short brief over s from to through =
    let here : InForce entries s index (s - t) = record {
      inside = force.inside;
      round = force.round;
      spans = omega (arith, force.spans);
      within = omega arith;
    } in
    let span : ℕ = get_or (get_or spans index []) class 0 in
    let left = span_within states round_takes some_entry entries s index (s - t) here class span (2 ^ 63) (2 ^ 62) (omega arith)
    ((known.rows index force.inside).each class low) need some short in
    absurd (omega (arith, left.0 through, over))

-- what fits nowhere in a whole round never fits
pub nowhere_ever : StatesAreOfTheEntry → SomeEntryIsInForce → (entries : List Entry) (class need first last later : ℕ) → 0 < round_of entries
    → first + round_of entries ≤ last → FitsNowhere entries class need first last → FitsNowhere entries class need first later
nowhere_ever states some_entry entries class need first last later positive whole nowhere s from to through =
    let round : ℕ = round_of entries in
    let rounds : ℕ = (s - first) / round in
    let before : ℕ = first + (s - first) % round in
    let parts = mod-add-div' (s - first) round in
    let at : before + rounds * round ≡ s = omega (arith, parts) in
    let rest : (s - first) % round < round = omega (arith, positive) in
    nowhere before (omega arith) (omega (arith, rest, whole))
    (λ u after until. subst (λ x. IsBitSet x class) (same_in_round states some_entry entries positive u rounds)
    (through (u + rounds * round) (omega (arith, at)) (omega (arith, at))))

-- what doesn't fit now, nor from the next entry up to an instant, fits nowhere up to that instant
pub nowhere_after : (entries shown : List Entry) (t index begins again class need fit : ℕ) → entries ≡ shown → IsAhead shown t index begins again
    → 0 < need → ¬ IsOpenThrough shown class t (t + need) → FitsNowhere entries class need begins fit → FitsNowhere shown class need t fit
nowhere_after entries shown t index begins again class need fit same ahead some waits after =
    nowhere_on shown class need t begins fit (nowhere_steady shown t begins class need some ahead.steady waits)
    (subst (λ (xs : List Entry). FitsNowhere xs class need begins fit) same after)

-- what takes no longer than a class stays open from the beginning of an entry on fits there
pub fits_at : StatesAreOfTheEntry → RoundTakesTime → SomeEntryIsInForce → (entries : List Entry) (spans : List (List ℕ)) (t index class need : ℕ)
    → AreSpans entries spans → InForce entries t index 0 → class < 8 → 0 < need → need < 2 ^ 62 → need ≤ get_or (get_or spans index []) class 0
    → IsOpenThrough entries class t (t + need)
fits_at states round_takes some_entry entries spans t index class need known force low some short within =
    let span : ℕ = get_or (get_or spans index []) class 0 in
    let left = span_within states round_takes some_entry entries t index 0 force class span (2 ^ 63) (2 ^ 62) (omega arith)
    ((known.rows index force.inside).each class low) need some short in
    left.1 (omega (arith, within))
