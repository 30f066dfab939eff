-- The time for which a class stays open, from an instant within an entry on.
use Rattle.std.proofs.Common.{ℕ, ◌≡◌, ◌+◌, ◌-◌, ◌^◌, ◌≤◌, ◌<◌, List, [], take, get_or, IsBitSet, inl, inr, sym, ap, subst, ◌∙◌, arith}
use Rattle.std.proofs.lemmas.Bool.{cases_lt}
use Rattle.cqf_model.specs.GateList.{Entry, InForce, IsOpen, IsOpenThrough, round_of, states_at}
use Rattle.cqf_laws_network.specs.GateLaws.{StatesAreOfTheEntry, RoundTakesTime, SomeEntryIsInForce}
use Rattle.cqf_port.specs.Spans.{IsSpan, AreSpansAt, AreSpans, AreLess}

-- the class was closed at each instant from `first` up to but excluding `last`
pub record WasClosed (entries : List Entry) (class first last : ℕ) : Type 0 where
  pub in_order : first ≤ last
  pub closed : (t : ℕ) → first ≤ t → t < last → ¬ IsOpen entries class t

-- a closed class stays open for no time
pub span_closed : (entries : List Entry) (class t bound : ℕ) → ¬ IsOpen entries class t → IsSpan entries class t bound 0
span_closed entries class t bound closed need some small = (λ through. absurd (closed (through t (omega arith) (omega arith))), λ fits. absurd (omega arith))

-- a class that never closes stays open for longer than any bound
pub span_always : (entries : List Entry) (class t bound span : ℕ) → bound ≤ span → ((s : ℕ) → IsOpen entries class s) → IsSpan entries class t bound span
span_always entries class t bound span large always need some small = (λ through. omega arith, λ fits s from to. always s)

-- a class that closes stays open until then
pub span_until : (entries : List Entry) (class t bound end : ℕ) → t < end → IsOpenThrough entries class t end → ¬ IsOpen entries class end →
    IsSpan entries class t bound (end - t)
span_until entries class t bound end later through closed need some small = (
  λ longer. elim (cases_lt end (t + need)) [
    | inl over ↦ absurd (closed (longer end (omega arith) over))
    | inr within ↦ omega arith
  ],
  λ fits s from to. through s from (omega arith),
)

module _ (states : StatesAreOfTheEntry) (round_takes : RoundTakesTime) (some_entry : SomeEntryIsInForce) (entries : List Entry)
    (t index offset : ℕ) (force : InForce entries t index offset) where
  -- the first instant of the entry in the first round
  abbrev begun : ℕ
  begun = round_of (take index entries)

  -- a round has a positive duration
  positive : 0 < round_of entries
  positive = round_takes entries index force.inside (omega (arith, force.within))

  -- rounds repeat
  same_later : (x : ℕ) → states_at entries (t + x) ≡ states_at entries (begun + offset + x)
  same_later x =
      let there = some_entry entries (begun + offset + x) positive in
      let here : InForce entries (t + x) there.0 there.1 = record {
        inside = there.2.inside;
        round = force.round + there.2.round;
        spans = omega (arith, force.spans, there.2.spans);
        within = there.2.within;
      } in
      states entries (t + x) there.0 there.1 here ∙ sym (states entries (begun + offset + x) there.0 there.1 there.2)

  -- within the entry its states are in force
  in_entry : (x : ℕ) → x < (get_or entries index (0, 0)).1 → states_at entries (begun + x) ≡ states_at entries t
  in_entry x within =
      let here : InForce entries (begun + x) index x = record { inside = force.inside; round = 0; spans = omega arith; within = within } in
      states entries (begun + x) index x here ∙ sym (states entries t index offset force)

  -- what stays open for a time from the beginning of the entry on stays open for less from within it
  pub span_within : (class span bound shorter : ℕ) → offset + shorter ≤ bound → IsSpan entries class begun bound span →
      IsSpan entries class t shorter (span - offset)
  span_within class span bound shorter room from_begun need some small =
      let both = from_begun (offset + need) (omega arith) (omega arith) in (
        λ through.
            let longer : IsOpenThrough entries class begun (begun + (offset + need)) = λ s from to. elim (cases_lt s (begun + offset)) [
              | inl early ↦
                  let at : begun + (s - begun) ≡ s = omega arith in
                  let same : states_at entries s ≡ states_at entries t = ap (states_at entries) (sym at) ∙ in_entry (s - begun) (omega (arith, force.within)) in
                  subst (λ x. IsBitSet x class) (sym same) (through t (omega arith) (omega arith))
              | inr late ↦
                  let at : begun + offset + (s - (begun + offset)) ≡ s = omega arith in
                  let same : states_at entries s ≡ states_at entries (t + (s - (begun + offset))) = ap (states_at entries) (sym at)
                  ∙ sym (same_later (s - (begun + offset))) in
                  subst (λ x. IsBitSet x class) (sym same) (through (t + (s - (begun + offset))) (omega arith) (omega arith))
            ] in
            omega (arith, both.0 longer),
        λ fits s from to.
            let at : t + (s - t) ≡ s = omega arith in
            let same : states_at entries s ≡ states_at entries (begun + offset + (s - t)) = ap (states_at entries) (sym at) ∙ same_later (s - t) in
            subst (λ x. IsBitSet x class) (sym same) (both.1 (omega arith) (begun + offset + (s - t)) (omega arith) (omega arith)),
      )

  -- the same of eight classes
  pub spans_within : (spans : List (List ℕ)) (left : List ℕ) → AreSpans entries spans → offset < 2 ^ 32 → AreLess (get_or spans index []) offset left
      → AreSpansAt entries t (2 ^ 62) left
  spans_within spans left known short less = record {
    eight = less.eight;
    each = λ class low. subst (λ span. IsSpan entries class t (2 ^ 62) span) (sym (less.each class low))
        (span_within class (get_or (get_or spans index []) class 0) (2 ^ 63) (2 ^ 62) (omega arith) ((known.rows index force.inside).each class low));
  }
