-- If there is room for calls, the history that they make is legal.
use Rattle.std.proofs.Common.{◌≡◌, ◌+◌, ◌-◌, ◌≤◌, ◌∷◌, [], ℕ, zero, suc, Bool, true, false, List, Some, arith, length, length-append, refl}
use Rattle.std.specs.Prelude.{if◌then◌else◌, not, slice_get}
use Rattle.std.proofs.lemmas.List.Sums.{count_by-le-length, sum_by-cons}
use Rattle.cqf_lists.proofs.Members.{contains_at, contains_none}
use Rattle.cqf_model.specs.Domain.{Domain}
use Rattle.cqf_model.specs.History.{IsLegalHistory, Recorded, Seals, is_seal, reply_to, seals}
use Rattle.cqf_laws_history.specs.StateLaws.{HistoryGoesOn, SealsAreCounted, with_entry}
use Rattle.cqf_admission.specs.Admission.{calls}
use Rattle.cqf_admission.specs.Script.{Called, others_among, seals_among}
use Rattle.cqf_program_scenario.specs.Calls.{HasRoom, called_for, seals_by, with_calls}
use Rattle.cqf_program_laws.specs.ScriptLaws.{HistoriesAreLegal}

-- a call counts once, as a Seal or as another call
pub seals-cons : (call : Called) (more : List Called) → seals_among (call ∷ more) ≡ (if is_seal call.1 then 1 else 0) + seals_among more
seals-cons call more = sum_by-cons (λ (c : Called). if is_seal c.1 then 1 else 0) call more

pub others-cons : (call : Called) (more : List Called) → others_among (call ∷ more) ≡ (if not (is_seal call.1) then 1 else 0) + others_among more
others-cons call more = sum_by-cons (λ (c : Called). if not (is_seal c.1) then 1 else 0) call more

-- room for the first call, and for the rest after it, by numbers
record IsRoom (b : Bool) (sealed long cycles more_seals more_others : ℕ) : Type 0 where
  few_seals : sealed + (if b then 1 else 0) ≤ 100000
  few_calls : long + 1 - (sealed + (if b then 1 else 0)) ≤ 100000
  rest_seals : sealed + (if b then 1 else 0) + more_seals ≤ cycles
  rest_calls : long + 1 - (sealed + (if b then 1 else 0)) + more_others ≤ 100000

is_room : (b : Bool) (sealed long cycles more_seals more_others all_seals all_others : ℕ) → sealed ≤ long → cycles ≤ 100000 →
    sealed + all_seals ≤ cycles → long - sealed + all_others ≤ 100000 → all_seals ≡ (if b then 1 else 0) + more_seals →
    all_others ≡ (if not b then 1 else 0) + more_others → IsRoom b sealed long cycles more_seals more_others
is_room true sealed long cycles more_seals more_others all_seals all_others low short s o first second = record {
  few_seals = omega (arith, short, s, first);
  few_calls = omega (arith, low, o, second);
  rest_seals = omega (arith, s, first);
  rest_calls = omega (arith, low, o, second);
}
is_room false sealed long cycles more_seals more_others all_seals all_others low short s o first second = record {
  few_seals = omega (arith, short, s, first);
  few_calls = omega (arith, low, o, second);
  rest_seals = omega (arith, s, first);
  rest_calls = omega (arith, low, o, second);
}

-- the history with calls after it is legal, and has room for no more of them
record IsCalled (d : Domain) (cycles : ℕ) (entries : List Recorded) : Type 0 where
  legal : IsLegalHistory d entries
  few_seals : seals entries ≤ cycles
  few_calls : calls entries ≤ 100000

module _ (goes_on : HistoryGoesOn) (counted : SealsAreCounted) (d : Domain) (cycles : ℕ) (short : cycles ≤ 100000) where
  called : (entries : List Recorded) (more : List Called) → IsLegalHistory d entries → HasRoom cycles entries more →
      IsCalled d cycles (with_calls d entries more)
  called entries [] legal room = record {
    legal = legal;
    few_seals = omega (arith, room.for_seals);
    few_calls = omega (arith, room.for_others);
  }
  called entries (call ∷ more) legal room =
      let reply = reply_to d entries call.1 in
      let new = with_entry entries call.0 call.1 reply in
      let r = is_room (is_seal call.1) (seals entries) (length entries) cycles (seals_among more) (others_among more) (seals_among (call ∷ more))
      (others_among (call ∷ more)) (count_by-le-length (λ (e : Recorded). is_seal e.act) entries) short room.for_seals room.for_others
      (seals-cons call more) (others-cons call more) in
      let same = counted entries call.0 call.1 reply in
      let longer = length-append entries (record { seat = call.0; act = call.1; reply = reply } ∷ []) in
      called new more (goes_on d entries call.0 call.1 legal r.few_seals r.few_calls)
      (record {
        for_seals = omega (arith, r.rest_seals, same);
        for_others = rest (length entries) (seals entries) (if is_seal call.1 then 1 else 0)
            (others_among more) (length new) (seals new) r.rest_calls same longer;
      })
    where
      rest : (long sealed one others new_long new_sealed : ℕ) → long + 1 - (sealed + one) + others ≤ 100000 → new_sealed ≡ sealed + one →
          new_long ≡ long + 1 → new_long - new_sealed + others ≤ 100000
      rest long sealed one others new_long new_sealed few same longer = omega (arith, few, same, longer)

-- the number of Seals is one more
one_more : (some all number : ℕ) → some ≡ 1 + all → all ≡ number → some ≡ suc number
one_more some all number more is = omega (arith, more, is)

still_none : (some all : ℕ) → some ≡ 0 + all → all ≡ 0 → some ≡ 0
still_none some all more is = omega (arith, more, is)

sealed_all : (seat number : ℕ) → (seals_among (seals_by seat number) ≡ number) × (others_among (seals_by seat number) ≡ 0)
sealed_all seat zero = (refl, refl)
sealed_all seat (suc number) =
    let seal : Called = (seat, Seals) in
    let r = sealed_all seat number in (
      one_more (seals_among (seals_by seat (suc number))) (seals_among (seals_by seat number)) number (seals-cons seal (seals_by seat number)) r.0,
      still_none (others_among (seals_by seat (suc number))) (others_among (seals_by seat number)) (others-cons seal (seals_by seat number)) r.1,
    )

-- there is room for them after the calls
seals_have_room : (sealed cycles called more_seals more_others : ℕ) → sealed ≤ cycles → called ≤ 100000 → more_seals ≡ cycles - sealed → more_others ≡ 0 →
    (sealed + more_seals ≤ cycles) × (called + more_others ≤ 100000)
seals_have_room sealed cycles called more_seals more_others few some seals none = (omega (arith, few, seals), omega (arith, some, none))

pub histories_are_legal : HistoryGoesOn → SealsAreCounted → HistoriesAreLegal
histories_are_legal goes_on counted cycles s short room =
    let begun : IsLegalHistory s.domain [] =
    record { replies = λ index e is. absurd (nothing index e is); few_seals = omega arith; few_calls = omega arith } in
    let first = called goes_on counted s.domain cycles short [] s.calls begun room in
    let number = cycles - seals (called_for s) in
    let all = sealed_all s.sealer number in
    let following = seals_have_room (seals (called_for s)) cycles (calls (called_for s)) (seals_among (seals_by s.sealer number))
    (others_among (seals_by s.sealer number)) first.few_seals first.few_calls all.0 all.1 in
    (called goes_on counted s.domain cycles short (called_for s) (seals_by s.sealer number) first.legal
    (record { for_seals = following.0; for_others = following.1 })).legal
  where
    nothing : (index : ℕ) (e : Recorded) → slice_get [] index ≡ Some e → ⊥
    nothing index e is = contains_none e (contains_at [] index e is)
