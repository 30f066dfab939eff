-- The room that a history has for calls, after each call that is made.
use Rattle.std.proofs.Common.{◌≡◌, ◌+◌, ◌≤◌, ◌∷◌, [], ℕ, List, arith, length-append}
use Rattle.std.specs.Prelude.{if◌then◌else◌, not}
use Rattle.std.proofs.lemmas.List.Sums.{count_by-le-length, sum_by-cons}
use Rattle.cqf_model.specs.declared.history.Reply.{Reply}
use Rattle.cqf_model.specs.History.{Act, Admits, Recorded, Seals, Withdraws, is_seal}
use Rattle.cqf_laws_history.specs.StateLaws.{SealsAreCounted, with_entry}
use Rattle.cqf_admission.specs.Script.{AreFew, Called, others_among, seals_among}
use Rattle.cqf_program_scenario.specs.Calls.{HasRoom, HasRoomFor}

-- a call counts once, as a Seal or as another call
pub seals-cons : (call : Called) (more : List Called) → seals_among (call ∷ more) ≡ (if is_seal call.1 then 1 else 0) + seals_among more
seals-cons call more = sum_by-cons (λ (c : Called). if is_seal c.1 then 1 else 0) call more

-- one more call counts if it is no Seal
pub others-cons : (call : Called) (more : List Called) → others_among (call ∷ more) ≡ (if not (is_seal call.1) then 1 else 0) + others_among more
others-cons call more = sum_by-cons (λ (c : Called). if not (is_seal c.1) then 1 else 0) call more

-- if there is room for calls, there is room for the first one
pub HasRoom-first : (cycles : ℕ) (entries : List Recorded) (seat : ℕ) (act : Act) (more : List Called) → cycles ≤ 100000 →
    HasRoom cycles entries ((seat, act) ∷ more) → HasRoomFor entries act
HasRoom-first cycles entries seat (Admits asked) more short h = record {
  for_seal = λ is. cc;
  for_other = λ is. omega (arith, h.for_others, others-cons (seat, Admits asked) more);
}
HasRoom-first cycles entries seat (Withdraws name) more short h = record {
  for_seal = λ is. cc;
  for_other = λ is. omega (arith, h.for_others, others-cons (seat, Withdraws name) more);
}
HasRoom-first cycles entries seat Seals more short h = record {
  for_seal = λ is. omega (arith, short, h.for_seals, seals-cons (seat, Seals) more);
  for_other = λ is. cc;
}

-- and after it is made, for the rest
pub HasRoom-rest : SealsAreCounted → (cycles : ℕ) (entries : List Recorded) (seat : ℕ) (act : Act) (reply : Reply) (more : List Called) →
    HasRoom cycles entries ((seat, act) ∷ more) → HasRoom cycles (with_entry entries seat act reply) more
HasRoom-rest counted cycles entries seat (Admits asked) reply more h =
    let same = counted entries seat (Admits asked) reply in
    let longer = length-append entries (record { seat = seat; act = Admits asked; reply = reply } ∷ []) in
    let few = count_by-le-length (λ (e : Recorded). is_seal e.act) entries in
    record {
      for_seals = omega (arith, h.for_seals, seals-cons (seat, Admits asked) more, same);
      for_others = omega (arith, h.for_others, others-cons (seat, Admits asked) more, same, longer, few);
    }
HasRoom-rest counted cycles entries seat (Withdraws name) reply more h =
    let same = counted entries seat (Withdraws name) reply in
    let longer = length-append entries (record { seat = seat; act = Withdraws name; reply = reply } ∷ []) in
    let few = count_by-le-length (λ (e : Recorded). is_seal e.act) entries in
    record {
      for_seals = omega (arith, h.for_seals, seals-cons (seat, Withdraws name) more, same);
      for_others = omega (arith, h.for_others, others-cons (seat, Withdraws name) more, same, longer, few);
    }
HasRoom-rest counted cycles entries seat Seals reply more h =
    let same = counted entries seat Seals reply in
    let longer = length-append entries (record { seat = seat; act = Seals; reply = reply } ∷ []) in
    let few = count_by-le-length (λ (e : Recorded). is_seal e.act) entries in
    record {
      for_seals = omega (arith, h.for_seals, seals-cons (seat, Seals) more, same);
      for_others = omega (arith, h.for_others, others-cons (seat, Seals) more, same, longer, few);
    }

-- a history without entries has room for the calls of a script
pub HasRoom-few : (cycles : ℕ) (found : List Called) → AreFew cycles found → HasRoom cycles [] found
HasRoom-few cycles found few = record { for_seals = omega (arith, few.for_seals); for_others = omega (arith, few.for_others) }
