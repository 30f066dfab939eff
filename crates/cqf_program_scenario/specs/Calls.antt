-- The history that calls make, one after the other, each with its due answer.
use Rattle.std.specs.Prelude.{ℕ, ◌≡◌, ◌+◌, ◌-◌, ◌≤◌, ◌<◌, true, false, List, [], fold, replicate}
use Rattle.cqf_model.specs.Domain.{Domain}
use Rattle.cqf_model.specs.History.{Act, Recorded, Seals, is_seal, reply_to, seals}
use Rattle.cqf_laws_history.specs.StateLaws.{with_entry}
use Rattle.cqf_admission.specs.Admission.{calls}
use Rattle.cqf_admission.specs.Script.{Called, others_among, seals_among}
use Rattle.cqf_program_scenario.specs.Scenario.{Scenario}
use Rattle.cqf_model.specs.Limits.{most_calls, most_cycles}

-- the entries with a call added after them, and with several calls added in turn
abbrev pub with_call : Domain → List Recorded → Called → List Recorded
with_call d entries call = with_entry entries call.0 call.1 (reply_to d entries call.1)

abbrev pub with_calls : Domain → List Recorded → List Called → List Recorded
with_calls d entries more = fold (λ (before : List Recorded) (call : Called). with_call d before call) entries more

-- this number of Seals by one seat
abbrev pub seals_by : ℕ → ℕ → List Called
seals_by seat number = replicate number (seat, Seals)

-- the history of a scenario's calls; and its history over this number of cycles, where the missing Seals follow the calls
abbrev pub called_for : Scenario → List Recorded
called_for s = with_calls s.domain [] s.calls

abbrev pub history_of : ℕ → Scenario → List Recorded
history_of cycles s = with_calls s.domain (called_for s) (seals_by s.sealer (cycles - seals (called_for s)))

-- after these entries there is room for a call: there are fewer than 100,000 Seals if the call is a Seal, or fewer than 100,000 other calls
-- if it isn't
pub record HasRoomFor (entries : List Recorded) (act : Act) : Type 0 where
  pub for_seal : is_seal act ≡ true → seals entries < most_cycles
  pub for_other : is_seal act ≡ false → calls entries < most_calls

-- after these entries there is room for several calls in turn: with them there are no more Seals than cycles, and no more than 100,000
-- other calls
pub record HasRoom (cycles : ℕ) (entries : List Recorded) (more : List Called) : Type 0 where
  pub for_seals : seals entries + seals_among more ≤ cycles
  pub for_others : calls entries + others_among more ≤ most_calls
