-- The figures after each call.
use Rattle.std.proofs.Common.{◌≡◌, ℕ, ◌+◌, ◌%◌, List, Some, None, Ok, Err, [], ◌∷◌, ◌++◌, get_or, set, length, ap, ◌∙◌}
use Rattle.cqf_units.specs.Timing.{cost_of}
use Rattle.cqf_model.specs.declared.history.Receipt.{Receipt}
use Rattle.cqf_model.specs.declared.history.Refused.{Refused}
use Rattle.cqf_model.specs.declared.topology.Row.{Row}
use Rattle.cqf_model.specs.Domain.{Domain, IsAccepted}
use Rattle.cqf_model.specs.History.{Admits, Withdraws, admit_reply, held_in, next_number, refusal_of, seals}
use Rattle.cqf_model.specs.Table.{residence, row_named}
use Rattle.cqf_laws_history.specs.StateLaws.{GrantedIsHeld, HeldAreSound, HistoryGoesOn, SealsAreCounted, WithdrawnIsHeldOn}
use Rattle.cqf_laws_history.specs.StreamLaws.{GrantedIsLast, WithdrawnEnds}
use Rattle.cqf_admission.specs.declared.state.GoodForm.{GoodForm}
use Rattle.cqf_admission.specs.Holdings.{Standing, held_by, with_row}
use Rattle.cqf_admission.specs.Rows.{ended}
use Rattle.cqf_admission.specs.State.{AdmitsForm, Figures, StaysSo, WithdrawsName}
use Rattle.cqf_admission.specs.Weighing.{FindsOpen, IsOpenAt, row_by, stand_refusal}
use Rattle.cqf_admission.proofs.Found.{not_open}
use Rattle.cqf_admission.proofs.RunLemmas.{refusal_is_entered, withdraw_entered}
use Rattle.cqf_admission.proofs.Running.{granted_leaves, refused_leaves}
use Rattle.cqf_admission.proofs.Weighed.{is_new, refusal_reported}
use Rattle.cqf_admission.proofs.Withdrawing.{withdrawn_leaves}

module _ (goes_on : HistoryGoesOn) (count : SealsAreCounted) (sound : HeldAreSound) (before after : Figures) where
  module _ (d : Domain) (form : GoodForm) where
    -- a request that is refused because of the figures
    pub admits_refused : (refused : Refused) →
        stand_refusal d before.stands form.name.now (cost_of d.overhead form.octets) form.pace form.tree.now ≡ Some refused → StaysSo before after →
        AdmitsForm d form before after (Err refused)
    admits_refused refused reason so entries asked seat r g few =
        let rows = held_in d entries (seals entries) in
        let reported : refusal_of d rows asked ≡ Some refused = refusal_reported d entries before r asked form g ∙ reason in
        refused_leaves d entries before r goes_on count seat (Admits asked) refused after (refusal_is_entered d rows asked refused reported) few
        (ap (admit_reply (next_number d entries) (seals entries)) reported) so

    -- a request that is granted
    pub admits_granted : IsAccepted d → GrantedIsHeld → GrantedIsLast → (row : Row) (receipt : Receipt) →
        stand_refusal d before.stands form.name.now (cost_of d.overhead form.octets) form.pace form.tree.now ≡ None →
        receipt ≡ record { no = length before.stands; effect = record { 0 = before.sealed } } →
        row ≡ row_by form (length before.stands) (record { 0 = before.sealed }) →
        after.stands ≡ before.stands ++ held_by row ∷ [] → after.links ≡ before.links → after.slots ≡ before.slots → after.sealed ≡ before.sealed →
        AdmitsForm d form before after (Ok receipt)
    admits_granted ok grants last row receipt free is_receipt is_row more links slots sealed entries asked seat r g few =
        let new = is_new d entries before r asked form g sound ok free in
        granted_leaves d entries before r goes_on count grants last seat asked receipt row after few new.none is_receipt (is_row ∙ new.is) more links slots
        sealed

  module _ (name : List ℕ) where
    -- a withdrawal that isn't possible
    pub withdraws_refused : (refused : Refused) → FindsOpen before.stands name (Err refused) → StaysSo before after →
        WithdrawsName name before after (Err refused)
    withdraws_refused refused finds so d entries seat r few =
        let due = not_open d entries before.stands before.slots before.sealed r.0 sound name refused finds in
        refused_leaves d entries before r goes_on count seat (Withdraws name) refused after
        (withdraw_entered (seals entries) (row_named (held_in d entries (seals entries)) name) refused due) few due so

    -- a withdrawal that is possible
    pub withdraws_open : WithdrawnIsHeldOn → WithdrawnEnds → (number slot : ℕ) (row over : Row) (receipt : Receipt) → IsOpenAt before.stands name number →
        ((s : Standing) → (get_or before.stands number s).row ≡ row) → slot ≡ (before.sealed + residence row) % 128 →
        over ≡ ended row (record { 0 = before.sealed }) →
        ((s : Standing) → after.stands ≡ set before.stands number (with_row (get_or before.stands number s) over)) → after.links ≡ before.links →
        after.slots ≡ set before.slots slot (get_or before.slots slot [] ++ number ∷ []) → after.sealed ≡ before.sealed →
        receipt ≡ record { no = number; effect = record { 0 = before.sealed } } → WithdrawsName name before after (Ok receipt)
    withdraws_open withdraws ends number slot row over receipt opened is_row is_slot is_over less links more sealed is_receipt d entries seat r few =
        withdrawn_leaves d entries before r goes_on count withdraws sound ends seat name number slot row over receipt after few opened is_row is_slot is_over less
        links more sealed is_receipt
