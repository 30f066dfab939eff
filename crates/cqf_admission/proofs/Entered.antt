-- A history with one more call.
use Rattle.std.proofs.Common.{◌≡◌, ◌∙◌, ◌-◌, ◌<◌, ◌++◌, ◌∷◌, [], ℕ, Bool, List, Result, Err, Some, ap, arith, false, length, map, refl, subst, sym}
use Rattle.std.specs.Prelude.{nat_le}
use Rattle.std.proofs.lemmas.Bool.{leb-false}
use Rattle.std.proofs.lemmas.List.{length-map, map-append}
use Rattle.cqf_model.specs.declared.history.Receipt.{Receipt}
use Rattle.cqf_model.specs.declared.history.Refused.{Refused}
use Rattle.cqf_units.specs.Timing.{cost_of}
use Rattle.cqf_model.specs.Domain.{Domain}
use Rattle.cqf_model.specs.History.{Act, Admits, Asked, Recorded, admit_reply, held_in, next_number, seals}
use Rattle.cqf_model.specs.Limits.{most_calls}
use Rattle.cqf_laws_history.specs.StateLaws.{HistoryGoesOn, SealsAreCounted, with_entry}
use Rattle.cqf_admission.specs.declared.entries.Entry.{Entry}
use Rattle.cqf_admission.specs.Admission.{Administration, Answers, HoldsOneMore, act_of, calls, recorded_of}
use Rattle.cqf_admission.specs.Judging.{IsJudgedOf, IsOfGoodForm, form_refusal}
use Rattle.cqf_admission.specs.declared.judged.JudgedRequest.{JudgedRequest}
use Rattle.cqf_model.specs.declared.topology.Row.{Row}
use Rattle.cqf_admission.specs.declared.state.GoodForm.{GoodForm}
use Rattle.cqf_admission.specs.Forms.{IsRowOfGoodForm}
use Rattle.cqf_admission.specs.Holdings.{Standing}
use Rattle.cqf_admission.specs.State.{AreOf, Figures, IsGoodFormOf, IsStateOf, Leaves, StaysSo, entries_with, of_entries}
use Rattle.cqf_admission.proofs.GrantLemmas.{refusal_form}
use Rattle.cqf_admission.proofs.RunLemmas.{refusal_is_entered}
use Rattle.cqf_admission.proofs.Running.{refused_leaves}

-- a call with this act is the history's next entry
pub entered_after : (old reserved new : List Entry) (e : Entry) (act : Act) → reserved ≡ old → new ≡ reserved ++ e ∷ [] → act_of e.call ≡ act →
    map recorded_of new ≡ with_entry (map recorded_of old) e.seat act e.reply
entered_after old reserved new e act same is acts =
    ap (map recorded_of) (is ∙ ap (λ (es : List Entry). es ++ e ∷ []) same) ∙ map-append recorded_of old (e ∷ [])
    ∙ ap (λ (a : Act). with_entry (map recorded_of old) e.seat a e.reply) acts

-- the effect of a call, for the entries with it
pub record Entered (d : Domain) (entries after : List Recorded) (figures : Figures) (seat : ℕ) (act : Act) (result : Result Receipt Refused) : Type 0 where
  pub of : IsStateOf d after figures
  pub answers : Answers (of_entries d entries) (of_entries d after) seat act result

pub entered_with : (d : Domain) (entries after : List Recorded) (figures : Figures) (seat : ℕ) (act : Act) (result : Result Receipt Refused) →
    after ≡ entries_with entries seat act result → Leaves d entries figures seat act result → Entered d entries after figures seat act result
entered_with d entries after figures seat act result is leaves = record {
  of = subst (λ (es : List Recorded). IsStateOf d es figures) (sym is) leaves.of;
  answers = subst (λ (es : List Recorded). Answers (of_entries d entries) (of_entries d es) seat act result) (sym is) leaves.answers;
}

-- a history that isn't full has room for a call
pub few_calls : (full : Bool) (entries sealed : ℕ) → full ≡ false → full ≡ nat_le most_calls (entries - sealed) → entries - sealed < most_calls
few_calls full entries sealed isnt is = leb-false most_calls (entries - sealed) (sym is ∙ isnt)

-- so there is room for a call in the administration
pub room_left : (full : Bool) (many : ℕ) (items : List Entry) (d : Domain) (figures : Figures) (a : Administration) → full ≡ false →
    full ≡ nat_le most_calls (many - figures.sealed) → many ≡ length items → IsStateOf d (map recorded_of items) figures →
    of_entries d (map recorded_of items) ≡ a → calls a.entries < most_calls
room_left full many items d figures a isnt is long state view =
    let entries = map recorded_of items in
    let low : length entries - figures.sealed < most_calls =
    omega (arith, few_calls full many figures.sealed isnt is, long, length-map items recorded_of) in
    subst (λ (b : Administration). calls b.entries < most_calls) view
    (subst (λ (sealed : ℕ). length entries - sealed < most_calls) state.0.running.counted low)

-- a call that is refused for its form leaves the figures as they are
pub form_refused : HistoryGoesOn → SealsAreCounted → (d : Domain) (entries : List Recorded) (figures : Figures) (seat : ℕ) (asked : Asked) (refused : Refused) →
    IsStateOf d entries figures → form_refusal d asked ≡ Some refused → length entries - figures.sealed < most_calls →
    Leaves d entries figures seat (Admits asked) (Err refused)
    × HoldsOneMore (of_entries d entries) (of_entries d (entries_with entries seat (Admits asked) (Err refused))) asked (Err refused)
form_refused goes_on counted d entries figures seat asked refused is form few =
    let reason = refusal_form d (held_in d entries (seals entries)) asked refused form in
    refused_leaves d entries figures is goes_on counted seat (Admits asked) refused figures
    (refusal_is_entered d (held_in d entries (seals entries)) asked refused reason) few
    (ap (admit_reply (next_number d entries) (seals entries)) reason) (record { stands = refl; links = refl; slots = refl; sealed = refl })

-- the figures are still those of the history if nothing has changed but the room
pub stays_state : (d : Domain) (entries : List Recorded) (before after : Figures) → IsStateOf d entries before → StaysSo before after → IsStateOf d entries after
stays_state d entries before after is so = (
  subst (λ (sealed : ℕ). AreOf d entries after.stands after.slots sealed) (sym so.sealed)
      (subst (λ (slots : List (List ℕ)). AreOf d entries after.stands slots before.sealed) (sym so.slots)
      (subst (λ (stands : List Standing). AreOf d entries stands before.slots before.sealed) (sym so.stands) is.0)),
  so.links ∙ is.1,
)

-- a request's row of good form gives a request of good form
pub good_form : (d : Domain) (asked : Asked) (row : Row) (form : GoodForm) → IsRowOfGoodForm d asked row → form.name.now ≡ row.name →
    form.octets ≡ row.octets → form.overhead ≡ row.overhead → form.pace ≡ row.pace → form.tree.now ≡ row.tree.items → IsGoodFormOf d asked form
good_form d asked row form is name octets overhead paced tree = record {
  none = is.none;
  name = name ∙ ap (λ (r : Row). r.name) is.is;
  octets = octets ∙ ap (λ (r : Row). r.octets) is.is;
  tree = tree ∙ ap (λ (r : Row). r.tree.items) is.is;
  most_octets = is.most_octets;
  paced = paced ∙ ap (λ (r : Row). r.pace) is.is;
  overhead = overhead ∙ ap (λ (r : Row). r.overhead) is.is;
}

-- so does the judgement of its row
pub judged_by_row : (d : Domain) (asked : Asked) (row : Row) (judged : JudgedRequest) → IsRowOfGoodForm d asked row → IsJudgedOf row judged →
    IsOfGoodForm d asked judged
judged_by_row d asked row judged is by = record {
  none = is.none;
  named = by.named ∙ ap (λ (r : Row). r.name) is.is;
  costs = by.costs ∙ ap (λ (r : Row). cost_of r.overhead r.octets) is.is;
  linked = by.linked ∙ ap (λ (r : Row). r.tree.items) is.is;
  paced = by.paced ∙ ap (λ (r : Row). r.pace) is.is;
  overhead = by.overhead ∙ ap (λ (r : Row). r.overhead) is.is;
  most_octets = is.most_octets;
}

-- and so does a request that was judged
pub judged_form : (d : Domain) (asked : Asked) (judged : JudgedRequest) (form : GoodForm) → IsOfGoodForm d asked judged →
    form.name.now ≡ judged.name → form.octets ≡ asked.octets → form.overhead ≡ judged.overhead → form.pace ≡ judged.pace →
    form.tree.now ≡ judged.tree.items → IsGoodFormOf d asked form
judged_form d asked judged form is name octets overhead paced tree = record {
  none = is.none;
  name = name ∙ is.named;
  octets = octets;
  tree = tree ∙ is.linked;
  most_octets = is.most_octets;
  paced = paced ∙ is.paced;
  overhead = overhead ∙ is.overhead;
}
