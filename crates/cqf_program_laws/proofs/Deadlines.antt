-- The deadline of a stream's row is that of its frames.
use Rattle.std.proofs.Common.{◌≡◌, ◌≢◌, ◌∙◌, ℕ, List, Option, Some, None, ap, sym, refl}
use Rattle.std.proofs.Common.{AllPairs}
use Rattle.std.specs.Prelude.{option_map, slice_get}
use Rattle.std.specs.Option.{option_and_then}
use Rattle.std.proofs.lemmas.Option.{get_or_from_slice_get, same_Some, slice_get-map}
use Rattle.cqf_lists.proofs.Members.{contains_at, find_member, find_some}
use Rattle.cqf_lists.proofs.Pairs.{one_of_pairs, pairs_from_map}
use Rattle.cqf_model.specs.Domain.{is_text}
use Rattle.cqf_model.specs.History.{Asked}
use Rattle.cqf_model.proofs.Texts.{is_text_itself, is_text_same}
use Rattle.cqf_topology.specs.PlannedText.{PlannedText}
use Rattle.cqf_admission.specs.Asking.{asked_by}
use Rattle.cqf_program_plans.specs.Latency.Input.{asked_in, deadlines_in}
use Rattle.cqf_program_plans.specs.Latency.Text.{deadline_of}
use Rattle.cqf_program_runs.specs.Deliveries.{deadline_named}

-- if no two streams have one name, the deadline of a name is that of the stream's index
pub deadline_is : (streams : List PlannedText) (index : ℕ) (asked : Asked) (name : List ℕ) → AllPairs (λ (a b : Asked). a.name ≢ b.name) (asked_in streams) →
    slice_get (asked_in streams) index ≡ Some asked → name ≡ asked.name → deadline_named streams name ≡ deadline_of (deadlines_in streams) index
deadline_is streams index asked name apart stands is = by_index (slice_get streams index) refl
  where
    by_index : (o : Option PlannedText) → slice_get streams index ≡ o → deadline_named streams name ≡ deadline_of (deadlines_in streams) index
    by_index None e = absurd (
        let none : ◌≡◌ {A = Option Asked} None (Some asked) =
        sym (slice_get-map (λ (p : PlannedText). asked_by p.0) streams index
        ∙ ap (λ (o : Option PlannedText). option_map (λ (p : PlannedText). asked_by p.0) o) e) ∙ stands in cc)
    by_index (Some planned) e =
        let own : asked_by planned.0 ≡ asked =
        same_Some (asked_by planned.0) asked (sym (slice_get-map (λ (p : PlannedText). asked_by p.0) streams index
        ∙ ap (λ (o : Option PlannedText). option_map (λ (p : PlannedText). asked_by p.0) o) e) ∙ stands) in
        let named : planned.0.name ≡ name = ap (λ (a : Asked). a.name) own ∙ sym is in
        let test = λ (p : PlannedText). is_text p.0.name name in
        let c = contains_at streams index planned e in
        let found = find_some test streams planned c (ap (λ (n : List ℕ). is_text n name) named ∙ is_text_itself name) in
        let member = find_member test streams found.0 found.1 in
        let same : found.0.0.name ≡ planned.0.name = is_text_same found.0.0.name name member.1 ∙ sym named in
        let one : found.0 ≡ planned =
        one_of_pairs (λ (a b : PlannedText). (asked_by a.0).name ≢ (asked_by b.0).name) streams found.0 planned
        (pairs_from_map (λ (a b : Asked). a.name ≢ b.name) (λ (p : PlannedText). asked_by p.0) streams apart) member.0 c (λ differ. differ same)
        (λ differ. differ (sym same)) in
        let end : deadline_of (deadlines_in streams) index ≡ planned.1 =
        get_or_from_slice_get (deadlines_in streams) index planned.1 None
        (slice_get-map (λ (p : PlannedText). p.1) streams index
        ∙ ap (λ (o : Option PlannedText). option_map (λ (p : PlannedText). p.1) o) e) in
        ap (λ (o : Option PlannedText). option_and_then (λ (p : PlannedText). p.1) o) found.1 ∙ ap (λ (p : PlannedText). p.1) one ∙ sym end
