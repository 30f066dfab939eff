-- No call of a history is refused if and only if a check finds none; then the check's result is that of the frames.
use Rattle.std.proofs.Common.{◌≡◌, ◌∙◌, ◌+◌, ℕ, Bool, true, false, not, List, Option, Some, None, Result, Ok, ap, filter, refl, sym}
use Rattle.std.proofs.lemmas.Bool.{false≢true}
use Rattle.cqf_lists.specs.Results.{refuse}
use Rattle.cqf_lists.proofs.Members.{contains_at, contains_filter, contains_from_filter, index_of_member}
use Rattle.cqf_lists.proofs.Numbered.{enum_at, enum_there}
use Rattle.cqf_model.specs.declared.history.Refused.{Refused}
use Rattle.cqf_model.specs.declared.history.Reply.{Reply}
use Rattle.cqf_model.specs.declared.history.Reply.TheVariants.{Accepted, Sealed, Refused as RefusedFor}
use Rattle.cqf_model.specs.History.{Recorded, is_seal}
use Rattle.cqf_program_runs.specs.Check.Laws.{NoneIsRefused}
use Rattle.cqf_program_runs.specs.Check.RefusedCalls.{first_refused, is_refused, numbered_calls, refused_call_line}
use Rattle.cqf_program_runs.proofs.Fates.{none_found, none_passes}

-- a check that is well found no refused call
pub by_refused : (first : Option (ℕ × Recorded)) (frames : Result (List ℕ) (List ℕ)) (line : List ℕ) → refuse first refused_call_line frames ≡ Ok line →
    (first ≡ None) × (frames ≡ Ok line)
by_refused None frames line is = (refl, is)
by_refused (Some call) frames line is = absurd (cc)

-- an answer that refuses nothing
not_refused : (reply : Reply) → ((refused : Refused) → reply ≡ RefusedFor refused → ⊥) → is_refused reply ≡ false
not_refused (Accepted receipt) never = refl
not_refused (RefusedFor refused) never = absurd (never refused refl)
not_refused Sealed never = refl

is_false : (b : Bool) → b ≡ false → not b ≡ true
is_false b e = ap not e

is_true : (b : Bool) → not b ≡ true → b ≡ false
is_true true e = absurd (false≢true e)
is_true false e = refl

module _ (entries : List Recorded) where
  abbrev refused : ℕ × Recorded → Bool
  refused call = is_refused call.1.reply

  abbrev is_call : Recorded → Bool
  is_call e = not (is_seal e.act)

  -- if none is found, none is refused
  pub none_is_refused : first_refused entries ≡ None → NoneIsRefused entries
  none_is_refused none e fault among call is =
      let own = contains_filter is_call entries e among (is_false (is_seal e.act) call) in
      let index = index_of_member (filter is_call entries) e own in
      let listed = enum_there 1 index.0 (1 + index.0) (filter is_call entries) e refl index.1 in
      false≢true (sym (none_passes refused (numbered_calls entries) none (1 + index.0, e) listed) ∙ ap is_refused is)

  -- and conversely
  pub none_refused : NoneIsRefused entries → first_refused entries ≡ None
  none_refused none = none_found refused (numbered_calls entries) (λ call among.
      let at = enum_at 1 (filter is_call entries) call among in
      let own = contains_from_filter is_call entries call.1 (contains_at (filter is_call entries) at.0 call.1 at.2) in
      not_refused call.1.reply (λ fault is. none call.1 fault own.0 (is_true (is_seal call.1.act) own.1) is))
