-- Each row of a plan is that of the stream at its number.
use Rattle.std.proofs.Common.{◌≡◌, ◌∙◌, ◌+◌, ℕ, ◌∷◌, [], ◌++◌, List, Some, None, inl, inr, refl, sym, ap, subst, arith}
use Rattle.std.proofs.Common.{Contains, append-nil, append_assoc, length, length-append}
use Rattle.std.specs.Prelude.{slice_get}
use Rattle.std.proofs.lemmas.List.Elements.{Contains-append_cases}
use Rattle.std.proofs.lemmas.Option.{slice_get_within}
use Rattle.cqf_lists.proofs.Members.{contains_at, contains_none, contains_one}
use Rattle.cqf_lists.proofs.Indices.{slice_get_after, slice_get_front}
use Rattle.cqf_model.specs.declared.topology.Row.{Row}
use Rattle.cqf_model.specs.Domain.{Domain}
use Rattle.cqf_model.specs.History.{Admits, Asked, IsLegalHistory, Recorded, held_in, refusal_of, reply_to, seals}
use Rattle.cqf_laws_history.specs.StateLaws.{GrantedFindsRoom, GrantedIsHeld, HistoryGoesOn, IsState, SealsAreCounted, granted_row, with_entry}
use Rattle.cqf_laws_timing.specs.Streams.{AreGranted, with_all}
use Rattle.cqf_laws_timing.specs.Reported.{IsPlanned, RowsArePlanned}

-- if streams are appended to a plan, its rows keep their streams
planned_front : (d : Domain) (before after : List Asked) (row : Row) → IsPlanned d before row → IsPlanned d (before ++ after) row
planned_front d before after row of = record {
  asked = of.asked;
  stands = slice_get_front before after row.no (slice_get_within before row.no of.asked of.stands) ∙ of.stands;
  name = of.name;
  octets = of.octets;
  pace = of.pace;
  tree = of.tree;
}

-- the row of the stream appended to them
planned_last : (d : Domain) (before : List Asked) (asked : Asked) (next effect : ℕ) → next ≡ length before →
    IsPlanned d (before ++ asked ∷ []) (granted_row d next effect asked)
planned_last d before asked next effect is = record {
  asked = asked;
  stands = slice_get_after before asked [] next is;
  name = refl;
  octets = refl;
  pace = refl;
  tree = refl;
}

module _ (held : GrantedIsHeld) (goes_on : HistoryGoesOn) (counted : SealsAreCounted) (room : GrantedFindsRoom) (d : Domain) where
  -- one more row
  one_more : (before : List Asked) (asked : Asked) (rows : List Row) (next effect : ℕ) → next ≡ length before →
      ((row : Row) → Contains rows row → IsPlanned d before row) → (row : Row) → Contains (rows ++ granted_row d next effect asked ∷ []) row →
      IsPlanned d (before ++ asked ∷ []) row
  one_more before asked rows next effect is each row c =
      elim (Contains-append_cases rows (granted_row d next effect asked ∷ []) row c) [
        | inl old ↦ planned_front d before (asked ∷ []) row (each row old)
        | inr new ↦ subst (IsPlanned d (before ++ asked ∷ [])) (contains_one (granted_row d next effect asked) row new)
            (planned_last d before asked next effect is)
      ]

  -- after a history without Seals
  planned_by : (before streams : List Asked) (entries : List Recorded) (rows : List Row) (next : ℕ) → IsLegalHistory d entries →
      IsState d entries rows next → seals entries ≡ 0 → length rows ≡ length entries → next ≡ length before →
      ((row : Row) → Contains rows row → IsPlanned d before row) → AreGranted d entries streams → (row : Row) →
      Contains (held_in d (with_all d entries streams) 0) row → IsPlanned d (before ++ streams) row
  planned_by before [] entries rows next legal state none each is all granted row c =
      let there : held_in d entries 0 ≡ rows = ap (λ (k : ℕ). held_in d entries k) (sym none) ∙ state.held in
      subst (λ (xs : List Asked). IsPlanned d xs row) (sym (append-nil before)) (all row (subst (λ (xs : List Row). Contains xs row) there c))
  planned_by before (asked ∷ more) entries rows next legal state none each is all granted row c =
      let reply = reply_to d entries (Admits asked) in
      let entry : Recorded = record { seat = 0; act = Admits asked; reply = reply } in
      let free : refusal_of d rows asked ≡ None = ap (λ (xs : List Row). refusal_of d xs asked) (sym state.held) ∙ granted.0 in
      let new = granted_row d next (seals entries) asked in
      let few = room d rows asked free in
      let long = length-append entries (entry ∷ []) in
      let count = counted entries 0 (Admits asked) reply in
      let rest = planned_by (before ++ asked ∷ []) more (with_entry entries 0 (Admits asked) reply) (rows ++ new ∷ []) (next + 1)
      (goes_on d entries 0 (Admits asked) legal (omega (arith, none)) (omega (arith, few, each)))
      (held d entries rows next 0 asked legal state free) (omega (arith, count, none)) (omega (arith, length-append rows (new ∷ []), long, each))
      (omega (arith, is, length-append before (asked ∷ []))) (one_more before asked rows next (seals entries) is all) granted.1 row c in
      subst (λ (xs : List Asked). IsPlanned d xs row) (append_assoc before (asked ∷ []) more) rest

-- after an empty history
pub rows_are_planned : GrantedIsHeld → HistoryGoesOn → SealsAreCounted → GrantedFindsRoom → RowsArePlanned
rows_are_planned held goes_on counted room d streams row granted c =
    planned_by held goes_on counted room d [] streams [] [] 0
    (record { replies = λ index e is. absurd (nothing index e is); few_seals = omega arith; few_calls = omega arith })
    (record { held = refl; number = refl }) refl refl refl (λ r k. absurd (contains_none r k)) granted row c
  where
    nothing : (index : ℕ) (e : Recorded) → slice_get [] index ≡ Some e → ⊥
    nothing index e is = contains_none e (contains_at [] index e is)
