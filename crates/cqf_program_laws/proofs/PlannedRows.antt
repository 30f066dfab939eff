-- Each stream of a plan whose streams are all admitted has its row there.
use Rattle.std.proofs.Common.{◌≡◌, ◌∙◌, ◌+◌, ℕ, zero, suc, ◌∷◌, [], ◌++◌, List, Some, None, refl, sym, ap, subst, arith}
use Rattle.std.proofs.Common.{Contains, length, length-append}
use Rattle.std.specs.Prelude.{slice_get}
use Rattle.std.proofs.lemmas.List.Elements.{Contains-append_left, Contains-append_right}
use Rattle.std.proofs.lemmas.Option.{same_Some}
use Rattle.cqf_lists.proofs.Members.{contains_at, contains_here, contains_none}
use Rattle.cqf_model.specs.declared.topology.Row.{Row}
use Rattle.cqf_model.specs.Domain.{Domain}
use Rattle.cqf_model.specs.History.{Admits, Asked, IsLegalHistory, Recorded, held_in, pace_of, refusal_of, reply_to, seals, tree_of}
use Rattle.cqf_laws_history.specs.StateLaws.{GrantedFindsRoom, GrantedIsHeld, HistoryGoesOn, IsState, SealsAreCounted, granted_row, with_entry}
use Rattle.cqf_laws_timing.specs.Streams.{AreGranted, with_all}
use Rattle.cqf_laws_timing.specs.Reported.{planned_rows}

-- the row of a stream among some, by its number; and rows with which the stream isn't refused
pub record HasItsRow (d : Domain) (rows : List Row) (number : ℕ) (asked : Asked) : Type 0 where
  pub row : Row
  pub among : Contains rows row
  pub is_number : row.no ≡ number
  pub name : row.name ≡ asked.name
  pub pace : row.pace ≡ pace_of asked
  pub tree : row.tree.items ≡ tree_of d asked.paths
  pub beside : List Row
  pub free : refusal_of d beside asked ≡ None

-- a history of admissions alone, with the rows that are held after it
record HoldsRows (d : Domain) (entries : List Recorded) (rows : List Row) (next : ℕ) : Type 0 where
  legal : IsLegalHistory d entries
  state : IsState d entries rows next
  no_seal : seals entries ≡ 0
  one_each : length rows ≡ length entries

module _ (held : GrantedIsHeld) (goes_on : HistoryGoesOn) (counted : SealsAreCounted) (room : GrantedFindsRoom) (d : Domain) where
  -- a stream that is granted there isn't refused with those rows
  is_free : (entries : List Recorded) (rows : List Row) (next : ℕ) (asked : Asked) → HoldsRows d entries rows next →
      refusal_of d (held_in d entries (seals entries)) asked ≡ None → refusal_of d rows asked ≡ None
  is_free entries rows next asked holds granted = ap (λ (xs : List Row). refusal_of d xs asked) (sym holds.state.held) ∙ granted

  -- one more
  one_more : (entries : List Recorded) (rows : List Row) (next : ℕ) (asked : Asked) → HoldsRows d entries rows next → refusal_of d rows asked ≡ None →
      HoldsRows d (with_entry entries 0 (Admits asked) (reply_to d entries (Admits asked))) (rows ++ granted_row d next (seals entries) asked ∷ []) (next + 1)
  one_more entries rows next asked holds free =
      let reply = reply_to d entries (Admits asked) in
      let entry : Recorded = record { seat = 0; act = Admits asked; reply = reply } in
      let new = granted_row d next (seals entries) asked in
      let few = room d rows asked free in
      let long = length-append entries (entry ∷ []) in
      let count = counted entries 0 (Admits asked) reply in
      record {
        legal = goes_on d entries 0 (Admits asked) holds.legal (omega (arith, holds.no_seal)) (omega (arith, few, holds.one_each));
        state = held d entries rows next 0 asked holds.legal holds.state free;
        no_seal = omega (arith, count, holds.no_seal);
        one_each = omega (arith, length-append rows (new ∷ []), long, holds.one_each);
      }

  -- rows that are held stay, as more streams are admitted before cycle 0
  stays : (streams : List Asked) (entries : List Recorded) (rows : List Row) (next : ℕ) → HoldsRows d entries rows next → AreGranted d entries streams →
      (row : Row) → Contains rows row → Contains (held_in d (with_all d entries streams) 0) row
  stays [] entries rows next holds granted row c =
      let there : held_in d entries 0 ≡ rows = ap (λ (k : ℕ). held_in d entries k) (sym holds.no_seal) ∙ holds.state.held in
      subst (λ (xs : List Row). Contains xs row) (sym there) c
  stays (asked ∷ more) entries rows next holds granted row c =
      let free = is_free entries rows next asked holds granted.0 in
      let new = granted_row d next (seals entries) asked in
      stays more (with_entry entries 0 (Admits asked) (reply_to d entries (Admits asked))) (rows ++ new ∷ []) (next + 1)
      (one_more entries rows next asked holds free) granted.1 row (Contains-append_left rows (new ∷ []) row c)

  -- so each stream's row does
  has_row : (streams : List Asked) (entries : List Recorded) (rows : List Row) (next : ℕ) → HoldsRows d entries rows next → AreGranted d entries streams →
      (index : ℕ) (asked : Asked) → slice_get streams index ≡ Some asked → HasItsRow d (held_in d (with_all d entries streams) 0) (next + index) asked
  has_row [] entries rows next holds granted index asked is = absurd (contains_none asked (contains_at [] index asked is))
  has_row (first ∷ more) entries rows next holds granted zero asked is =
      let free = is_free entries rows next first holds granted.0 in
      let new = granted_row d next (seals entries) first in
      let among = stays more (with_entry entries 0 (Admits first) (reply_to d entries (Admits first))) (rows ++ new ∷ []) (next + 1)
      (one_more entries rows next first holds free) granted.1 new (Contains-append_right rows (new ∷ []) new (contains_here new [])) in
      subst (HasItsRow d (held_in d (with_all d entries (first ∷ more)) 0) (next + 0)) (same_Some first asked is)
      (record { row = new; among = among; is_number = omega arith; name = refl; pace = refl; tree = refl; beside = rows; free = free })
  has_row (first ∷ more) entries rows next holds granted (suc index) asked is =
      let free = is_free entries rows next first holds granted.0 in
      let new = granted_row d next (seals entries) first in
      let rest = has_row more (with_entry entries 0 (Admits first) (reply_to d entries (Admits first))) (rows ++ new ∷ []) (next + 1)
      (one_more entries rows next first holds free) granted.1 index asked is in
      let same : next + 1 + index ≡ next + suc index = omega arith in
      subst (λ (number : ℕ). HasItsRow d (held_in d (with_all d entries (first ∷ more)) 0) number asked) same rest

-- of a plan
pub plan_has_row : GrantedIsHeld → HistoryGoesOn → SealsAreCounted → GrantedFindsRoom → (d : Domain) (streams : List Asked) → AreGranted d [] streams →
    (index : ℕ) (asked : Asked) → slice_get streams index ≡ Some asked → HasItsRow d (planned_rows d streams) index asked
plan_has_row held goes_on counted room d streams granted index asked is =
    let same : 0 + index ≡ index = omega arith in
    subst (λ (number : ℕ). HasItsRow d (planned_rows d streams) number asked) same
    (has_row held goes_on counted room d streams [] [] 0
    (record {
      legal = record { replies = λ at e there. absurd (contains_none e (contains_at [] at e there)); few_seals = omega arith; few_calls = omega arith };
      state = record { held = refl; number = refl };
      no_seal = refl;
      one_each = refl;
    }) granted index asked is)
