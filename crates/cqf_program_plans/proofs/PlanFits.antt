-- A plan whose streams are all listed is admitted if it fits.
use Rattle.std.proofs.Common.{ℕ, ◌≡◌, ◌≤◌, ◌<◌, ◌+◌, ◌++◌, ◌∙◌, None}
use Rattle.std.proofs.Common.{Result, Ok, List, [], ◌∷◌, length, ap, arith, refl, subst, sym}
use Rattle.std.proofs.lemmas.List.{length_push}
use Rattle.std.proofs.lemmas.Option.{slice_get_within}
use Rattle.std.proofs.lemmas.List.Sums.{sum_by_push}
use Rattle.cqf_lists.specs.Results.{refuse}
use Rattle.cqf_model.specs.declared.topology.Row.{Row}
use Rattle.cqf_model.specs.Domain.{Domain, budget}
use Rattle.cqf_model.specs.History.{Asked, IsLegalHistory, Recorded, held_in, next_number, refusal_of, seals}
use Rattle.cqf_model.specs.Table.{cost_on, link_cost}
use Rattle.cqf_laws_history.specs.StateLaws.{AreHeld, GrantedFindsRoom, GrantedIsHeld, HeldAreSound, HistoryGoesOn, SealsAreCounted, granted_row}
use Rattle.cqf_program_plans.specs.Compile.Output.{AreAllHeld, admitted_from, stream_line, with_asked}
use Rattle.cqf_program_plans.proofs.CompileLemmas.{AreAllHeld-more, AreAllHeld-none, refuse_ok, same_ok}
use Rattle.cqf_program_plans.specs.Load.Laws.{AreAdmitted}
use Rattle.cqf_program_plans.specs.Load.Listing.{listed_row, listing_refusal}
use Rattle.cqf_program_plans.specs.Load.Output.{listed_from}
use Rattle.cqf_program_plans.proofs.Fits.{accepted_listed, accepted_where_room}

-- the streams of these entries are all held, with these rows
record HaveRows (d : Domain) (entries : List Recorded) (rows : List Row) : Type 0 where
  pub all : AreAllHeld d entries
  pub held : held_in d entries (seals entries) ≡ rows
  pub number : next_number d entries ≡ length rows

module _ (goes_on : HistoryGoesOn) (counted : SealsAreCounted) (grants : GrantedIsHeld) (finds : GrantedFindsRoom) (sound : HeldAreSound) (d : Domain) where
  -- with one more stream
  more_rows : (entries : List Recorded) (rows : List Row) (asked : Asked) → HaveRows d entries rows → refusal_of d rows asked ≡ None →
      HaveRows d (with_asked d entries asked) (rows ++ listed_row d rows asked ∷ [])
  more_rows entries rows asked now none =
      let due : refusal_of d (held_in d entries (seals entries)) asked ≡ None = ap (λ rs. refusal_of d rs asked) now.held ∙ none in
      let state = grants d entries rows (next_number d entries) 0 asked now.all.legal (record { held = now.held; number = refl }) none in
      let row : granted_row d (next_number d entries) (seals entries) asked ≡ listed_row d rows asked =
      ap (λ n. granted_row d n (seals entries) asked) now.number ∙ ap (λ n. granted_row d (length rows) n asked) now.all.no_seal in
      record {
        all = AreAllHeld-more d entries asked goes_on counted grants finds now.all due;
        held = state.held ∙ ap (λ (r : Row). rows ++ r ∷ []) row;
        number = state.number ∙ ap (λ n. n + 1) now.number ∙ sym (length_push rows (listed_row d rows asked));
      }

  -- streams that are admitted are listed
  listed : (streams : List Asked) (entries all : List Recorded) (rows : List Row) (index : ℕ) → HaveRows d entries rows →
      admitted_from d entries index streams ≡ Ok all → (end : List Row) × (listed_from d rows streams ≡ Ok end) × HaveRows d all end
  listed [] entries all rows index now h = (rows, refl, subst (λ es. HaveRows d es rows) (same_ok entries all h) now)
  listed (asked ∷ more) entries all rows index now h =
      let parts = refuse_ok (refusal_of d (held_in d entries (seals entries)) asked) (stream_line index)
      (admitted_from d (with_asked d entries asked) (index + 1) more) all h in
      let none : refusal_of d rows asked ≡ None = ap (λ rs. refusal_of d rs asked) (sym now.held) ∙ parts.0 in
      let rest = listed more (with_asked d entries asked) all (rows ++ listed_row d rows asked ∷ []) (index + 1)
      (more_rows entries rows asked now none) parts.1 in (
        rest.0,
        ap (λ r. refuse r (stream_line (length rows + 1)) (listed_from d (rows ++ listed_row d rows asked ∷ []) more))
            (accepted_listed d rows asked none) ∙ rest.1,
        rest.2,
      )

  -- listing more streams never lowers a cost
  grows : (streams : List Asked) (rows end : List Row) (l active_cycle : ℕ) → listed_from d rows streams ≡ Ok end → link_cost rows l active_cycle ≤ link_cost end l active_cycle
  grows [] rows end l active_cycle h = omega (arith, ap (λ rs. link_cost rs l active_cycle) (same_ok rows end h))
  grows (asked ∷ more) rows end l active_cycle h =
      let parts = refuse_ok (listing_refusal d rows asked) (stream_line (length rows + 1)) (listed_from d (rows ++ listed_row d rows asked ∷ []) more) end h in
      omega (
        arith,
        grows more (rows ++ listed_row d rows asked ∷ []) end l active_cycle parts.1,
        sum_by_push (λ (r : Row). cost_on r l active_cycle) rows (listed_row d rows asked),
      )

  -- and streams that are listed and fit are admitted
  admitted : (streams : List Asked) (entries : List Recorded) (rows end : List Row) (index : ℕ) → HaveRows d entries rows →
      listed_from d rows streams ≡ Ok end → ((l active_cycle : ℕ) → l < length d.links → link_cost end l active_cycle ≤ budget d l) →
      (all : List Recorded) × (admitted_from d entries index streams ≡ Ok all) × HaveRows d all end
  admitted [] entries rows end index now h fits = (entries, refl, subst (HaveRows d entries) (same_ok rows end h) now)
  admitted (asked ∷ more) entries rows end index now h fits =
      let parts = refuse_ok (listing_refusal d rows asked) (stream_line (length rows + 1)) (listed_from d (rows ++ listed_row d rows asked ∷ []) more) end h in
      let none : refusal_of d rows asked ≡ None = accepted_where_room d rows asked parts.0
      (λ l active_cycle inside. omega (
        arith,
        grows more (rows ++ listed_row d rows asked ∷ []) end l active_cycle parts.1,
        fits l active_cycle inside,
        sum_by_push (λ (r : Row). cost_on r l active_cycle) rows (listed_row d rows asked),
      )) in
      let due : refusal_of d (held_in d entries (seals entries)) asked ≡ None = ap (λ rs. refusal_of d rs asked) now.held ∙ none in
      let rest = admitted more (with_asked d entries asked) (rows ++ listed_row d rows asked ∷ []) end (index + 1)
      (more_rows entries rows asked now none) parts.1 fits in
      (rest.0, ap (λ r. refuse r (stream_line index) (admitted_from d (with_asked d entries asked) (index + 1) more)) due ∙ rest.1, rest.2)

  -- no streams
  none_legal : IsLegalHistory d []
  none_legal = record { replies = λ index e at. absurd (omega (arith, slice_get_within [] index e at)); few_seals = omega arith; few_calls = omega arith }

  no_rows : HaveRows d [] []
  no_rows = record { all = AreAllHeld-none d none_legal; held = refl; number = refl }

  -- the rows are those that are held in cycle 0
  in_cycle_0 : (entries : List Recorded) (rows : List Row) → HaveRows d entries rows → held_in d entries 0 ≡ rows
  in_cycle_0 entries rows now = ap (held_in d entries) (sym now.all.no_seal) ∙ now.held

  pub admitted_is_listed : (streams : List Asked) (entries : List Recorded) → admitted_from d [] 1 streams ≡ Ok entries →
      listed_from d [] streams ≡ Ok (held_in d entries 0)
  admitted_is_listed streams entries h =
      let found = listed streams [] entries [] 1 no_rows h in
      found.1 ∙ ap {B = Result (List Row) (List ℕ)} (λ (rows : List Row). Ok rows) (sym (in_cycle_0 entries found.0 found.2))

  pub admitted_within : (streams : List Asked) (rows : List Row) → listed_from d [] streams ≡ Ok rows → AreAdmitted d streams rows → (l active_cycle : ℕ) →
      link_cost rows l active_cycle ≤ budget d l
  admitted_within streams rows h found l active_cycle =
      let now = listed streams [] found.0 [] 1 no_rows found.1 in
      let same : now.0 ≡ rows = same_ok now.0 rows (sym now.1 ∙ h) in
      let held : AreHeld d now.0 (next_number d found.0) (seals found.0) =
      sound d found.0 now.0 (next_number d found.0) now.2.all.legal (record { held = now.2.held; number = refl }) in
      subst (λ rs. link_cost rs l active_cycle ≤ budget d l) same (held.loads l active_cycle)

  pub within_admitted : (streams : List Asked) (rows : List Row) → listed_from d [] streams ≡ Ok rows →
      ((l active_cycle : ℕ) → l < length d.links → link_cost rows l active_cycle ≤ budget d l) → AreAdmitted d streams rows
  within_admitted streams rows h fits =
      let found = admitted streams [] [] rows 1 no_rows h fits in
      (found.0, found.1, in_cycle_0 found.0 rows found.2)
