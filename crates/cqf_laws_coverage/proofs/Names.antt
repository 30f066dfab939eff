-- Rows of the same name follow one another in time.
use Rattle.std.proofs.Common.{◌≡◌, ◌≢◌, ℕ, ◌+◌, ◌<◌, ◌≤◌, ◌++◌, List, true, false, Option, Some, None, inl, inr, sym, ap, ◌∙◌, subst, arith, refl, AllPairs}
use Rattle.std.proofs.Common.{Contains, get_or, length, nat_le, nat_lt, le-leb, get_or-append-add, length-append}
use Rattle.std.specs.Prelude.{slice_get, suc}
use Rattle.std.specs.Option.{option_map_or}
use Rattle.std.proofs.lemmas.Bool.{and_from, cases_Bool, cases_lt, false≢true, lt-ltb}
use Rattle.std.proofs.lemmas.List.{take_all}
use Rattle.std.proofs.lemmas.List.Elements.{Contains-get_or}
use Rattle.std.proofs.lemmas.Option.{slice_get-get_or}
use Rattle.cqf_units.specs.declared.reservations.Cycle.{Cycle}
use Rattle.cqf_lists.specs.Lists.{each_below}
use Rattle.cqf_lists.proofs.EachBelow.{contains_from_below}
use Rattle.cqf_lists.proofs.Fronts.{each_front}
use Rattle.cqf_lists.proofs.Members.{contains_at}
use Rattle.cqf_lists.proofs.Pairs.{pairs_below, pairs_from_map, pairs_map, pairs_members, pairs_of_kept}
use Rattle.cqf_lists.proofs.Indices.{nil_from_none}
use Rattle.cqf_model.specs.declared.topology.Row.{Row}
use Rattle.cqf_model.specs.Domain.{Domain}
use Rattle.cqf_model.specs.History.{IsLegalHistory, Recorded, held_in, next_number, seals, streams_of}
use Rattle.cqf_model.specs.Table.{is_held, residence}
use Rattle.cqf_model.proofs.Residence.{residence_some}
use Rattle.cqf_laws_history.specs.StateLaws.{HeldAreSound}
use Rattle.cqf_laws_history.proofs.Indices.{admitted_at, admitted_before, sealed_before, sealed_more, with_end, withdrawn_at, withdrawn_before}
use Rattle.cqf_laws_history.proofs.Sound.{Sound, sound}
use Rattle.cqf_laws_coverage.specs.Rows.{EndsBefore, OneIsInForce, RowsOfANameFollow, RowsStandAsTheyBegin}
use Rattle.cqf_laws_coverage.proofs.Rows.{all_streams, effect_of_admitted, effect_of_withdrawn}

-- a row that has begun and isn't held has ended
ended : (row : Row) (cycle : ℕ) → row.admitted.0 ≤ cycle → is_held row cycle ≡ false →
    (end : Cycle) × (row.withdrawn ≡ Some end) × (end.0 + residence row ≤ cycle)
ended row cycle begun not_held = by_end row.withdrawn refl
  where
    -- by its end
    by_end : (o : Option Cycle) → row.withdrawn ≡ o → (end : Cycle) × (row.withdrawn ≡ Some end) × (end.0 + residence row ≤ cycle)
    by_end None e = absurd (false≢true (sym not_held
        ∙ and_from (nat_le row.admitted.0 cycle) (option_map_or (λ (w : Cycle). nat_lt cycle (w.0 + residence row)) row.withdrawn true)
        (le-leb row.admitted.0 cycle begun) (ap (λ (o : Option Cycle). option_map_or (λ (w : Cycle). nat_lt cycle (w.0 + residence row)) o true) e)))
    by_end (Some x) e = elim (cases_lt cycle (x.0 + residence row)) [
      | inr over ↦ (x, e, over)
      | inl within ↦ absurd (false≢true (sym not_held
          ∙ and_from (nat_le row.admitted.0 cycle) (option_map_or (λ (w : Cycle). nat_lt cycle (w.0 + residence row)) row.withdrawn true)
          (le-leb row.admitted.0 cycle begun)
          (ap (λ (o : Option Cycle). option_map_or (λ (w : Cycle). nat_lt cycle (w.0 + residence row)) o true) e
          ∙ lt-ltb cycle (x.0 + residence row) within)))
    ]

-- streams are admitted one after the other
admitted_ascend : (d : Domain) (entries : List Recorded) → AllPairs (λ (a b : Row). a.admitted.0 ≤ b.admitted.0) (admitted_before d entries (length entries))
admitted_ascend d entries =
    let begins : Row → Row → Type 0 = λ (a b : Row). a.admitted.0 ≤ b.admitted.0 in
    pairs_below begins (admitted_at d entries) (length entries)
    (λ k l. pairs_members begins (admitted_at d entries k) (λ a b ca cb.
    omega (arith, (effect_of_admitted d entries k l a ca).3, (effect_of_admitted d entries k l b cb).3)))
    (λ j k a b less l ca cb.
    omega (
      arith,
      (effect_of_admitted d entries j (omega (arith, less, l)) a ca).3,
      (effect_of_admitted d entries k l b cb).3,
      sealed_more entries j k (omega (arith, less)) (omega (arith, l)),
    ))

-- so the rows are in this order
pub rows_stand_as_they_begin : RowsStandAsTheyBegin
rows_stand_as_they_begin d entries =
    let begins : Row → Row → Type 0 = λ (a b : Row). a.admitted.0 ≤ b.admitted.0 in
    subst (AllPairs begins) (sym (all_streams d entries))
    (pairs_map begins (with_end (withdrawn_before entries (length entries))) (admitted_before d entries (length entries)) (admitted_ascend d entries))

module _ (one : OneIsInForce) (held_sound : HeldAreSound) (d : Domain) (entries : List Recorded) (legal : IsLegalHistory d entries) where
  -- the streams that are admitted, and their ends
  abbrev admitted : List Row
  admitted = admitted_before d entries (length entries)

  abbrev ends : ℕ → Option Cycle
  ends = withdrawn_before entries (length entries)

  -- what holds for them
  sound_at : (n : ℕ) → n ≤ length entries → Sound d entries n
  sound_at n within = sound d entries legal.replies n within

  -- a stream is withdrawn no earlier than it is admitted
  ends_later : (row : Row) → Contains admitted row → (x : Cycle) → ends row.no ≡ Some x → row.admitted.0 ≤ x.0
  ends_later row c x e = by_front (withdrawn_before entries at.0 row.no) refl
    where
      -- the index at which it is admitted
      at : (k : ℕ) × (k < length entries) × Contains (admitted_at d entries k) row
      at = contains_from_below (admitted_at d entries) (length entries) row c

      -- its number is at least the count of those before it
      number : length (admitted_before d entries at.0) ≤ row.no
      number =
          let before = admitted_before d entries at.0 in
          let here = admitted_at d entries at.0 in
          let j = at.2.0 in
          let inside : length before + j < length (before ++ here) = omega (arith, at.2.1, length-append before here) in
          let there : slice_get (before ++ here) (length before + j) ≡ Some row =
          slice_get-get_or (before ++ here) (length before + j) row inside
          ∙ ap (λ (r : Row). Some r) (get_or-append-add before here j row ∙ at.2.2) in
          omega (arith, (sound_at (suc at.0) (omega (arith, at.1))).numbers (length before + j) row there)

      by_front : (o : Option Cycle) → withdrawn_before entries at.0 row.no ≡ o → row.admitted.0 ≤ x.0
      by_front (Some y) f = absurd (omega (arith, number, (sound_at at.0 (omega (arith, at.1))).ends row.no y f))
      by_front None f =
          let front = each_below (withdrawn_at entries row.no) at.0 in
          let more = each_front (withdrawn_at entries row.no) at.0 (length entries) (omega (arith, at.1)) in
          let is : each_below (withdrawn_at entries row.no) (length entries) ≡ more.rest =
          more.is ∙ ap (λ (xs : List Cycle). xs ++ more.rest) (nil_from_none front f) in
          let late = more.late x (contains_at more.rest 0 x (ap (λ (xs : List Cycle). slice_get xs 0) (sym is) ∙ e)) in
          omega (
            arith,
            (effect_of_withdrawn entries late.0 row.no late.2 x late.3).3,
            (effect_of_admitted d entries at.0 at.1 row at.2).3,
            sealed_more entries at.0 late.0 late.1 (omega (arith, late.2)),
          )

  -- so it is held when it is admitted
  held_first : (row : Row) → Contains admitted row → is_held (with_end ends row) row.admitted.0 ≡ true
  held_first row c =
      and_from (nat_le row.admitted.0 row.admitted.0) (option_map_or (λ (w : Cycle). nat_lt row.admitted.0 (w.0 + residence row)) (ends row.no) true)
      (le-leb row.admitted.0 row.admitted.0 (omega arith)) (by_end (ends row.no) refl)
    where
      by_end : (o : Option Cycle) → ends row.no ≡ o → option_map_or (λ (w : Cycle). nat_lt row.admitted.0 (w.0 + residence row)) o true ≡ true
      by_end None e = refl
      by_end (Some x) e = lt-ltb row.admitted.0 (x.0 + residence row)
          (omega (arith, ends_later row c x e, residence_some d row ((sound_at (length entries) (omega arith)).trees row c)))

  -- no two rows of the same name are held in a cycle that is closed, or that the next Seal would close
  abbrev one_held : ℕ → Row → Row → Type 0
  one_held cycle a b = is_held a cycle ≡ true → is_held b cycle ≡ true → a.name ≢ b.name

  names_at : (cycle : ℕ) → cycle ≤ seals entries → AllPairs (one_held cycle) (streams_of d entries)
  names_at cycle upto = elim (cases_lt cycle (seals entries)) [
    | inl closed ↦ one d entries cycle legal closed
    | inr last ↦ (let same : seals entries ≡ cycle = omega (arith, upto, last) in
        let held = held_sound d entries (held_in d entries (seals entries)) (next_number d entries) legal (record { held = refl; number = refl }) in
        subst (λ (c : ℕ). AllPairs (one_held c) (streams_of d entries)) same
        (pairs_of_kept (λ (a b : Row). a.name ≢ b.name) (λ (row : Row). is_held row (seals entries)) (streams_of d entries) held.names))
  ]

  -- two rows of the same name follow one another
  abbrev follows : Row → Row → Type 0
  follows a b = a.name ≡ b.name → EndsBefore a b

  admitted_follow : AllPairs (λ (a b : Row). follows (with_end ends a) (with_end ends b)) admitted
  admitted_follow i j e l inside same =
      let a = get_or admitted i e in
      let b = get_or admitted j e in
      let in_b : Contains admitted b = Contains-get_or admitted j e inside in
      let cycle = b.admitted.0 in
      let all : sealed_before entries (length entries) ≡ seals entries = ap seals (take_all (length entries) entries (omega arith)) in
      let upto : cycle ≤ seals entries = omega (arith, all, (sound_at (length entries) (omega arith)).begun b in_b) in
      let apart = pairs_from_map (one_held cycle) (with_end ends) admitted
      (subst (AllPairs (one_held cycle)) (all_streams d entries) (names_at cycle upto)) i j e l inside in
      elim (cases_Bool (is_held (with_end ends a) cycle)) [
        | inl t ↦ absurd (apart t (held_first b in_b) same)
        | inr f ↦ (let w = ended (with_end ends a) cycle (admitted_ascend d entries i j e l inside) f in record { end = w.0; is = w.1; over = w.2 })
      ]

  pub follow : AllPairs (λ (a b : Row). a.name ≡ b.name → EndsBefore a b) (streams_of d entries)
  follow = subst (AllPairs follows) (sym (all_streams d entries)) (pairs_map follows (with_end ends) admitted admitted_follow)

-- the law
pub rows_of_a_name_follow : OneIsInForce → HeldAreSound → RowsOfANameFollow
rows_of_a_name_follow one held_sound d entries legal = follow one held_sound d entries legal
