-- The row of a name that is in force, among all rows: the last one that has begun, if it is held.
use Rattle.std.proofs.Common.{◌≡◌, ℕ, suc, zero, ◌+◌, ◌<◌, ◌≤◌, ◌∷◌, [], List, Bool, true, false, Option, Some, None}
use Rattle.std.proofs.Common.{inl, inr, refl, sym, ap, ◌∙◌, subst, arith, length, find, AllPairs, get_or, nat_le}
use Rattle.std.proofs.Common.{nat_lt, ◌&&◌, cond}
use Rattle.std.specs.Prelude.{slice_get}
use Rattle.std.specs.Option.{option_map_or}
use Rattle.std.proofs.Common.{le-ltb}
use Rattle.std.proofs.lemmas.Bool.{cases_Bool, cases_eq, cases_lt}
use Rattle.std.proofs.lemmas.Option.{get_or_from_slice_get, same_Some, slice_get-get_or, slice_get_within}
use Rattle.cqf_units.specs.declared.reservations.Cycle.{Cycle}
use Rattle.cqf_model.specs.declared.topology.Row.{Row}
use Rattle.cqf_model.specs.Domain.{is_text}
use Rattle.cqf_model.specs.Table.{is_held, residence}
use Rattle.cqf_model.proofs.Texts.{is_text_same}
use Rattle.cqf_laws_coverage.specs.Rows.{EndsBefore}
use Rattle.cqf_instants_run.specs.Begun.{IsHeldLast, IsInForce, IsLastBegun, IsLastOf, LeadsToLast}
use Rattle.cqf_instants_run.proofs.LastRows.{one_there}

-- a number is not at most a smaller one
not_le : (a b : ℕ) → b < a → nat_le a b ≡ false
not_le a b h = grind (arith, h)

-- the first element that passes a test is at its index
find_at : {X : Type 0} (test : X → Bool) (xs : List X) (k : ℕ) (x : X) → slice_get xs k ≡ Some x → test x ≡ true →
    ((j : ℕ) (y : X) → j < k → slice_get xs j ≡ Some y → test y ≡ false) → find test xs ≡ Some x
find_at test [] k x at passes none = absurd (omega (arith, slice_get_within [] k x at))
find_at test (z ∷ zs) zero x at passes none = ap (λ b. cond b (Some z) (find test zs)) (ap test (same_Some z x at) ∙ passes) ∙ at
find_at test (z ∷ zs) (suc k) x at passes none =
    ap (λ b. cond b (Some z) (find test zs)) (none zero z (omega arith) refl)
    ∙ find_at test zs k x at passes (λ j y l is. none (suc j) y (omega (arith, l)) is)

-- if none passes, none is found
find_none : {X : Type 0} (test : X → Bool) (xs : List X) → ((j : ℕ) (y : X) → slice_get xs j ≡ Some y → test y ≡ false) → find test xs ≡ None
find_none test [] none = refl
find_none test (z ∷ zs) none =
    ap (λ b. cond b (Some z) (find test zs)) (none zero z refl) ∙ find_none test zs (λ j y is. none (suc j) y is)

-- what hasn't begun isn't held
late : (row : Row) (cycle : ℕ) → cycle < row.admitted.0 → is_held row cycle ≡ false
late row cycle h = ap (λ b. b && option_map_or (λ (w : Cycle). nat_lt cycle (w.0 + residence row)) row.withdrawn true) (not_le row.admitted.0 cycle h)

-- a row that has ended isn't held either
over : (row : Row) (cycle : ℕ) (end : Cycle) → row.withdrawn ≡ Some end → end.0 + residence row ≤ cycle → is_held row cycle ≡ false
over row cycle end is h =
    ap (λ o. nat_le row.admitted.0 cycle && option_map_or (λ (w : Cycle). nat_lt cycle (w.0 + residence row)) o true) is
    ∙ ap (λ b. nat_le row.admitted.0 cycle && b) (le-ltb cycle (end.0 + residence row) h)
    ∙ and_false (nat_le row.admitted.0 cycle)
  where
    and_false : (b : Bool) → (b && false) ≡ false
    and_false true = refl
    and_false false = refl

-- the row at an optional index
abbrev pub row_there : List Row → Option ℕ → Option Row
row_there rows None = None
row_there rows (Some index) = slice_get rows index

module _ (rows : List Row) (begun cycle : ℕ) (name : List ℕ)
    (follow : AllPairs (λ (a b : Row). a.name ≡ b.name → EndsBefore a b) rows)
    (rise : AllPairs (λ (a b : Row). a.admitted.0 ≤ b.admitted.0) rows)
    (begun_by : (index : ℕ) (row : Row) → index < begun → slice_get rows index ≡ Some row → row.admitted.0 ≤ cycle)
    (next : (row : Row) → slice_get rows begun ≡ Some row → cycle < row.admitted.0) (within : begun ≤ length rows) where
  -- the test of a row in force
  abbrev test : Row → Bool
  test row = is_text row.name name && is_held row cycle

  -- no row after those that have begun is held
  following : (j : ℕ) (y : Row) → begun ≤ j → slice_get rows j ≡ Some y → is_held y cycle ≡ false
  following j y from at = elim (cases_eq begun j) [
    | inl e ↦ late y cycle (next y (ap (slice_get rows) e ∙ at))
    | inr n ↦ (let inside = slice_get_within rows j y at in
        let first = get_or rows begun y in
        let there : slice_get rows begun ≡ Some first = slice_get-get_or rows begun y (omega (arith, from, inside)) in
        late y cycle (omega (
          arith,
          next first there,
          rise begun j y (omega (arith, n, from)) inside,
          ap (λ (r : Row). r.admitted.0)
              (get_or_from_slice_get rows j y y at),
        )))
  ]

  not_held : (y : Row) → is_held y cycle ≡ false → test y ≡ false
  not_held y f = ap (λ b. is_text y.name name && b) f ∙ and_false (is_text y.name name)
    where
      and_false : (b : Bool) → (b && false) ≡ false
      and_false true = refl
      and_false false = refl

  not_named : (y : Row) → is_text y.name name ≡ false → test y ≡ false
  not_named y f = ap (λ b. b && is_held y cycle) f

  -- a row of the name before its last one has ended
  before_last : (index : ℕ) (last : IsLastOf rows begun name index) (j : ℕ) (y : Row) → j < index → slice_get rows j ≡ Some y →
      is_text y.name name ≡ true → is_held y cycle ≡ false
  before_last index last j y l at named =
      let names : y.name ≡ last.row.name = is_text_same y.name name named ∙ sym (is_text_same last.row.name name last.named) in
      let here : get_or rows j y ≡ y = get_or_from_slice_get rows j y y at in
      let there : get_or rows index y ≡ last.row = get_or_from_slice_get rows index last.row y last.is in
      let ends : EndsBefore y last.row = subst (λ (b : Row). y.name ≡ b.name → EndsBefore y b) there
      (subst (λ (a : Row). a.name ≡ (get_or rows index y).name → EndsBefore a (get_or rows index y)) here
      (follow j index y l (slice_get_within rows index last.row last.is))) names in
      over y cycle ends.end ends.is (omega (arith, ends.over, begun_by index last.row last.below last.is))

  -- if the last one is known
  one : (index : ℕ) → IsHeldLast rows begun name cycle index → find test rows ≡ slice_get rows index
  one index held =
      find_at test rows index held.last.row held.last.is (both (is_text held.last.row.name name) (is_held held.last.row cycle) held.last.named held.held)
      (λ j y l at. elim (cases_Bool (is_text y.name name)) [
        | inl t ↦ not_held y (before_last index held.last j y l at t)
        | inr f ↦ not_named y f
      ]) ∙ sym held.last.is
    where
      both : (a b : Bool) → a ≡ true → b ≡ true → (a && b) ≡ true
      both true b p q = q
      both false b p q = absurd cc

  -- and if it isn't held, or there is none
  none : (o : Option ℕ) → IsLastBegun rows begun name o → IsInForce rows begun name cycle None → (j : ℕ) (y : Row) → slice_get rows j ≡ Some y → test y ≡ false
  none o leads in_force j y at = elim (cases_lt j begun) [
    | inr from ↦ not_held y (following j y from at)
    | inl below ↦ elim (cases_Bool (is_text y.name name)) [
      | inr f ↦ not_named y f
      | inl t ↦ not_held y (by o leads j y at below t in_force)
    ]
  ]
    where
      true_not_false : true ≡ false → ⊥
      true_not_false e = absurd cc

      by : (o : Option ℕ) → IsLastBegun rows begun name o → (j : ℕ) (y : Row) → slice_get rows j ≡ Some y → j < begun → is_text y.name name ≡ true →
          IsInForce rows begun name cycle None → is_held y cycle ≡ false
      by None have j y at below t in_force = absurd (true_not_false (sym t ∙ have j y below at))
      by (Some index) last j y at below t in_force = elim (cases_lt j index) [
        | inl l ↦ before_last index last j y l at t
        | inr more ↦ elim (cases_eq j index) [
          | inl e ↦ ap (λ (r : Row). is_held r cycle) (one_there rows index y last.row (ap (slice_get rows) (sym e) ∙ at) last.is) ∙ in_force index last
          | inr n ↦ absurd (true_not_false (sym t ∙ last.later j y (omega (arith, n, more)) below at))
        ]
      ]

  pub found : (index_of : List ℕ → Option ℕ) → LeadsToLast rows begun index_of → (o : Option ℕ) → IsInForce rows begun name cycle o →
      find (λ (row : Row). is_text row.name name && is_held row cycle) rows ≡ row_there rows o
  found index_of leads None in_force = find_none test rows (none (index_of name) (leads name) in_force)
  found index_of leads (Some index) held = one index held
