-- The tables that a seat closes if it alone seals.
use Rattle.std.proofs.Common.{◌≡◌, ℕ, zero, suc, ◌+◌, ◌-◌, ◌<◌, ◌≤◌, ◌++◌, [], ◌∷◌, List, Some, length, refl, sym, ap}
use Rattle.std.proofs.Common.{◌∙◌, arith, subst, inl, inr, eq-eqb, Contains}
use Rattle.std.proofs.lemmas.List.{append-nil, take_all}
use Rattle.std.specs.Prelude.{Option, Bool, ◌==◌, ◌&&◌, drop, take, if◌then◌else◌, slice_get}
use Rattle.std.specs.Option.{option_map_or}
use Rattle.std.proofs.lemmas.Bool.{and_right, cases_Bool}
use Rattle.std.proofs.lemmas.Option.{slice_get_cases}
use Rattle.cqf_lists.specs.Lists.{each_below}
use Rattle.cqf_lists.proofs.EachBelow.{below_plus, same_below}
use Rattle.cqf_lists.proofs.Members.{contains_at}
use Rattle.cqf_model.specs.Domain.{Domain}
use Rattle.cqf_model.specs.History.{Recorded, is_seal, seals}
use Rattle.cqf_laws_history.proofs.Indices.{sealed-suc}
use Rattle.cqf_admission.specs.Tables.{CycleTable}
use Rattle.cqf_desk.specs.Closing.{closed_by, is_seal_by, table_closed, tables_by}
use Rattle.cqf_laws_account.specs.Sealing.{SealsAlone, cycle_tables}

-- an element after a front, by its distance from the front
after_front : {X : Type 0} (xs : List X) (n i index : ℕ) (x : X) → index ≡ n + i → slice_get xs index ≡ Some x → slice_get (drop n xs) i ≡ Some x
after_front xs zero i index x e there = let same : index ≡ i = omega (arith, e) in subst (λ (k : ℕ). slice_get xs k ≡ Some x) same there
after_front [] (suc n) i index x e there = absurd cc
after_front (y ∷ xs) (suc n) i zero x e there = absurd (omega (arith, e))
after_front (y ∷ xs) (suc n) i (suc index) x e there = after_front xs n i index x (omega (arith, e)) there

-- whether an entry is a Seal, of any seat
abbrev pub is_any_seal : Recorded → Bool
is_any_seal e = is_seal e.act

-- the table that is closed at an index if the entry there passes a test
abbrev pub closed_where : (Recorded → Bool) → Domain → List Recorded → ℕ → List CycleTable
closed_where test d entries index =
    option_map_or (λ (e : Recorded). if test e then table_closed d entries index ∷ [] else []) (slice_get entries index) []

-- if the entry is known
closed_where_is : (test : Recorded → Bool) (d : Domain) (entries : List Recorded) (index : ℕ) (e : Recorded) → slice_get entries index ≡ Some e →
    closed_where test d entries index ≡ (if test e then table_closed d entries index ∷ [] else [])
closed_where_is test d entries index e there =
    ap (λ (o : Option Recorded). option_map_or (λ (r : Recorded). if test r then table_closed d entries index ∷ [] else []) o []) there

-- all Seals of a front close the tables of its cycles
all_closed : (d : Domain) (entries : List Recorded) (n : ℕ) → n ≤ length entries →
    each_below (closed_where is_any_seal d entries) n ≡ cycle_tables d entries (seals (take n entries))
all_closed d entries zero upto = refl
all_closed d entries (suc n) upto =
    elim (slice_get_cases entries n).1 [
      | inl w ↦
          let before = all_closed d entries n (omega (arith, upto)) in
          let sealed = seals (take n entries) in
          let counted = sealed-suc entries n w.0 w.2 in
          let here = closed_where_is is_any_seal d entries n w.0 w.2 in
          elim (cases_Bool (is_seal w.0.act)) [
            | inl seal ↦
                let one : seals (take (suc n) entries) ≡ suc sealed =
                counted ∙ ap (λ b. sealed + (if b then 1 else 0)) seal ∙ add_one sealed in
                ap (λ (xs : List CycleTable). xs ++ closed_where is_any_seal d entries n) before
                ∙ ap (λ (xs : List CycleTable). cycle_tables d entries sealed ++ xs)
                (here ∙ ap (λ b. if b then table_closed d entries n ∷ [] else []) seal)
                ∙ sym (ap (cycle_tables d entries) one)
            | inr other ↦
                let same : seals (take (suc n) entries) ≡ sealed =
                counted ∙ ap (λ b. sealed + (if b then 1 else 0)) other ∙ add_none sealed in
                ap (λ (xs : List CycleTable). xs ++ closed_where is_any_seal d entries n) before
                ∙ ap (λ (xs : List CycleTable). cycle_tables d entries sealed ++ xs)
                (here ∙ ap (λ b. if b then table_closed d entries n ∷ [] else []) other)
                ∙ append-nil (cycle_tables d entries sealed) ∙ sym (ap (cycle_tables d entries) same)
          ]
      | inr past ↦ absurd (omega (arith, past.0, upto))
    ]
  where
    -- adding one
    add_one : (k : ℕ) → k + 1 ≡ suc k
    add_one k = omega arith

    add_none : (k : ℕ) → k + 0 ≡ k
    add_none k = omega arith

-- if no other seat seals, any Seal is one of this seat
seal_of_seat : (entries : List Recorded) (first number : ℕ) (e : Recorded) → SealsAlone entries first number → Contains (drop first entries) e →
    is_seal_by number e ≡ is_any_seal e
seal_of_seat entries first number e alone there =
    elim (cases_Bool (is_seal e.act)) [
      | inl seal ↦ ap (λ b. b && is_seal e.act) (eq-eqb e.seat number (alone.its_own e there seal))
      | inr other ↦ and_right (e.seat == number) (is_seal e.act) other ∙ sym other
    ]

-- so at each index after the opening part it closes what any Seal would
same_there : (d : Domain) (entries : List Recorded) (first number i : ℕ) → SealsAlone entries first number → i < length entries - first →
    closed_by d entries number (first + i) ≡ closed_where is_any_seal d entries (first + i)
same_there d entries first number i alone below =
    elim (slice_get_cases entries (first + i)).1 [
      | inl w ↦
          let there : Contains (drop first entries) w.0 = contains_at (drop first entries) i w.0 (after_front entries first i (first + i) w.0 refl w.2) in
          closed_where_is (is_seal_by number) d entries (first + i) w.0 w.2
          ∙ ap (λ b. if b then table_closed d entries (first + i) ∷ [] else []) (seal_of_seat entries first number w.0 alone there)
          ∙ sym (closed_where_is is_any_seal d entries (first + i) w.0 w.2)
      | inr past ↦ absurd (omega (arith, past.0, below))
    ]

-- so the seat's tables are all
pub all_tables : (d : Domain) (entries : List Recorded) (first number : ℕ) → SealsAlone entries first number →
    tables_by d entries first number ≡ cycle_tables d entries (seals entries)
all_tables d entries first number alone =
    let n = length entries - first in
    let any = closed_where is_any_seal d entries in
    let all : first + n ≡ length entries = omega (arith, alone.begins) in
    let none_first : each_below any first ≡ [] =
    all_closed d entries first alone.begins ∙ ap (cycle_tables d entries) alone.none_before in
    let each : tables_by d entries first number ≡ each_below (λ i. any (first + i)) n =
    same_below (λ i. closed_by d entries number (first + i)) (λ i. any (first + i)) n (λ i below. same_there d entries first number i alone below) in
    each ∙ sym (below_plus any first n ∙ ap (λ (xs : List CycleTable). xs ++ each_below (λ i. any (first + i)) n) none_first)
    ∙ ap (each_below any) all
    ∙ all_closed d entries (length entries) (omega arith)
    ∙ ap (λ (es : List Recorded). cycle_tables d entries (seals es)) (take_all (length entries) entries (omega arith))
