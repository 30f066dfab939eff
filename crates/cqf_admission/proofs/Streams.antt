-- The figures are those of the streams.
use Rattle.std.proofs.Common.{◌≡◌, ℕ, ◌+◌, ◌<◌, ◌≤◌, Bool, true, false, cond, not, List, [], ◌∷◌, map, filter, get_or}
use Rattle.std.proofs.Common.{length, refl, sym, ap, ◌∙◌, arith, inl, inr, zero, suc}
use Rattle.std.specs.Prelude.{if◌then◌else◌, slice_index_or, Contains, ◌&&◌, ◌==◌}
use Rattle.std.specs.List.{list_any}
use Rattle.std.proofs.lemmas.Bool.{both_ways, cases_Bool}
use Rattle.std.proofs.lemmas.List.{get_or-map, length-map}
use Rattle.std.proofs.lemmas.List.Elements.{Contains-get_or}
use Rattle.std.proofs.lemmas.List.Sums.{sum_by-cons}
use Rattle.cqf_model.specs.declared.topology.Row.{Row}
use Rattle.cqf_model.specs.Table.{cost_on, is_held, link_cost}
use Rattle.cqf_laws_history.proofs.Sound.{held_less}
use Rattle.cqf_laws_history.specs.LedgerLaws.{ends_in}
use Rattle.cqf_laws_history.proofs.Ends.{next_by_end}
use Rattle.cqf_admission.specs.Holdings.{Standing, AreLetGo, held_cost, held_count, held_one, held_part, let_go_if, released}
use Rattle.cqf_admission.specs.Streams.{stand_of}

-- the number and the cost of the held streams are those of the held rows
abbrev pub HeldCostsAreTheirs : Type 0
HeldCostsAreTheirs =
    (rows : List Row) (now l cycle : ℕ) →
    held_cost (map (stand_of now) rows) l cycle ≡ link_cost (filter (λ (row : Row). is_held row now) rows) l cycle

abbrev pub HeldCountIsLength : Type 0
HeldCountIsLength =
    (rows : List Row) (cycle : ℕ) →
    held_count (map (stand_of cycle) rows) ≡ length (filter (λ (row : Row). is_held row cycle) rows)

-- the list has exactly the numbers of the streams that are held in a cycle and end in the next one
abbrev pub ListsEnds : List Row → ℕ → List ℕ → Type 0
ListsEnds rows cycle slot =
    (number : ℕ) (d : Row) → number < length rows →
    list_any (λ other. other == number) slot ≡ (is_held (slice_index_or rows number d) cycle && ends_in (cycle + 1) (slice_index_or rows number d))

-- so releasing these continues with the next cycle
abbrev pub LetGoIsNextCycle : Type 0
LetGoIsNextCycle =
    (rows : List Row) (cycle : ℕ) (slot : List ℕ) (after : List Standing) →
    ((row : Row) → Contains rows row → row.admitted.0 ≤ cycle) → ListsEnds rows cycle slot → AreLetGo slot (map (stand_of cycle) rows) after →
    after ≡ map (stand_of (cycle + 1)) rows

pub held_costs : HeldCostsAreTheirs
held_costs [] now l cycle = refl
held_costs (row ∷ rows) now l cycle =
    by_flag (is_held row now) refl (held_costs rows now l cycle)
  where
    by_flag : (b : Bool) → is_held row now ≡ b → held_cost (map (stand_of now) rows) l cycle ≡ link_cost (filter (λ (r : Row). is_held r now) rows) l cycle →
        held_cost (map (stand_of now) (row ∷ rows)) l cycle
        ≡ link_cost (cond (is_held row now) (row ∷ filter (λ (r : Row). is_held r now) rows) (filter (λ (r : Row). is_held r now) rows)) l cycle
    by_flag true e rest =
        sum_by-cons (held_part l cycle) (stand_of now row) (map (stand_of now) rows)
        ∙ ap (λ (b : Bool). (if b then cost_on row l cycle else 0) + held_cost (map (stand_of now) rows) l cycle) e
        ∙ ap (λ (n : ℕ). cost_on row l cycle + n) rest
        ∙ sym (sum_by-cons (λ (r : Row). cost_on r l cycle) row (filter (λ (r : Row). is_held r now) rows))
        ∙ sym (ap (λ (b : Bool). link_cost (cond b (row ∷ filter (λ (r : Row). is_held r now) rows) (filter (λ (r : Row). is_held r now) rows)) l cycle) e)
    by_flag false e rest =
        sum_by-cons (held_part l cycle) (stand_of now row) (map (stand_of now) rows)
        ∙ ap (λ (b : Bool). (if b then cost_on row l cycle else 0) + held_cost (map (stand_of now) rows) l cycle) e
        ∙ (let none : 0 + held_cost (map (stand_of now) rows) l cycle ≡ held_cost (map (stand_of now) rows) l cycle = omega arith in none)
        ∙ rest
        ∙ sym (ap (λ (b : Bool). link_cost (cond b (row ∷ filter (λ (r : Row). is_held r now) rows) (filter (λ (r : Row). is_held r now) rows)) l cycle) e)

pub held_count_is_length : HeldCountIsLength
held_count_is_length [] cycle = refl
held_count_is_length (row ∷ rows) cycle =
    sum_by-cons held_one (stand_of cycle row) (map (stand_of cycle) rows)
    ∙ ap (λ (n : ℕ). (if is_held row cycle then 1 else 0) + n) (held_count_is_length rows cycle)
    ∙ by_flag (is_held row cycle)
  where
    by_flag : (b : Bool) → (if b then 1 else 0) + length (filter (λ (r : Row). is_held r cycle) rows)
        ≡ length (cond b (row ∷ filter (λ (r : Row). is_held r cycle) rows) (filter (λ (r : Row). is_held r cycle) rows))
    by_flag true = omega arith
    by_flag false = omega arith

-- lists that agree at each index are equal
same_at_each : {X : Type 0} (xs ys : List X) → length xs ≡ length ys → ((k : ℕ) (d : X) → k < length ys → get_or xs k d ≡ get_or ys k d) → xs ≡ ys
same_at_each [] [] long each = refl
same_at_each [] (y ∷ ys) long each = absurd (omega (arith, long))
same_at_each (x ∷ xs) [] long each = absurd (omega (arith, long))
same_at_each {X} (x ∷ xs) (y ∷ ys) long each =
    ap (λ (z : X). z ∷ xs) (each zero x (omega arith))
    ∙ ap (λ (zs : List X). y ∷ zs) (same_at_each xs ys (omega (arith, long)) (λ k d low. each (suc k) d (omega (arith, low))))

-- a stream that has begun is held in the next cycle if it is held in this one and doesn't end
held_next : (row : Row) (cycle : ℕ) → row.admitted.0 ≤ cycle → is_held row (cycle + 1) ≡ (is_held row cycle && not (ends_in (cycle + 1) row))
held_next row cycle begun = elim (cases_Bool (is_held row cycle)) [
  | inl t ↦ next_by_end row cycle t ∙ sym (ap (λ (b : Bool). b && not (ends_in (cycle + 1) row)) t)
  | inr f ↦ never f ∙ sym (ap (λ (b : Bool). b && not (ends_in (cycle + 1) row)) f)
]
  where
    never : is_held row cycle ≡ false → is_held row (cycle + 1) ≡ false
    never f = elim (cases_Bool (is_held row (cycle + 1))) [
      | inl t ↦ absurd (both_ways (is_held row cycle) f
          (held_less row (λ number. row.withdrawn) (λ number. row.withdrawn) cycle (cycle + 1) (omega arith) begun (inr refl) t))
      | inr g ↦ g
    ]

pub let_go_is_next_cycle : LetGoIsNextCycle
let_go_is_next_cycle rows cycle slot after begun lists gone =
    same_at_each after (map (stand_of (cycle + 1)) rows)
    (gone.as_many ∙ length-map rows (stand_of cycle) ∙ sym (length-map rows (stand_of (cycle + 1)))) each
  where
    each : (k : ℕ) (d : Standing) → k < length (map (stand_of (cycle + 1)) rows) →
        get_or after k d ≡ get_or (map (stand_of (cycle + 1)) rows) k d
    each k d low =
        gone.each k d (omega (arith, inside, length-map rows (stand_of cycle)))
        ∙ ap (let_go_if slot k) (get_or-map (stand_of cycle) rows k (first rows inside) d inside)
        ∙ ap (λ (b : Bool). if b then released (stand_of cycle row) else stand_of cycle row) (lists k (first rows inside) inside)
        ∙ by_flags (is_held row cycle) (ends_in (cycle + 1) row)
        ∙ ap (with_flag row) (sym (held_next row cycle (begun row (Contains-get_or rows k (first rows inside) inside))))
        ∙ sym (get_or-map (stand_of (cycle + 1)) rows k (first rows inside) d inside)
      where
        inside : k < length rows
        inside = omega (arith, low, length-map rows (stand_of (cycle + 1)))

        first : (xs : List Row) → k < length xs → Row
        first [] h = absurd (omega (arith, h))
        first (x ∷ xs) h = x

        row : Row
        row = get_or rows k (first rows inside)

        with_flag : Row → Bool → Standing
        with_flag r b = record { row = r; held = b }

        by_flags : (held ends : Bool) → (if held && ends then with_flag row false else with_flag row held) ≡ with_flag row (held && not ends)
        by_flags true true = refl
        by_flags true false = refl
        by_flags false ends = refl

-- releasing none changes nothing
pub none_let_go : (rows after : List Standing) (numbers : List ℕ) → numbers ≡ [] → AreLetGo numbers rows after → after ≡ rows
none_let_go rows after numbers none gone =
    same_at_each after rows gone.as_many (λ k d low. gone.each k d low ∙ ap (λ (ns : List ℕ). let_go_if ns k (get_or rows k d)) none)

-- the rows of the held streams, and of all, are the streams' rows
pub held_are_theirs : (rows : List Row) (cycle : ℕ) →
    map (λ (stand : Standing). stand.row) (filter (λ (stand : Standing). stand.held) (map (stand_of cycle) rows)) ≡ filter (λ (row : Row). is_held row cycle) rows
held_are_theirs [] cycle = refl
held_are_theirs (row ∷ rows) cycle =
    by (filter (λ (stand : Standing). stand.held) (map (stand_of cycle) rows)) (filter (λ (r : Row). is_held r cycle) rows) (is_held row cycle)
    (held_are_theirs rows cycle)
  where
    by : (stands : List Standing) (held : List Row) (b : Bool) → map (λ (stand : Standing). stand.row) stands ≡ held →
        map (λ (stand : Standing). stand.row) (cond b (stand_of cycle row ∷ stands) stands) ≡ cond b (row ∷ held) held
    by stands held true rest = ap (λ (rs : List Row). row ∷ rs) rest
    by stands held false rest = rest

pub all_are_theirs : (rows : List Row) (cycle : ℕ) → map (λ (stand : Standing). stand.row) (map (stand_of cycle) rows) ≡ rows
all_are_theirs [] cycle = refl
all_are_theirs (row ∷ rows) cycle = ap (λ (rs : List Row). row ∷ rs) (all_are_theirs rows cycle)
