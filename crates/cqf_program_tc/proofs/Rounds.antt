-- The cycles after which all lists of a script begin anew.
use Rattle.std.proofs.Common.{◌≡◌, ◌∙◌, ◌+◌, ◌-◌, ◌*◌, ◌/◌, ◌%◌, ◌<◌, ◌≤◌, ◌==◌, ◌&&◌, ◌||◌, ℕ, mod-lt, Bool, true, false, zero, suc, List, ap, arith, eqb-true, inl, inr, refl, subst, sym}
use Rattle.std.specs.Prelude.{Contains, not}
use Rattle.std.specs.List.{list_any}
use Rattle.std.proofs.lemmas.Bool.{and_parts, cases_Bool, cases_eq, cond-false, cond-true}
use Rattle.std.proofs.lemmas.List.Folds.{list_any_at}
use Rattle.std.proofs.lemmas.Nat.Gcd.{dvd_of_mod-eq-zero, le_of_dvd}
use Rattle.cqf_model.specs.declared.topology.Pace.{Pace}
use Rattle.cqf_model.specs.declared.topology.Row.{Row}
use Rattle.cqf_model.specs.Limits.{most_every}
use Rattle.cqf_model.specs.StreamGate.{gate_cycles}
use Rattle.cqf_program_tc.specs.Bridge.{pauses}
use Rattle.std.specs.Prelude.{if◌then◌else◌}
use Rattle.std.proofs.Math.Nat.{add-mod-mod, div-add-mod, mod_self, mul-add-mod_self_left}
use Rattle.cqf_program_tc.specs.Laws.{InstantsFit, IsNextMultiple, ListsBeginAnew, begins_from}
use Rattle.cqf_program_tc.specs.Text.{rounds_in}

-- the cycles of a gate with a stream of this pause divide 80, if those of its pace do
abbrev goes_into : ℕ → Bool
goes_into pause = not (most_every % (pause + 1) == 0) || (most_every % gate_cycles (record { pause = pause; phase = 0 }) == 0)

-- the same for all shorter pauses
abbrev all_below : ℕ → Bool
all_below zero = true
all_below (suc n) = goes_into n && all_below n

one_below : (n k : ℕ) → k < n → all_below n ≡ true → goes_into k ≡ true
one_below zero k less e = absurd (omega (arith, less))
one_below (suc n) k less e =
    let parts = and_parts (goes_into n) (all_below n) e in
    elim (cases_eq k n) [
      | inl same ↦ subst (λ j. goes_into j ≡ true) (sym same) parts.0
      | inr other ↦ one_below n k (omega (arith, less, other)) parts.1
    ]

-- all possible pauses were checked
every_one : all_below 80 ≡ true
every_one = refl

-- the cycles of a gate divide 80
into_all : (pace : Pace) → most_every % (pace.pause + 1) ≡ 0 → most_every % gate_cycles pace ≡ 0
into_all pace divides =
    let few : pace.pause + 1 ≤ 80 = le_of_dvd (omega arith) (dvd_of_mod-eq-zero (pace.pause + 1) divides) in
    by (most_every % (pace.pause + 1)) divides (one_below 80 pace.pause (omega (arith, few)) every_one)
  where
    by : (rest : ℕ) → rest ≡ 0 → (not (rest == 0) || (most_every % gate_cycles pace == 0)) ≡ true → most_every % gate_cycles pace ≡ 0
    by rest none e = eqb-true (most_every % gate_cycles pace) 0 (ap (λ (n : ℕ). not (n == 0) || (most_every % gate_cycles pace == 0)) (sym none) ∙ e)

-- if no stream pauses, this one doesn't
never : (rows : List Row) (row : Row) → Contains rows row → list_any pauses rows ≡ false → row.pace.pause ≡ 0
never rows row there none = by (row.pace.pause == 0) refl
  where
    by : (b : Bool) → (row.pace.pause == 0) ≡ b → row.pace.pause ≡ 0
    by true e = eqb-true row.pace.pause 0 e
    by false e =
        let one : list_any pauses rows ≡ true = list_any_at pauses rows there.0 row there.1 (ap pauses there.2 ∙ ap not e) in
        absurd cc

-- the list of a gate without pauses has two cycles
two_cycles : (pace : Pace) → pace.pause ≡ 0 → 2 % gate_cycles pace ≡ 0
two_cycles pace none = ap (λ (p : ℕ). 2 % gate_cycles (record { pause = p; phase = 0 })) none

pub begin_anew : ListsBeginAnew
begin_anew rows good = elim (cases_Bool (list_any pauses rows)) [
  | inl some ↦
      let all : rounds_in rows ≡ 80 = cond-true (list_any pauses rows) 80 2 some in
      record {
        gates = λ row there. ap (λ (n : ℕ). n % gate_cycles row.pace) all ∙ into_all row.pace (good row there).divides;
        ports = ap (λ (n : ℕ). n % 2) all;
      }
  | inr none ↦
      let two : rounds_in rows ≡ 2 = cond-false (list_any pauses rows) 80 2 none in
      record {
        gates = λ row there. ap (λ (n : ℕ). n % gate_cycles row.pace) two ∙ two_cycles row.pace (never rows row there none);
        ports = ap (λ (n : ℕ). n % 2) two;
      }
]

-- the next multiple from an instant on
whole_rounds : (base round multiple rest : ℕ) → multiple + rest ≡ base → rest < round → base + (round - rest) ≡ multiple + round
whole_rounds base round multiple rest is low = omega (arith, is, low)

next_is : (round base : ℕ) → 0 < round → begins_from round base % round ≡ 0
next_is round base some =
    let rest : ℕ = base % round in
    let ahead : ℕ = round - rest in
    add-mod-mod base ahead round
    ∙ ap (λ (n : ℕ). n % round) (whole_rounds base round (round * (base / round)) rest (div-add-mod base round) (mod-lt base some))
    ∙ mul-add-mod_self_left round (base / round) round
    ∙ mod_self round

next_multiple : (round base : ℕ) → 0 < round → round ≤ 80 * 1000000000 → base < 9000000000000000000 → IsNextMultiple round base
next_multiple round base some short early =
    let ahead : (round - base % round) % round < round = mod-lt (round - base % round) some in
    record {
      multiple = next_is round base some;
      since = omega arith;
      soon = omega (arith, ahead);
      fits = omega (arith, ahead, short, early);
    }

pub fit : InstantsFit
fit d rows base accepted early = by (list_any pauses rows)
  where
    by : (b : Bool) → IsNextMultiple ((if b then most_every else 2) * d.cycle_time) base
    by true = next_multiple (80 * d.cycle_time) base (omega (arith, accepted.cycle_least)) (omega (arith, accepted.cycle_most)) early
    by false = next_multiple (2 * d.cycle_time) base (omega (arith, accepted.cycle_least)) (omega (arith, accepted.cycle_most)) early
