-- In which cycles streams are offered on a cycle time.
use Rattle.std.proofs.Common.{◌≡◌, ◌∙◌, ◌+◌, ◌-◌, ◌/◌, ◌%◌, ◌<◌, ◌≤◌, ◌==◌, ◌&&◌, ℕ, zero, suc, Bool, true, false, List, [], ◌∷◌, Option, Some, None, ap, arith, cond, eq-eqb, eqb-true, fold, max, inl, inr, nat_lt, refl, subst, sym}
use Rattle.std.specs.Prelude.{IfSome, if◌then◌else◌}
use Rattle.std.proofs.Math.Nat.{mod-one}
use Rattle.std.proofs.lemmas.Bool.{and_from, and_parts, cases_Bool, cond-false, cond-true, lt-ltb, ltb-true}
use Rattle.std.proofs.lemmas.List.Sums.{fold-append}
use Rattle.std.proofs.lemmas.Nat.Gcd.{dvd_of_mod-eq-zero, le_of_dvd}
use Rattle.cqf_lists.specs.Lists.{each_below}
use Rattle.cqf_model.specs.declared.history.Refused.{Refused}
use Rattle.cqf_model.specs.declared.topology.Row.{Row}
use Rattle.cqf_model.specs.Domain.{Domain}
use Rattle.cqf_model.specs.History.{Branch, is_pace}
use Rattle.cqf_model.specs.Limits.{most_every}
use Rattle.cqf_admission.specs.Branches.{tree_refusal}
use Rattle.cqf_admission.specs.ActiveCycles.{IsGoodPace}
use Rattle.cqf_traffic.specs.TrafficText.{TrafficText}
use Rattle.cqf_network.specs.declared.pacing.Pacing.{Pacing}
use Rattle.cqf_network.specs.declared.pacing.Pacing.TheVariants as pacing
use Rattle.cqf_program_placing.specs.declared.active_cycles.ActiveCycles.{ActiveCycles}
use Rattle.cqf_program_placing.specs.declared.active_cycles.ActiveCycles.TheVariants.{Given, Chosen}
use Rattle.cqf_program_placing.specs.Settled.{is_paced}
use Rattle.cqf_program_placing.specs.ActiveCycles.{AreGoodActiveCycles, CostsSome, IsChosenBy, IsGoodEvery, IsPhaseAlong, MayBeFirst, active_cycles_by, every_in, every_of, keeps_step, pace_by}

-- a divisor of 80 is at most 80
pub good_every : (every : ℕ) → 1 ≤ every → most_every % every ≡ 0 → IsGoodEvery every
good_every every some divides =
    record { some = some; few = le_of_dvd (omega arith) (dvd_of_mod-eq-zero every divides); divides = divides }

-- the pace of a request
pub pace_is_good : (every phase : ℕ) → is_pace every phase ≡ true → IsGoodEvery every × (phase < every)
pace_is_good every phase t =
    let parts = and_parts (most_every % every == 0) (nat_lt phase every) t in
    let below : phase < every = ltb-true phase every parts.1 in
    (good_every every (omega (arith, below)) (eqb-true (most_every % every) 0 parts.0), below)

pub is_good_pace : (every phase : ℕ) → IsGoodEvery every → phase < every → is_pace every phase ≡ true
is_good_pace every phase good below =
    and_from (most_every % every == 0) (nat_lt phase every) (eq-eqb (most_every % every) 0 good.divides) (lt-ltb phase every below)

-- the pace of good active cycles is a good pace
pub active_cycles_are_good : (every phase : ℕ) → IsGoodEvery every → phase < every → IsGoodPace (pace_by every phase)
active_cycles_are_good every phase good below =
    let same : every - 1 + 1 ≡ every = omega (arith, good.some) in
    record { divides = ap (λ n. most_every % n) same ∙ good.divides; within = omega (arith, below) }

-- ---- the greatest common divisor with 80

-- a number, one more than the given one, if it divides both; else nothing
abbrev pub divisor_at : ℕ → ℕ → List ℕ
divisor_at cycles k = if (most_every % (k + 1) == 0) && (cycles % (k + 1) == 0) then (k + 1) ∷ [] else []

-- the greatest divisor of the first `count` numbers
pub record IsGreatestSoFar (cycles count every : ℕ) : Type 0 where
  pub is : every ≡ fold max 0 (each_below (divisor_at cycles) count)
  pub few : every ≤ count
  pub some : 0 < count → 1 ≤ every
  pub divides : 1 ≤ every → most_every % every ≡ 0

pub none_greatest : (cycles : ℕ) → IsGreatestSoFar cycles 0 0
none_greatest cycles = record { is = refl; few = omega arith; some = λ more. absurd (omega (arith, more)); divides = λ more. absurd (omega (arith, more)) }

module _ (cycles k every : ℕ) (so_far : IsGreatestSoFar cycles k every) where
  -- the next number is tried
  next_asked : fold max 0 (each_below (divisor_at cycles) (k + 1)) ≡ fold max every (divisor_at cycles k)
  next_asked =
      let on : k + 1 ≡ suc k = omega arith in
      ap (λ n. fold max 0 (each_below (divisor_at cycles) n)) on
      ∙ fold-append max 0 (each_below (divisor_at cycles) k) (divisor_at cycles k) ∙ ap (λ n. fold max n (divisor_at cycles k)) (sym so_far.is)

  -- it divides both
  pub more_divides : (most_every % (k + 1) ≡ 0) → (cycles % (k + 1) ≡ 0) → IsGreatestSoFar cycles (k + 1) (k + 1)
  more_divides one two =
      let passes : ((most_every % (k + 1) == 0) && (cycles % (k + 1) == 0)) ≡ true =
      and_from (most_every % (k + 1) == 0) (cycles % (k + 1) == 0) (eq-eqb (most_every % (k + 1)) 0 one) (eq-eqb (cycles % (k + 1)) 0 two) in
      let more : max every (k + 1) ≡ k + 1 = omega (arith, so_far.few) in
      record {
        is = sym (next_asked ∙ ap (fold max every) (cond-true ((most_every % (k + 1) == 0) && (cycles % (k + 1) == 0)) ((k + 1) ∷ []) [] passes) ∙ more);
        few = omega arith;
        some = λ any. omega arith;
        divides = λ any. one;
      }

  -- or it doesn't
  pub none_more : ((most_every % (k + 1) == 0) && (cycles % (k + 1) == 0)) ≡ false → IsGreatestSoFar cycles (k + 1) every
  none_more fails = record {
    is = sym (next_asked ∙ ap (fold max every) (cond-false ((most_every % (k + 1) == 0) && (cycles % (k + 1) == 0)) ((k + 1) ∷ []) [] fails));
    few = omega (arith, so_far.few);
    some = λ any. first k refl;
    divides = so_far.divides;
  } where
    -- 1 divides both
    first : (n : ℕ) → k ≡ n → 1 ≤ every
    first zero is =
        let passes : ((most_every % (k + 1) == 0) && (cycles % (k + 1) == 0)) ≡ true =
        subst (λ n. ((most_every % (n + 1) == 0) && (cycles % (n + 1) == 0)) ≡ true) (sym is) (eq-eqb (cycles % 1) 0 (mod-one cycles)) in
        absurd cc
    first (suc n) is = so_far.some (omega (arith, is))

-- all of them
pub greatest_is_good : (cycles count every : ℕ) → count ≡ most_every → IsGreatestSoFar cycles count every → (every ≡ every_of cycles) × IsGoodEvery every
greatest_is_good cycles count every all so_far =
    let some : 1 ≤ every = so_far.some (omega (arith, all)) in
    (so_far.is ∙ ap (λ n. fold max 0 (each_below (divisor_at cycles) n)) all, good_every every some (so_far.divides some))

-- there is such a greatest divisor, for any count
greatest_of : (cycles count : ℕ) → (every : ℕ) × IsGreatestSoFar cycles count every
greatest_of cycles zero = (0, none_greatest cycles)
greatest_of cycles (suc k) =
    let so_far = greatest_of cycles k in
    let on : k + 1 ≡ suc k = omega arith in
    let next : (every : ℕ) × IsGreatestSoFar cycles (k + 1) every = elim (cases_Bool ((most_every % (k + 1) == 0) && (cycles % (k + 1) == 0))) [
      | inl passes ↦
          let parts = and_parts (most_every % (k + 1) == 0) (cycles % (k + 1) == 0) passes in
          (k + 1, more_divides cycles k so_far.0 so_far.1 (eqb-true (most_every % (k + 1)) 0 parts.0) (eqb-true (cycles % (k + 1)) 0 parts.1))
      | inr fails ↦ (so_far.0, none_more cycles k so_far.0 so_far.1 fails)
    ] in
    subst (λ n. (every : ℕ) × IsGreatestSoFar cycles n every) on next

every_is_good : (cycles : ℕ) → IsGoodEvery (every_of cycles)
every_is_good cycles =
    let all = greatest_of cycles most_every in
    let found = greatest_is_good cycles most_every all.0 refl all.1 in
    subst IsGoodEvery found.0 found.1

-- ---- the cycles of a stream

pub active_cycles_good : (cycle_time : ℕ) (given : Pacing) (traffic : Option TrafficText) → is_paced given ≡ true → AreGoodActiveCycles (active_cycles_by cycle_time given traffic)
active_cycles_good cycle_time (pacing.Given every phase) traffic paced = paced
active_cycles_good cycle_time pacing.InStep None paced = refl
active_cycles_good cycle_time pacing.InStep (Some t) paced = every_is_good (t.interval / cycle_time)

-- if a stream costs something whenever it has traffic, it costs something if its first cycle is to be chosen
pub costs_some : (cycle_time octets : ℕ) (given : Pacing) (traffic : Option TrafficText) → IfSome traffic (λ _. 1 ≤ octets) →
    CostsSome (active_cycles_by cycle_time given traffic) octets
costs_some cycle_time octets (pacing.Given every phase) traffic some = tt
costs_some cycle_time octets pacing.InStep None some = tt
costs_some cycle_time octets pacing.InStep (Some t) some = some

-- so it does at no smaller cost
pub costs_more : (active_cycles : ActiveCycles) (octets cost : ℕ) → octets ≤ cost → CostsSome active_cycles octets → CostsSome active_cycles cost
costs_more (Given every phase) octets cost more some = tt
costs_more (Chosen every) octets cost more some = omega (arith, some, more)

-- n if it is offered in one of n cycles
pub every_is_good_in : (active_cycles : ActiveCycles) → AreGoodActiveCycles active_cycles → IsGoodEvery (every_in active_cycles)
every_is_good_in (Given every phase) good = (pace_is_good every phase good).0
every_is_good_in (Chosen every) good = good

-- a given or chosen phase may be the first
pub may_be_first : (d : Domain) (rows : List Row) (cost : ℕ) (paths : List Branch) (cycle_time : ℕ) (given : Pacing) (traffic : Option TrafficText)
    (first : ℕ) → IsPhaseAlong d rows cost paths (active_cycles_by cycle_time given traffic) first → MayBeFirst (active_cycles_by cycle_time given traffic) first
may_be_first d rows cost paths cycle_time (pacing.Given every phase) traffic first is = is
may_be_first d rows cost paths cycle_time pacing.InStep None first is = is
may_be_first d rows cost paths cycle_time pacing.InStep (Some t) first is = by_tree (tree_refusal d paths) is
  where
    every : ℕ
    every = every_of (t.interval / cycle_time)

    by_tree : (o : Option Refused) → IsChosenBy d rows cost paths every o first → first < every
    by_tree None chosen = chosen.within
    by_tree (Some refusal) none = omega (arith, none, (every_is_good (t.interval / cycle_time)).some)

-- and so may the phase along any branches, also if they are refused
pub first_along : (d : Domain) (rows : List Row) (cost : ℕ) (paths : List Branch) (active_cycles : ActiveCycles) (first : ℕ) → AreGoodActiveCycles active_cycles →
    IsPhaseAlong d rows cost paths active_cycles first → MayBeFirst active_cycles first
first_along d rows cost paths (Given every phase) first good is = is
first_along d rows cost paths (Chosen every) first good is = by (tree_refusal d paths) is
  where
    by : (o : Option Refused) → IsChosenBy d rows cost paths every o first → first < every
    by None chosen = chosen.within
    by (Some refusal) none = omega (arith, none, good.some)

-- it makes a pace
pub paced_so : (active_cycles : ActiveCycles) (first : ℕ) → AreGoodActiveCycles active_cycles → MayBeFirst active_cycles first → is_pace (every_in active_cycles) first ≡ true
paced_so (Given every phase) first good is = ap (is_pace every) is ∙ good
paced_so (Chosen every) first good is = is_good_pace every first good is

-- and is a cycle before all paces repeat
pub first_is_early : (cycle_time : ℕ) (given : Pacing) (traffic : Option TrafficText) (first : ℕ) → is_paced given ≡ true →
    MayBeFirst (active_cycles_by cycle_time given traffic) first → first < most_every
first_is_early cycle_time given traffic first paced may = by (active_cycles_by cycle_time given traffic) (active_cycles_good cycle_time given traffic paced) may
  where
    by : (active_cycles : ActiveCycles) → AreGoodActiveCycles active_cycles → MayBeFirst active_cycles first → first < most_every
    by (Given every phase) good is = let parts = pace_is_good every phase good in omega (arith, is, parts.1, parts.0.few)
    by (Chosen every) good is = omega (arith, is, good.few)
