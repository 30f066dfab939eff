-- Good paces are short.
use Rattle.std.proofs.Common.{◌≡◌, ℕ, ◌+◌, ◌*◌, ◌<◌, ◌≤◌, ◌%◌, inl, inr, arith}
use Rattle.std.proofs.lemmas.Bool.{cases_lt}
use Rattle.std.proofs.lemmas.Nat.{mul-le}
use Rattle.std.proofs.Math.Nat.{mod-eq_of_lt}
use Rattle.cqf_model.specs.declared.topology.Pace.{Pace}
use Rattle.cqf_admission.specs.ActiveCycles.{IsGoodPace}

-- a period is at most 80 cycles
pub short_pace : (pace : Pace) → IsGoodPace pace → pace.pause < 80
short_pace pace good =
    elim (cases_lt pace.pause 80) [
      | inl short ↦ short
      | inr long ↦
          let itself : 80 % (pace.pause + 1) ≡ 80 = mod-eq_of_lt (omega (arith, long)) in
          absurd (omega (arith, itself, good.divides))
    ]

-- so 80 of the longest cycles fit an interval
pub short_round : (pace : Pace) (cycle_time : ℕ) → IsGoodPace pace → cycle_time ≤ 10000000 → (pace.pause + 1) * cycle_time < 4294967296
short_round pace cycle_time good short =
    let most : (pace.pause + 1) * cycle_time ≤ 80 * 10000000 = mul-le (pace.pause + 1) cycle_time 80 10000000 (omega (arith, short_pace pace good)) short in
    omega (arith, most)
