-- Instants by rounds of cycles, and what a talker needs with less jitter.
use Rattle.std.proofs.Common.{◌≡◌, ◌∙◌, ◌+◌, ◌-◌, ◌*◌, ◌/◌, ◌%◌, ◌<◌, ◌≤◌, ℕ, zero, suc, ap, arith, inl, inr, sym}
use Rattle.std.proofs.Math.Nat.{add-mod-mod, add-mod_right, div-mul-le_self, div-zero, lt-div-mul-add, mod-add-mod, mod-lt, mul-le-mul_right}
use Rattle.std.proofs.lemmas.Bool.{cases_lt}
use Rattle.cqf_laws_timing.specs.Traffic.{Traffic, needed}
use Rattle.cqf_units.specs.Timing.{counted_of}

-- from an instant that is before another one by as long as it takes from there, and some rounds, it takes until the same place of a round
pub comes_round : (at taken round : ℕ) → 0 < round → ((at + round - taken % round) % round + taken) % round ≡ at % round
comes_round at taken round some =
    let below : taken % round < round = mod-lt taken some in
    let whole : at + round - taken % round + taken % round ≡ at + round = omega (arith, below) in
    let later : ((at + round - taken % round) % round + taken) % round ≡ (at + round - taken % round + taken) % round =
    mod-add-mod (at + round - taken % round) round taken in
    let within : (at + round - taken % round + taken) % round ≡ (at + round - taken % round + taken % round) % round =
    sym (add-mod-mod (at + round - taken % round) taken round) in
    later ∙ within
    ∙ ap (λ n. n % round) whole
    ∙ add-mod_right at round

-- and is within a round
pub within_round : (at taken round : ℕ) → 0 < round → (at + round - taken % round) % round < round
within_round at taken round some = mod-lt (at + round - taken % round) some

-- a smaller number has no more whole parts
div_less : (a b k : ℕ) → a ≤ b → a / k ≤ b / k
div_less a b zero h =
    let x : a / zero ≡ 0 = div-zero a in
    let y : b / zero ≡ 0 = div-zero b in
    omega (arith, x, y)
div_less a b (suc n) h = elim (cases_lt (b / suc n) (a / suc n)) [
  | inl less ↦
      let k : ℕ = suc n in
      let some : 0 < suc n = omega arith in
      let more : b / suc n + 1 ≤ a / suc n = omega (arith, less) in
      let times : (b / suc n + 1) * suc n ≤ a / suc n * suc n = mul-le-mul_right (suc n) more in
      let out : (b / suc n + 1) * suc n ≡ b / suc n * suc n + suc n = omega arith in
      let low : a / suc n * suc n ≤ a = div-mul-le_self a (suc n) in
      let high : b < b / suc n * suc n + suc n = lt-div-mul-add some in
      absurd (omega (arith, h, times, out, low, high))
  | inr more ↦ more
]

-- less jitter needs no more
pub needs_no_more : (overhead cycle_time : ℕ) (t there : Traffic) → there.interval ≡ t.interval → there.frames ≡ t.frames → there.size ≡ t.size →
    there.jitter ≤ t.jitter → needed overhead cycle_time there ≤ needed overhead cycle_time t
needs_no_more overhead cycle_time t there interval frames size less =
    let sum : cycle_time + there.jitter + t.interval - 1 ≤ cycle_time + t.jitter + t.interval - 1 = omega (arith, less) in
    let parts : (cycle_time + there.jitter + t.interval - 1) / t.interval * t.frames * counted_of overhead t.size ≤ needed overhead cycle_time t =
    mul-le-mul_right (counted_of overhead t.size) (mul-le-mul_right t.frames
    (div_less (cycle_time + there.jitter + t.interval - 1) (cycle_time + t.jitter + t.interval - 1) t.interval sum)) in
    let same : needed overhead cycle_time there ≡ (cycle_time + there.jitter + t.interval - 1) / t.interval * t.frames * counted_of overhead t.size =
    (λ i. (cycle_time + there.jitter + interval i - 1) / interval i * frames i * counted_of overhead (size i)) in
    omega (arith, parts, same)
