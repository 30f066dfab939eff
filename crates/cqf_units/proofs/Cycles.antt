-- Instants and cycles.
use Rattle.std.proofs.Common.{◌≡◌, ℕ, ◌+◌, ◌-◌, ◌*◌, ◌/◌, ◌%◌, ◌<◌, ◌≤◌, ◌⊎◌, ap, ◌∙◌, arith, mod-lt, div-add-mod', mul-le-mul_right, inl, inr}
use Rattle.std.proofs.lemmas.Bool.{cases_lt}
use Rattle.std.proofs.lemmas.Nat.{div-mul-add, le-div, mod-mul-add}

-- an instant from a cycle's beginning to before its end is in that cycle
pub cycle_is : (n c t : ℕ) → c * n ≤ t → t < c * n + n → t / n ≡ c
cycle_is n c t from upto =
    let parts : t ≡ c * n + (t - c * n) = omega arith in
    ap (λ x. x / n) parts ∙ div-mul-add c n (t - c * n) (omega arith)

-- a cycle begins no later than its instants
pub cycle_from : (n t : ℕ) → t / n * n ≤ t
cycle_from n t = omega (arith, div-add-mod' t n)

-- and ends after them
pub cycle_upto : (n t : ℕ) → 0 < n → t < t / n * n + n
cycle_upto n t some = omega (arith, div-add-mod' t n, mod-lt t some)

-- the position of an instant in a round of two cycles
pub in_round : (n c t : ℕ) → c * n ≤ t → t < c * n + n → t % (n + n) ≡ (c % 2) * n + (t - c * n)
in_round n c t from upto =
    let halves = div-add-mod' c 2 in
    let bit : c % 2 < 2 = mod-lt c (omega arith) in
    let parts : t ≡ (c / 2) * (n + n) + ((c % 2) * n + (t - c * n)) = omega (arith, ap (λ x. x * n) halves) in
    let below : (c % 2) * n ≤ n = two n (c % 2) bit in
    ap (λ x. x % (n + n)) parts ∙ mod-mul-add (c / 2) (n + n) ((c % 2) * n + (t - c * n)) (omega arith)
  where
    -- a duration taken once or not at all is at most the duration
    two : (n b : ℕ) → b < 2 → b * n ≤ n
    two n b h = grind arith

-- the round of two cycles that contains the instant
pub round_is : (n c t : ℕ) → c * n ≤ t → t < c * n + n → t / (n + n) ≡ c / 2
round_is n c t from upto =
    let halves = div-add-mod' c 2 in
    let bit : c % 2 < 2 = mod-lt c (omega arith) in
    let parts : t ≡ (c / 2) * (n + n) + ((c % 2) * n + (t - c * n)) = omega (arith, ap (λ x. x * n) halves) in
    let below : (c % 2) * n ≤ n = two n (c % 2) bit in
    ap (λ x. x / (n + n)) parts ∙ div-mul-add (c / 2) (n + n) ((c % 2) * n + (t - c * n)) (omega arith)
  where
    -- a duration taken once or not at all is at most the duration
    two : (n b : ℕ) → b < 2 → b * n ≤ n
    two n b h = grind arith

-- a cycle is even or odd
pub parity : (c : ℕ) → (c % 2 ≡ 0) ⊎ (c % 2 ≡ 1)
parity c = two (c % 2) (mod-lt c (omega arith))
  where
    -- a number below 2 is 0 or 1
    two : (b : ℕ) → b < 2 → (b ≡ 0) ⊎ (b ≡ 1)
    two b h = grind arith

-- an instant before the end of a run is in one of its cycles
pub cycle_below : (n t cycles : ℕ) → t < cycles * n → t / n < cycles
cycle_below n t cycles early = elim (cases_lt (t / n) cycles) [
  | inl less ↦ less
  | inr more ↦ absurd (omega (arith, mul-le-mul_right n more, cycle_from n t, early))
]

-- a later instant is in no earlier cycle
pub cycles_ordered : (n s t : ℕ) → 0 < n → s ≤ t → s / n ≤ t / n
cycles_ordered n s t some order = le-div (s / n) t n some (omega (arith, cycle_from n s, order))

-- an instant that is no earlier than a later cycle's beginning is no earlier than the next cycle's
pub from_next : (n c k t : ℕ) → c < k → k * n ≤ t → (c + 1) * n ≤ t
from_next n c k t less from = let more : c + 1 ≤ k = omega (arith, less) in omega (arith, mul-le-mul_right n more, from)

-- if an instant is before the end of some cycles, cycles have a positive duration
pub takes_time : (n t cycles : ℕ) → t < cycles * n → 0 < n
takes_time n t cycles l = elim (cases_lt 0 n) [
  | inl h ↦ h
  | inr g ↦ (let e : n ≡ 0 = omega (arith, g) in absurd (omega (arith, l, ap (λ x. cycles * x) e)))
]

-- an instant in a cycle of the run is before the run's end
pub before_cycle : (n t cycle cycles : ℕ) → 0 < n → t / n ≡ cycle → cycle < cycles → t < cycles * n
before_cycle n t cycle cycles some is l =
    let next : (cycle + 1) * n ≤ cycles * n = mul-le-mul_right n (omega (arith, l)) in
    omega (arith, next, cycle_upto n t some, ap (λ c. c * n) is)
