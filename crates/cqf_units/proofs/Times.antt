-- The time that octets take, in whole nanoseconds.
use Rattle.std.proofs.Common.{◌≡◌, ℕ, ◌+◌, ◌-◌, ◌*◌, ◌/◌, ◌%◌, ◌≤◌, ◌<◌, Bool, true, false, if◌then◌else◌, ◌==◌, refl, ap, arith, div-add-mod', eqb-true}
use Rattle.std.proofs.Common.{mul-le-mul_left, mul-le-mul_right}
use Rattle.cqf_units.specs.Timing.{time_of, slot_of, wire_of, rounding_of, shortest_of, span_of, budget_of}
use Rattle.cqf_units.proofs.Cycles.{cycle_from}

-- more octets take at least as long
pub time_grows : (a b octet_time : ℕ) → a ≤ b → time_of a octet_time ≤ time_of b octet_time
time_grows a b octet_time less = omega (arith, mul-le-mul_right octet_time less)

-- at least one octet takes some time
pub time_some : (a octet_time : ℕ) → 0 < a → 0 < octet_time → 0 < time_of a octet_time
time_some a octet_time some positive =
    let more : 1 * octet_time ≤ a * octet_time = mul-le-mul_right octet_time some in
    omega (arith, more, positive)

-- a frame's slot takes some time
pub slot_some : (octets octet_time : ℕ) → 0 < octet_time → 0 < slot_of octets octet_time
slot_some octets octet_time positive = time_some (wire_of octets) octet_time (omega arith) positive

-- octets and further octets take at least as long as all of them together
pub time_joins : (a b octet_time : ℕ) → time_of (a + b) octet_time ≤ time_of a octet_time + time_of b octet_time
time_joins a b octet_time = omega arith

-- a frame's slot is at most the time to send the frame and the minimum gap
pub slot_joins : (octets octet_time : ℕ) → slot_of octets octet_time ≤ time_of (octets + 8) octet_time + time_of 12 octet_time
slot_joins octets octet_time = omega arith

-- what remains of the slot when the frame is sent is at least the minimum gap, rounded down
pub slot_parts : (octets octet_time : ℕ) → time_of (octets + 8) octet_time + 12 * octet_time / 25 ≤ slot_of octets octet_time
slot_parts octets octet_time = omega arith

-- rounding up to whole nanoseconds adds at most the bound
rounded_by : (octets octet_time : ℕ) → 25 * time_of octets octet_time ≤ octets * octet_time + rounding_of octet_time
rounded_by octets octet_time = by_test (octet_time % 25 == 0) (octet_time % 5 == 0) refl refl
  where
    -- if an octet takes a whole number of nanoseconds
    whole : (w o q : ℕ) → o ≡ 25 * q → 25 * time_of w o ≤ w * o + 0
    whole w o q is = omega (arith, ap (λ z. w * z) is)

    -- if an octet takes a whole number of fifths of a nanosecond
    fifths : (w o q : ℕ) → o ≡ 5 * q → 25 * time_of w o ≤ w * o + 20
    fifths w o q is = omega (arith, ap (λ z. w * z) is)

    by_test : (exact fifth : Bool) → (octet_time % 25 == 0) ≡ exact → (octet_time % 5 == 0) ≡ fifth →
        25 * time_of octets octet_time ≤ octets * octet_time + (if exact then 0 else (if fifth then 20 else 24))
    by_test true fifth e f =
        whole octets octet_time (octet_time / 25) (omega (arith, div-add-mod' octet_time 25, eqb-true (octet_time % 25) 0 e))
    by_test false true e f =
        fifths octets octet_time (octet_time / 5) (omega (arith, div-add-mod' octet_time 5, eqb-true (octet_time % 5) 0 f))
    by_test false false e f = omega arith

-- no frame takes more for its octets on the wire than the bound for one of the shortest size
pub slot_within : (octets octet_time : ℕ) → 64 ≤ octets → 2100 * slot_of octets octet_time ≤ wire_of octets * shortest_of octet_time
slot_within octets octet_time least =
    scaled (wire_of octets) octet_time (rounding_of octet_time) (slot_of octets octet_time) (rounded_by (wire_of octets) octet_time) (omega (arith, least))
  where
    scaled : (w o s t : ℕ) → 25 * t ≤ w * o + s → 84 ≤ w → 2100 * t ≤ w * (84 * o + s)
    scaled w o s t rounded enough = omega (arith, rounded, mul-le-mul_right s enough)

-- the bound is positive
pub shortest_some : (octet_time : ℕ) → 0 < octet_time → 0 < shortest_of octet_time
shortest_some octet_time some = over octet_time (rounding_of octet_time) some
  where
    over : (o s : ℕ) → 0 < o → 0 < 84 * o + s
    over o s positive = omega (arith, positive)

-- a time that its cost bounds, within the budget, ends before the guard band
pub budget_in_time : (n g octet_time cost time : ℕ) → g ≤ n → 2100 * time ≤ cost * shortest_of octet_time → cost ≤ budget_of n g octet_time →
    time + g ≤ n
budget_in_time n g octet_time cost time short takes within =
    numbers (shortest_of octet_time) (budget_of n g octet_time) takes (mul-le-mul_right (shortest_of octet_time) within)
    (cycle_from (shortest_of octet_time) ((n - g) * 2100))
  where
    numbers : (k b : ℕ) → 2100 * time ≤ cost * k → cost * k ≤ b * k → b * k ≤ (n - g) * 2100 → time + g ≤ n
    numbers k b first second third = omega (arith, first, second, third, short)

-- and is within the span of its cost
pub time_in_span : (cost octet_time time : ℕ) → 2100 * time ≤ cost * shortest_of octet_time → time ≤ span_of cost octet_time
time_in_span cost octet_time time takes = numbers (cost * shortest_of octet_time) takes
  where
    numbers : (x : ℕ) → 2100 * time ≤ x → time ≤ x / 2100
    numbers x within = omega (arith, within)

-- a greater cost has no shorter span
pub span_grows : (a b octet_time : ℕ) → a ≤ b → span_of a octet_time ≤ span_of b octet_time
span_grows a b octet_time less = numbers (a * shortest_of octet_time) (b * shortest_of octet_time) (mul-le-mul_right (shortest_of octet_time) less)
  where
    numbers : (x y : ℕ) → x ≤ y → x / 2100 ≤ y / 2100
    numbers x y within = omega (arith, within)

-- the span of a cost within the budget ends before the guard band
pub span_in_time : (n g octet_time cost : ℕ) → g ≤ n → cost ≤ budget_of n g octet_time → span_of cost octet_time + g ≤ n
span_in_time n g octet_time cost short within =
    numbers (shortest_of octet_time) (budget_of n g octet_time) (mul-le-mul_right (shortest_of octet_time) within)
    (cycle_from (shortest_of octet_time) ((n - g) * 2100))
  where
    numbers : (k b : ℕ) → cost * k ≤ b * k → b * k ≤ (n - g) * 2100 → cost * k / 2100 + g ≤ n
    numbers k b second third = omega (arith, second, third, short)

-- a frame of the shortest size, with its gap, is sent within the span of 84 octets
pub shortest_in_span : (cost octet_time : ℕ) → 84 ≤ cost → slot_of 64 octet_time ≤ span_of cost octet_time
shortest_in_span cost octet_time enough =
    time_in_span cost octet_time (slot_of 64 octet_time)
    (numbers (shortest_of octet_time) (slot_within 64 octet_time (omega arith)) (mul-le-mul_right (shortest_of octet_time) enough))
  where
    numbers : (k : ℕ) → 2100 * slot_of 64 octet_time ≤ 84 * k → 84 * k ≤ cost * k → 2100 * slot_of 64 octet_time ≤ cost * k
    numbers k first second = omega (arith, first, second)

-- a budget is at most 11 octets for each nanosecond
pub budget_small : (x s : ℕ) → 192 ≤ s → x * 2100 / s ≤ 11 * x
budget_small x s enough = omega (arith, cycle_from s (x * 2100), mul-le-mul_left (x * 2100 / s) enough)
