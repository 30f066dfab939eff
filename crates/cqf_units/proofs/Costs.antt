-- What reservations cost.
use Rattle.std.proofs.Common.{ℕ, ◌+◌, ◌-◌, ◌*◌, ◌/◌, ◌≤◌, arith, mul-le-mul_right}
use Rattle.std.proofs.Math.Nat.{mul-div-le}
use Rattle.cqf_units.specs.Timing.{cost_of}

-- a reservation costs at most twice its octets if the gate overhead is at most 22
pub cost_within : (overhead reserved : ℕ) → overhead ≤ 22 → cost_of overhead reserved ≤ 2 * reserved
cost_within overhead reserved short =
    let frames = reserved / (64 - overhead) in
    let less : (overhead + 20) * frames ≤ (64 - overhead) * frames = mul-le-mul_right frames (omega (arith, short)) in
    let some : (64 - overhead) * frames ≤ reserved = mul-div-le reserved (64 - overhead) in
    omega (arith, less, some)
