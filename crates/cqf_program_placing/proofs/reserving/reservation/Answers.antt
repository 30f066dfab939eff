use Rattle.std.proofs.Common.{◌<◌, ◌≤◌, ◌^◌, ℕ, arith, subst, sym}
use Rattle.cqf_program_placing.proofs.IndexLemmas.{needed_few}
use Rattle.cqf_program_placing.proofs.reserving.reservation.Goals as goal

pub reserved_for-requires : goal.reserved_for-requires
reserved_for-requires c =
    let cycle_time = c.cycle_time-cycle_time.result.0 in
    let short : cycle_time ≤ 10000000 = omega (arith, c.cycle_time-cycle_time.ensures.value, c.cycle_time-cycle_time.ensures.accepted.cycle_most) in
    subst (λ (n : ℕ). n < 2 ^ 64) (sym c.needed-needed.ensures) (needed_few c.overhead.result cycle_time c.in-Some.traffic short c.know.ensures.range)
