use Rattle.std.proofs.Common.{arith}
use Rattle.cqf_units.proofs.Costs.{cost_within}
use Rattle.cqf_units.specs.Timing.{cost_of}
use Rattle.cqf_program_plans.proofs.load.access.cost_in_octets.Goals as goal

pub overflow_mul-more : goal.overflow_mul-more
overflow_mul-more c =
    let within = cost_within c.from-less.result c.from-reserved.result (omega (arith, c.from-less.ensures, c.requires)) in
    record { fits = omega (arith, within, c.from-reserved.ensures) }

pub overflow_add-result : goal.overflow_add-result
overflow_add-result c =
    let within = cost_within c.from-less.result c.from-reserved.result (omega (arith, c.from-less.ensures, c.requires)) in
    record { fits = omega (arith, within, c.from-reserved.ensures) }

pub returns : goal.returns
returns c = (λ i. cost_of (c.from-less.ensures i) (c.from-reserved.ensures i))
