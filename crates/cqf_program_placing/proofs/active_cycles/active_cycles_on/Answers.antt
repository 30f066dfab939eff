use Rattle.std.proofs.Common.{◌≡◌, arith, ap, sym, true, ◌∙◌}
use Rattle.cqf_model.specs.History.{is_pace}
use Rattle.cqf_program_placing.specs.Settled.{is_paced}
use Rattle.cqf_program_placing.proofs.Stepping.{pace_is_good}
use Rattle.cqf_program_placing.proofs.active_cycles.active_cycles_on.Goals as goal

-- both are below 81
pub overflow_cast-result : goal.overflow_cast-result
overflow_cast-result c =
    let paced : is_pace c.in-Given.every c.in-Given.phase ≡ true = ap is_paced (sym c.in-Given.is) ∙ c.requires.paced in
    let good = pace_is_good c.in-Given.every c.in-Given.phase paced in
    record { fits = omega (arith, good.0.few) }

pub overflow_cast-result-in-Given : goal.overflow_cast-result-in-Given
overflow_cast-result-in-Given c =
    let paced : is_pace c.in-Given.every c.in-Given.phase ≡ true = ap is_paced (sym c.in-Given.is) ∙ c.requires.paced in
    let good = pace_is_good c.in-Given.every c.in-Given.phase paced in
    record { fits = omega (arith, good.0.few, good.1) }
