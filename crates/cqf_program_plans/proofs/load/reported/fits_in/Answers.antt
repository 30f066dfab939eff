use Rattle.std.proofs.Common.{arith}
use Rattle.cqf_program_plans.proofs.Fits.{frames_within}
use Rattle.cqf_program_plans.proofs.load.reported.fits_in.Goals as goal

pub overflow_mul-beside : goal.overflow_mul-beside
overflow_mul-beside c =
    record { fits = omega (arith, c.requires.left, frames_within c.from-less.result c.args.left (omega (arith, c.from-less.ensures, c.requires.overhead))) }

pub overflow_mul-counted : goal.overflow_mul-counted
overflow_mul-counted c =
    record { fits = omega (arith, c.requires.left, frames_within c.from-less.result c.args.left (omega (arith, c.from-less.ensures, c.requires.overhead))) }

pub overflow_sub-by_octets : goal.overflow_sub-by_octets
overflow_sub-by_octets c =
    omega (arith, frames_within c.from-less.result c.args.left (omega (arith, c.from-less.ensures, c.requires.overhead)))

pub overflow_add-by_frames : goal.overflow_add-by_frames
overflow_add-by_frames c =
    record { fits = omega (arith, c.requires.left, frames_within c.from-less.result c.args.left (omega (arith, c.from-less.ensures, c.requires.overhead))) }
