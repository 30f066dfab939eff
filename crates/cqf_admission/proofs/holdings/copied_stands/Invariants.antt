-- The streams so far have been copied.
use Rattle.std.proofs.Common.{◌≡◌, take, map}
use Rattle.cqf_admission.specs.Holdings.{standing_of}
use Rattle.cqf_admission.proofs.holdings.copied_stands.Given as goal

abbrev pub invariant-loop-stand : goal.invariant-loop-stand
invariant-loop-stand l = map standing_of l.copies.items ≡ map standing_of (take l.stand-index l.stands)
