-- The greatest share of the links so far.
use Rattle.std.proofs.Common.{◌≡◌, slice_index}
use Rattle.cqf_lists.specs.Lists.{each_below}
use Rattle.cqf_model.specs.Domain.{budget}
use Rattle.cqf_program_planning.specs.Judging.{greatest_of, share_of}
use Rattle.cqf_program_planning.proofs.shares.greatest_by.Given as goal

abbrev pub invariant-loop-link : goal.invariant-loop-link
invariant-loop-link l = l.most ≡ greatest_of (each_below (λ link. share_of (budget l.domain link) (slice_index l.held link)) l.link)
