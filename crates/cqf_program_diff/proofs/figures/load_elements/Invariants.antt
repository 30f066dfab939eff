-- The links so far.
use Rattle.std.proofs.Common.{◌≡◌, ◌∷◌, []}
use Rattle.std.specs.Prelude.{slice_index_or}
use Rattle.cqf_lists.specs.Lists.{each_below}
use Rattle.cqf_program_diff.specs.Figures.{load_element}
use Rattle.cqf_program_diff.proofs.figures.load_elements.Given as goal

abbrev pub invariant-loop-link : goal.invariant-loop-link
invariant-loop-link l = l.elements.items ≡ each_below (λ link. load_element l.domain link (slice_index_or l.costs link 0) ∷ []) l.link
