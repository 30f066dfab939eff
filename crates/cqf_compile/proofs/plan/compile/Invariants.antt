-- There is a list for each link so far.
use Rattle.std.proofs.Common.{◌≡◌, ◌∷◌, []}
use Rattle.cqf_lists.specs.Lists.{each_below}
use Rattle.cqf_model.specs.Network.{compiled_lists}
use Rattle.cqf_compile.proofs.plan.compile.Given as goal

abbrev pub invariant-loop-link : goal.invariant-loop-link
invariant-loop-link l = l.lists.items ≡ each_below (λ link. compiled_lists l.domain link ∷ []) l.link
