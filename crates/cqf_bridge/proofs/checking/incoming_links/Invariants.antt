use Rattle.std.specs.Prelude.{◌≡◌, [], ◌∷◌, if◌then◌else◌}
use Rattle.cqf_lists.specs.Lists.{each_below}
use Rattle.cqf_model.specs.Domain.{enters}
use Rattle.cqf_bridge.proofs.checking.incoming_links.Given as goal

abbrev pub invariant-loop-link : goal.invariant-loop-link
invariant-loop-link l = l.links.items ≡ each_below (λ k. if enters l.domain k l.number then k ∷ [] else []) l.link
