use Rattle.std.proofs.Common.{◌≡◌, ◌∙◌, ◌+◌, ◌++◌, [], ◌∷◌, ℕ, List, Some, ap₂, sym, take}
use Rattle.std.specs.Prelude.{slice_get}
use Rattle.std.proofs.lemmas.List.{take_more}
use Rattle.std.proofs.lemmas.Option.{get_or_from_slice_get, slice_get_within}
use Rattle.cqf_model.specs.declared.topology.Link.{Link}
use Rattle.cqf_instants_run.proofs.layout.links_of.Goals as goal

pub loop-link-preserved : goal.loop-link-preserved
loop-link-preserved c =
    c.in_ok-push.ensures.items ∙ one_more c.args.domain.now.links c.loop-link.links.items c.loop-link.link c.link.result c.loop-link.invariant c.link.ensures
  where
    one_more : (links front : List Link) (k : ℕ) (link : Link) → front ≡ take k links → slice_get links k ≡ Some link → front ++ link ∷ [] ≡ take (k + 1) links
    one_more links front k link so_far is =
        ap₂ (λ (xs : List Link) (x : Link). xs ++ x ∷ []) so_far (sym (get_or_from_slice_get links k link link is))
        ∙ sym (take_more links k link (slice_get_within links k link is))
