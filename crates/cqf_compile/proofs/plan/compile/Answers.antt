-- One more list is kept, and in the end there is one for each link.
use Rattle.std.proofs.Common.{◌≡◌, ◌∙◌, ◌++◌, ◌∷◌, [], ℕ, List, add-one, ap, ap₂, arith, length, subst, sym}
use Rattle.cqf_lists.specs.Lists.{each_below}
use Rattle.cqf_model.specs.Domain.{Domain}
use Rattle.cqf_model.specs.GateList.{Entry}
use Rattle.cqf_model.specs.Network.{compiled_lists}
use Rattle.cqf_compile.specs.Plan.{IsPlan}
use Rattle.cqf_compile.proofs.plan.compile.Goals as goal

pub loop-link-preserved : goal.loop-link-preserved
loop-link-preserved c =
    let d = c.args.domain.now in
    c.in_ok-push.ensures.items
    ∙ ap₂ (λ (lists : List (List Entry)) (list : List Entry). lists ++ list ∷ []) c.loop-link.invariant c.port_list_of.ensures
    ∙ sym (ap (each_below (λ (l : ℕ). compiled_lists d l ∷ [])) (add-one c.loop-link.link))

pub invariant_of-result : goal.invariant_of-result
invariant_of-result c =
    let d = c.args.domain.now in
    let lists = c.loop-link.lists.items in
    let end : c.loop-link.link ≡ length d.links = omega (arith, c.loop-link-test.false, c.loop-link.auto.link-end, c.links-link-end.ensures) in
    let each : lists ≡ each_below (λ (l : ℕ). compiled_lists d l ∷ []) (length d.links) =
    c.loop-link.invariant ∙ ap (each_below (λ (l : ℕ). compiled_lists d l ∷ [])) end in
    subst (λ (it : Domain). IsPlan it lists) (sym c.in_ok-try_copy.ensures) (record { accepted = c.know.ensures.accepted; one_each = each })
