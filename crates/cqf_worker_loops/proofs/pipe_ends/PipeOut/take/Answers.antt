use Rattle.std.proofs.Common.{◌++◌, ◌∷◌, [], ◌∙◌, ap, rules}
use Rattle.cqf_worker_loops.specs.PipeEnds.{handed_by}
use Rattle.cqf_worker_loops.proofs.Waiting.{comes, hands_out}
use Rattle.cqf_worker_loops.proofs.pipe_ends.PipeOut.take.Goals as goal

-- the item was the first of those that waited
pub invariant_of-self : goal.invariant_of-self
invariant_of-self g c =
    let handed = handed_by c.self.inside.pass c.self.inside.waiting.items in
    let next = hands_out _ _ _ c.pop_front.new.self.items c.in-Some.item _
    (c.self.invariant.3 ∙ ap (λ l. handed ++ l) c.in-Some.ensures.items) c.self.invariant.4 in
    (c.self.invariant.0, c.self.invariant.1, c.self.invariant.2, next.1, next.2)

pub returns-in-Some-clause-some : goal.returns-in-Some-clause-some
returns-in-Some-clause-some g c =
    let handed = handed_by c.self.inside.pass c.self.inside.waiting.items in
    let next = hands_out _ _ _ c.pop_front.new.self.items c.in-Some.item _
    (c.self.invariant.3 ∙ ap (λ l. handed ++ l) c.in-Some.ensures.items) c.self.invariant.4 in
    next.0 ∙ ap (λ e. e.items ++ c.in-Some.item ∷ []) c.self.view_is

-- nothing waited; the item arrived with the items that wait now
pub invariant_of-self-2 : goal.invariant_of-self-2
invariant_of-self-2 g c =
    let next = comes _ _ _ c.in_ok-first.field-0.following.items c.in_ok-first.field-0.first _ (ap (λ v. v.taken) c.in_ok-first.ensures.some.0) c.self.invariant.3
    (search rules) c.self.invariant.4 in
    (search rules, search rules, c.in_ok-first.ensures.some.1, next.1, next.2)

pub returns-clause-some : goal.returns-clause-some
returns-clause-some g c =
    let next = comes _ _ _ c.in_ok-first.field-0.following.items c.in_ok-first.field-0.first _ (ap (λ v. v.taken) c.in_ok-first.ensures.some.0) c.self.invariant.3
    (search rules) c.self.invariant.4 in
    next.0 ∙ ap (λ e. e.items ++ c.in_ok-first.field-0.first ∷ []) c.self.view_is
