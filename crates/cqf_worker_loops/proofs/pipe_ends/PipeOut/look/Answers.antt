use Rattle.std.proofs.Common.{◌++◌, ◌∷◌, [], ◌∙◌, ap, rules}
use Rattle.cqf_worker_loops.specs.PipeEnds.{handed_by}
use Rattle.cqf_worker_loops.proofs.PipeSteps.{receives}
use Rattle.cqf_worker_loops.proofs.Waiting.{comes, hands_out}
use Rattle.cqf_worker_loops.proofs.pipe_ends.PipeOut.look.Goals as goal

-- the item was the first of those that waited
pub invariant_of-self : goal.invariant_of-self
invariant_of-self g c =
    let handed = handed_by c.self.inside.pass c.self.inside.waiting.items in
    let next = hands_out _ _ _ c.pop_front.new.self.items c.in-Some.item _
    (c.self.invariant.3 ∙ ap (λ l. handed ++ l) c.in-Some.ensures.items) c.self.invariant.4 in
    (c.self.invariant.0, c.self.invariant.1, c.self.invariant.2, next.1, next.2)

pub returns-in-Some-clause-items : goal.returns-in-Some-clause-items
returns-in-Some-clause-items g c =
    let handed = handed_by c.self.inside.pass c.self.inside.waiting.items in
    let next = hands_out _ _ _ c.pop_front.new.self.items c.in-Some.item _
    (c.self.invariant.3 ∙ ap (λ l. handed ++ l) c.in-Some.ensures.items) c.self.invariant.4 in
    next.0 ∙ ap (λ e. e.items ++ c.in-Some.item ∷ []) c.self.view_is

-- the pass may take
pub try_recv_as-requires-clause-rule : goal.try_recv_as-requires-clause-rule
try_recv_as-requires-clause-rule g c = (receives _ _ (ap (λ v. v.takes) c.self.invariant.1), λ items views h at. tt)

-- nothing waited; the item arrived with the items that wait now
pub invariant_of-self-in-Ok : goal.invariant_of-self-in-Ok
invariant_of-self-in-Ok g c =
    let next = comes _ _ _ c.in-Ok.bundle.following.items c.in-Ok.bundle.first _ (ap (λ v. v.taken) c.in-Ok.ensures.rule.0) c.self.invariant.3
    (search rules) c.self.invariant.4 in
    (search rules, search rules, c.in-Ok.ensures.rule.1, next.1, next.2)

pub returns-in-Ok-clause-items : goal.returns-in-Ok-clause-items
returns-in-Ok-clause-items g c =
    let next = comes _ _ _ c.in-Ok.bundle.following.items c.in-Ok.bundle.first _ (ap (λ v. v.taken) c.in-Ok.ensures.rule.0) c.self.invariant.3
    (search rules) c.self.invariant.4 in
    next.0 ∙ ap (λ e. e.items ++ c.in-Ok.bundle.first ∷ []) c.self.view_is
