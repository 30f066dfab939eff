use Rattle.std.proofs.Common.{◌≡◌, ◌∙◌, ◌++◌, ◌∷◌, [], ℕ, List, add-one, ap, arith, sym}
use Rattle.cqf_program_planning.specs.Orders.{first_order}
use Rattle.cqf_program_planning.proofs.orders.first_order.Goals as goal

pub loop-index-preserved : goal.loop-index-preserved
loop-index-preserved c =
    let index = c.loop-index.index in
    c.in_ok-push.ensures.items ∙ ap (λ (xs : List ℕ). xs ++ index ∷ []) c.loop-index.invariant ∙ sym (ap first_order (add-one index))

pub returns : goal.returns
returns c =
    let all : c.loop-index.index ≡ c.args.count = omega (arith, c.loop-index-test.false) in
    c.loop-index.invariant ∙ ap first_order all
