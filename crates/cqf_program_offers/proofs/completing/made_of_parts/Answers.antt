use Rattle.std.proofs.Common.{ℕ, ◌∙◌, List, ap, subst, sym}
use Rattle.std.proofs.lemmas.Result.{IfErr-weaker, IfOk-weaker}
use Rattle.cqf_program_offers.specs.Made.{made_of_parts}
use Rattle.cqf_output.specs.Stops.{IsRefused}
use Rattle.cqf_program_offers.proofs.Making.{four_parts, three_parts}
use Rattle.cqf_program_offers.proofs.completing.made_of_parts.Goals as goal

pub returns-in-len3-clause-ok : goal.returns-in-len3-clause-ok
returns-in-len3-clause-ok c =
    let parts = three_parts c.args.parts.now c.in-len3.len_at_least c.in-len3.len_below in
    IfOk-weaker c.made_of_three.result _ _ (λ made reported input. ap (made_of_parts c.args.limits c.args.planned c.args.cycles input) parts ∙ reported input)
    c.made_of_three.ensures.ok

pub returns-in-len3-clause-err : goal.returns-in-len3-clause-err
returns-in-len3-clause-err c =
    let parts = three_parts c.args.parts.now c.in-len3.len_at_least c.in-len3.len_below in
    IfErr-weaker c.made_of_three.result _ _ (λ stop reported input. subst (λ (texts : List (List ℕ)).
    IsRefused (made_of_parts c.args.limits c.args.planned c.args.cycles input texts) stop) (sym parts) (reported input)) c.made_of_three.ensures.err

pub returns-in-len4-clause-ok : goal.returns-in-len4-clause-ok
returns-in-len4-clause-ok c =
    let parts = four_parts c.args.parts.now c.in-len4.len_at_least c.in-len4.len_below in
    IfOk-weaker c.made_of_four.result _ _
    (λ made reported input. ap (made_of_parts c.args.limits c.args.planned c.args.cycles input) parts ∙ reported c.args.cycles input) c.made_of_four.ensures.ok

pub returns-in-len4-clause-err : goal.returns-in-len4-clause-err
returns-in-len4-clause-err c =
    let parts = four_parts c.args.parts.now c.in-len4.len_at_least c.in-len4.len_below in
    IfErr-weaker c.made_of_four.result _ _ (λ stop reported input. subst (λ (texts : List (List ℕ)).
    IsRefused (made_of_parts c.args.limits c.args.planned c.args.cycles input texts) stop) (sym parts) (reported c.args.cycles input)) c.made_of_four.ensures.err
