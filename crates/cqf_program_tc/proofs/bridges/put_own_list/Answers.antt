use Rattle.std.proofs.Common.{◌++◌, ◌∙◌, codes, sym}
use Rattle.cqf_model.specs.Network.{compiled_lists}
use Rattle.cqf_output.proofs.WriterLemmas.{Puts-as}
use Rattle.cqf_program_tc.specs.Bridge.{own_list}
use Rattle.cqf_program_tc.specs.Words.{tx_words}
use Rattle.cqf_program_tc.proofs.Owned.{list_of_owner, owner_inside}
use Rattle.cqf_program_tc.proofs.bridges.put_own_list.Goals as goal

pub put_list_parameter-requires : goal.put_list_parameter-requires
put_list_parameter-requires g c = owner_inside c.args.domain.now.links c.args.link (sym c.has_own_list.ensures ∙ c.if-has_own_list.true)

pub returns-then-has_own_list : goal.returns-then-has_own_list
returns-then-has_own_list g c =
    let d = c.args.domain.now in
    Puts-as (codes " \"" ++ (tx_words (compiled_lists d c.args.link) ++ codes "\"")) (own_list d c.args.link)
    (sym (list_of_owner d c.args.link (sym c.has_own_list.ensures ∙ c.if-has_own_list.true))) c.put_list_parameter.ensures
