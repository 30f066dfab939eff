use Rattle.std.proofs.Common.{◌∙◌, sym}
use Rattle.cqf_edge.proofs.NameLemmas.{all_agree, one_differs}
use Rattle.cqf_edge.proofs.entrances.agrees_with.Goals as goal

pub returns-then-all_begin_with : goal.returns-then-all_begin_with
returns-then-all_begin_with c =
    all_agree _ c.args.network.now c.args.entrance c.args.paths.now c.edge_name-name.result.now c.edge_name-name.ensures
    (sym c.all_begin_with.ensures ∙ c.if-all_begin_with.true)

pub returns-else-all_begin_with : goal.returns-else-all_begin_with
returns-else-all_begin_with c =
    one_differs _ c.args.network.now c.args.entrance c.args.paths.now c.edge_name-name.result.now c.edge_name-name.ensures
    (sym c.all_begin_with.ensures ∙ c.if-all_begin_with.false)
