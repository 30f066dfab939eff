use Rattle.std.proofs.Common.{◌∙◌, Ok}
use Rattle.std.proofs.lemmas.Result.{IfOk-weaker, err_from_is_err_and}
use Rattle.cqf_edge.specs.EdgeValues.{edges_text}
use Rattle.cqf_program_diff.proofs.Described.{description_by, edges_refused}
use Rattle.cqf_program_diff.proofs.description.description_of.Goals as goal

pub returns-in_err-edge-clause-err : goal.returns-in_err-edge-clause-err
returns-in_err-edge-clause-err c =
    let reported = edges_refused c.args.limits c.args.document c.in_ok-network.network c.in_err-edge.field-0.0 c.in_ok-network.ensures.ok c.in_err-edge.ensures.err in
    let p = err_from_is_err_and c.from_residual-in_err-edge.result c.from_residual-in_err-edge.ensures.1 in
    rw (p.1, p.2) reported

pub returns-clause-ok : goal.returns-clause-ok
returns-clause-ok c =
    IfOk-weaker c.described_from.result _ _
    (λ found is. description_by c.args.limits c.args.document c.in_ok-network.network (Ok (edges_text c.in_ok-edge.edge)) c.in_ok-network.ensures.ok
    c.in_ok-edge.ensures.ok ∙ is) c.described_from.ensures.ok
