use Rattle.std.proofs.Common.{◌∙◌, List, Result, map, subst, sym, ℕ}
use Rattle.std.proofs.lemmas.Result.{err_from_is_err_and}
use Rattle.cqf_admission.specs.Asking.{asked_paced}
use Rattle.cqf_edge.specs.EdgeValues.{edges_text}
use Rattle.cqf_output.specs.Stops.{IsRefused}
use Rattle.cqf_program_diff.specs.Description.{figures_for}
use Rattle.cqf_program_diff.specs.Figures.{FiguresText}
use Rattle.cqf_program_diff.specs.FigureValues.{figures_text}
use Rattle.cqf_program_diff.proofs.Described.{described_is, figures_refused}
use Rattle.cqf_program_diff.proofs.description.described_from.Goals as goal

pub returns-clause-ok : goal.returns-clause-ok
returns-clause-ok c =
    let d = c.args.domain.now in
    described_is c.args.network.now d (edges_text c.args.edge) c.in-Ok.own c.in_ok-requests.requests.items (figures_text c.in_ok-figures.figures) c.requires
    c.in-Ok.ensures c.in_ok-requests.ensures.ok
    ((λ i. figures_for d (map asked_paced (sym c.as_slice-asked.ensures.value i)) (sym c.as_slice-deadlines.ensures.value i) (sym c.as_slice-times.ensures.value i))
    ∙ c.in_ok-figures.ensures.ok)

pub returns-in_err-figures-clause-err : goal.returns-in_err-figures-clause-err
returns-in_err-figures-clause-err c =
    let d = c.args.domain.now in
    let stop = c.in_err-figures.field-0.0 in
    let reported = figures_refused c.args.network.now d (edges_text c.args.edge) c.in_ok-requests.requests.items stop c.requires c.in_ok-requests.ensures.ok
    (subst (λ (found : Result FiguresText (List ℕ)). IsRefused found stop)
    (λ i. figures_for d (map asked_paced (c.as_slice-asked.ensures.value i)) (c.as_slice-deadlines.ensures.value i) (c.as_slice-times.ensures.value i))
    c.in_err-figures.ensures.err) in
    let p = err_from_is_err_and c.from_residual-in_err-figures.result c.from_residual-in_err-figures.ensures.1 in
    rw (p.1, p.2) reported
