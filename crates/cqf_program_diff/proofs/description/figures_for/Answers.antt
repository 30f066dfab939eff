use Rattle.std.proofs.Common.{◌∙◌, List, ap, map, subst, sym}
use Rattle.cqf_admission.specs.Asking.{asked_paced}
use Rattle.cqf_admission.specs.ActiveCycles.{AreOfGoodPaces}
use Rattle.cqf_model.specs.declared.topology.Row.{Row}
use Rattle.cqf_program_diff.specs.Figures.{figures_of}
use Rattle.cqf_program_diff.specs.FigureValues.{figures_text}
use Rattle.cqf_program_diff.proofs.Described.{figures_held}
use Rattle.cqf_program_diff.proofs.description.figures_for.Goals as goal

pub figures_of-requires-clause-good : goal.figures_of-requires-clause-good
figures_of-requires-clause-good c = subst AreOfGoodPaces (sym c.as_slice-all.ensures.value) c.in_ok-rows.ensures.good

pub returns-in-Ok-clause-ok : goal.returns-in-Ok-clause-ok
returns-in-Ok-clause-ok c =
    let d = c.args.domain.now in
    let deadlines = c.args.deadlines.now in
    let times = c.args.times.now in
    figures_held d (map asked_paced c.args.requests.now) c.in_ok-rows.rows.items deadlines times (figures_text c.in-Ok.figures) c.in_ok-rows.ensures.held
    (c.in-Ok.ensures ∙ ap (λ (rows : List Row). figures_of d rows deadlines times) c.as_slice-all.ensures.value)
