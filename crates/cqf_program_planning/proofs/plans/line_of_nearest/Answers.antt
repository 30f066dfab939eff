use Rattle.std.proofs.Common.{◌∙◌, ap, sym}
use Rattle.std.proofs.lemmas.Bool.{ne_eqb}
use Rattle.cqf_program_planning.specs.Choosing.{bad_line}
use Rattle.cqf_program_planning.proofs.TextLemmas.{bad_line_many}
use Rattle.cqf_program_planning.proofs.plans.line_of_nearest.Goals as goal

-- one of several
pub returns : goal.returns
returns c =
    c.in_ok-line-2.ensures.ok
    ∙ bad_line_many c.args.count c.args.nearest.now.cycle_time c.in-Some.fault (ne_eqb c.args.count 1 c.if-count-eq1.false)
    ∙ ap (bad_line c.args.count c.args.nearest.now.cycle_time) (sym c.in-Some.is)
