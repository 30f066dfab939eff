use Rattle.std.proofs.Common.{◌∙◌, ℕ, None, ap, get_or, sym}
use Rattle.std.specs.Option.{option_and_then}
use Rattle.cqf_admission.specs.Names.{index_named}
use Rattle.cqf_program_runs.specs.Deliveries.Deadlines.{Due, deadline_in}
use Rattle.cqf_program_runs.proofs.deliveries.deadlines.Deadlines.of.Goals as goal

pub returns-in-Some : goal.returns-in-Some
returns-in-Some c =
    let inside = c.self.inside in
    c.deadline_at.ensures
    ∙ ap (option_and_then (λ (k : ℕ). get_or inside.deadlines.now k None))
    (sym c.in-Some.is ∙ c.index_of.ensures ∙ ap (index_named inside.names) c.as_str.ensures.value)
    ∙ ap (λ (due : Due). deadline_in due c.args.stream.now) c.self.view_is

pub returns-in-None : goal.returns-in-None
returns-in-None c =
    let inside = c.self.inside in
    ap (option_and_then (λ (k : ℕ). get_or inside.deadlines.now k None))
    (sym c.in-None.is ∙ c.index_of.ensures ∙ ap (index_named inside.names) c.as_str.ensures.value)
    ∙ ap (λ (due : Due). deadline_in due c.args.stream.now) c.self.view_is
