use Rattle.std.proofs.Common.{ℕ, List, length, map, subst, sym}
use Rattle.std.proofs.lemmas.List.{length-map}
use Rattle.std.specs.Arc.{arc_value}
use Rattle.cqf_admission.specs.Numbers.{AreNumbered}
use Rattle.cqf_admission.specs.Tabling.{AreTablesOf, Tables}
use Rattle.cqf_admission.proofs.Tabled.{renumbered}
use Rattle.cqf_admission.proofs.tabling.Tabling.renumber.Goals as goal

pub returns-in_ok-self-inside-clause-same : goal.returns-in_ok-self-inside-clause-same
returns-in_ok-self-inside-clause-same c = λ d entries held next are.
    let rows = map (λ row. arc_value row) c.args.rows.now in
    let i = c.self.inside in
    let tables : Tables = record { listed = arc_value i.listed; is_current = i.is_current; numbers = arc_value i.numbers; below = i.below } in
    let all : AreNumbered (arc_value c.in_ok-self-inside.field-0) (length rows) rows =
    subst (λ (n : ℕ). AreNumbered (arc_value c.in_ok-self-inside.field-0) n rows) (sym (length-map c.args.rows.now (λ row. arc_value row)))
    (subst (λ (numbers : List (List ℕ × ℕ)). AreNumbered numbers (length c.args.rows.now) rows) (sym c.in_ok-self-inside.ensures.ok) c.in_ok-numbers.ensures) in
    renumbered d entries tables (arc_value c.in_ok-self-inside.field-0) rows c.args.accepted held next all
    (subst (AreTablesOf d entries) (sym c.self.view_is) are)
