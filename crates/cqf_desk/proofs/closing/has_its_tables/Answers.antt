use Rattle.std.proofs.Common.{◌≡◌, ◌∙◌, ◌++◌, ◌↔◌, IfOk, List, ap, length, map, refl, subst, sym, true, ℕ}
use Rattle.cqf_admission.specs.Admission.{recorded_of}
use Rattle.cqf_admission.specs.Tables.{CycleTable}
use Rattle.cqf_desk.specs.Closing.{tables_by}
use Rattle.std.proofs.lemmas.List.{nil_from_length}
use Rattle.cqf_desk.proofs.Steps.{closes_none}
use Rattle.cqf_desk.proofs.closing.has_its_tables.Goals as goal

pub returns-then-not-has_seal : goal.returns-then-not-has_seal
returns-then-not-has_seal c = (
  λ _.
      nil_from_length c.args.seat.now.tables (ap length (sym c.tables-tables.ensures) ∙ c.if-tables-eq0.true)
      ∙ sym (closes_none c.args.opening.now c.args.rest.now c.number-number.result (sym c.has_seal.ensures ∙ c.if-not-has_seal.true))
      ∙ ap (tables_by c.args.opening.now.domain (c.args.opening.now.entries ++ map recorded_of c.args.rest.now) (length c.args.opening.now.entries))
      c.number-number.ensures,
  λ _. refl,
)

pub returns : goal.returns
returns c =
    let Has : ℕ → List CycleTable → Type 0 = λ number tables.
    IfOk c.closes_tables.result (λ so. (so ≡ true) ↔ (tables
    ≡ tables_by c.args.opening.now.domain (c.args.opening.now.entries ++ map recorded_of c.args.rest.now) (length c.args.opening.now.entries) number)) in
    subst (Has c.args.seat.now.number) c.tables-tables.ensures
    (subst (λ (number : ℕ). Has number c.tables-tables.result.now) c.number-number.ensures c.closes_tables.ensures)
