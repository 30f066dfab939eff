use Rattle.std.proofs.Common.{◌≡◌, ◌≢◌, ◌∙◌, ◌<◌, ℕ, List, None, Option, ap, arith, get_or, inl, inr, length, set}
use Rattle.std.proofs.lemmas.Bool.{cases_lt}
use Rattle.std.proofs.lemmas.List.{get_or-set_other, get_or-set_same, get_or_past, length-set}
use Rattle.cqf_units.specs.declared.timing.Nanos.{Nanos}
use Rattle.cqf_program_runs.proofs.deliveries.under_way.empty.Goals as goal

pub loop-column-preserved : goal.loop-column-preserved
loop-column-preserved c =
    let items : List (Option Nanos) = c.loop-column.slot.items in
    let k = c.loop-column.column in
    let inside : k < length items =
    omega (arith, c.loop-column-test.true, c.len-column-end.ensures, c.loop-column.invariant.as_many, c.args.slot.now.ok.0) in
    record {
      as_many = length-set items k None ∙ c.loop-column.invariant.as_many;
      none = λ column below. elim (cases_lt column k) [
        | inl less ↦
            let apart : column ≢ k = λ same. omega (arith, less, same) in
            get_or-set_other items k column None None apart ∙ c.loop-column.invariant.none column less
        | inr past ↦
            let here : column ≡ k = omega (arith, below, past) in
            ap (λ (j : ℕ). get_or (set items k None) j None) here ∙ get_or-set_same items k None None inside
      ];
    }

pub returns-clause-none : goal.returns-clause-none
returns-clause-none c = λ column.
    let items : List (Option Nanos) = c.loop-column.slot.items in
    elim (cases_lt column c.loop-column.column) [
      | inl before ↦ c.loop-column.invariant.none column before
      | inr past ↦
          get_or_past items column None
          (omega (arith, past, c.loop-column-test.false, c.len-column-end.ensures, c.loop-column.invariant.as_many, c.args.slot.now.ok.0))
    ]
