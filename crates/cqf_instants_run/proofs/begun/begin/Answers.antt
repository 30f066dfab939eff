use Rattle.std.proofs.Common.{◌≡◌, ◌∙◌, ℕ, Some, nat_eq, length, refl, List, cond, sym, ap, arith, inl, inr}
use Rattle.std.specs.Prelude.{slice_get}
use Rattle.std.specs.BTreeMap.{get}
use Rattle.std.specs.Cmp.Lexicographic.{pointwise, slice_cmp}
use Rattle.std.specs.Ordering.{nat_cmp}
use Rattle.std.proofs.lemmas.Bool.{cases_eq}
use Rattle.std.proofs.lemmas.Map.Text.{is_eq-slice_cmp}
use Rattle.std.proofs.lemmas.Option.{slice_get_read}
use Rattle.cqf_model.specs.declared.topology.Row.{Row}
use Rattle.cqf_instants_run.proofs.LastRows.{begins_all, leads_more, one_there}
use Rattle.cqf_instants_run.proofs.begun.begin.Goals as goal

pub loop-index-init : goal.loop-index-init
loop-index-init c = record {
  forth = omega arith;
  within = c.requires.within;
  begun = λ index row from below at. absurd (omega (arith, from, below));
  leads = c.requires.leads;
}

pub returns-then-row-cycle : goal.returns-then-row-cycle
returns-then-row-cycle c =
    let k = c.loop-index.index in
    let at : slice_get c.args.rows.now k ≡ Some c.index-rows-index.result =
    slice_get_read c.args.rows.now (length c.args.rows.now) k c.index-rows-index.result refl (omega (arith, c.loop-index-test.true)) c.index-rows-index.is in
    record {
      begins = c.loop-index.invariant;
      next = λ row there. omega (
        arith,
        c.if-row-cycle.true,
        ap (λ (r : Row). r.admitted.0)
            (one_there c.args.rows.now k c.index-rows-index.result row at there),
      );
    }

pub loop-index-preserved : goal.loop-index-preserved
loop-index-preserved c =
    let rows = c.args.rows.now in
    let k = c.loop-index.index in
    let row = c.index-rows-index.result in
    let at : slice_get rows k ≡ Some row =
    slice_get_read rows (length rows) k row refl (omega (arith, c.loop-index-test.true)) c.index-rows-index.is in
    record {
      forth = omega (arith, c.loop-index.invariant.forth);
      within = omega (arith, c.loop-index-test.true);
      begun = λ index there from below is. elim (cases_eq index k) [
        | inl e ↦ omega (arith, c.if-row-cycle.false, ap (λ (r : Row). r.admitted.0) (one_there rows k there row (ap (slice_get rows) (sym e) ∙ is) at))
        | inr n ↦ c.loop-index.invariant.begun index there from (omega (arith, n, below)) is
      ];
      leads = leads_more rows k row at (λ name. get (slice_cmp nat_cmp) c.loop-index.last name) (λ name. get (slice_cmp nat_cmp) c.insert.new.self name)
          c.loop-index.invariant.leads (λ name. c.in_ok-insert.ensures.updates.0 name
          ∙ ap (λ same. cond same (Some k) (get (slice_cmp nat_cmp) c.loop-index.last name)) (is_eq-slice_cmp c.copied.result name)
          ∙ ap (λ (n : List ℕ). cond (pointwise nat_eq n name) (Some k) (get (slice_cmp nat_cmp) c.loop-index.last name)) c.copied.ensures);
    }

pub returns : goal.returns
returns c =
    begins_all c.args.rows.now c.args.from c.loop-index.index c.args.cycle.0 (λ name. get (slice_cmp nat_cmp) c.loop-index.last name)
    c.loop-index-test.false c.loop-index.invariant
