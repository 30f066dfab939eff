use Rattle.std.proofs.Common.{◌≡◌, ◌∙◌, Some, length, refl, sym, ap, subst, arith}
use Rattle.std.specs.Option.{option_copied}
use Rattle.std.specs.Prelude.{slice_get}
use Rattle.std.proofs.lemmas.Option.{slice_get_read}
use Rattle.cqf_model.specs.declared.topology.Row.{Row}
use Rattle.cqf_model.specs.Table.{is_held}
use Rattle.cqf_instants_run.specs.Begun.{HaveNone, IsInForce, IsLastBegun, IsLastOf}
use Rattle.cqf_instants_run.proofs.LastRows.{last_once, none_last, one_there}
use Rattle.cqf_instants_run.proofs.begun.find_in_force.Goals as goal

pub returns-in_err-index : goal.returns-in_err-index
returns-in_err-index c =
    let rows = c.args.begun.now.rows.now in
    let none : HaveNone rows c.args.begun.now.count c.args.name.now =
    subst (IsLastBegun rows c.args.begun.now.count c.args.name.now) (sym c.get.ensures.value ∙ ap option_copied c.in_err-index.was)
    (c.requires.leads c.args.name.now) in
    subst (IsInForce rows c.args.begun.now.count c.args.name.now c.args.cycle.0) (sym c.from_residual.ensures)
    (λ index last. absurd (none_last rows c.args.begun.now.count c.args.name.now index none last))

pub prove-unreachable-requires : goal.prove-unreachable-requires
prove-unreachable-requires c =
    let last : IsLastOf c.args.begun.now.rows.now c.args.begun.now.count c.args.name.now c.in_ok-index.field-0.now =
    subst (IsLastBegun c.args.begun.now.rows.now c.args.begun.now.count c.args.name.now) (sym c.get.ensures.value ∙ ap option_copied c.in_ok-index.was)
    (c.requires.leads c.args.name.now) in
    omega (arith, c.if-prove.true, last.below, c.requires.within)

pub returns-then-is_held : goal.returns-then-is_held
returns-then-is_held c =
    let rows = c.args.begun.now.rows.now in
    let index = c.in_ok-index.field-0.now in
    let last : IsLastOf rows c.args.begun.now.count c.args.name.now index =
    subst (IsLastBegun rows c.args.begun.now.count c.args.name.now) (sym c.get.ensures.value ∙ ap option_copied c.in_ok-index.was)
    (c.requires.leads c.args.name.now) in
    let at : slice_get rows index ≡ Some c.index-rows-index.result =
    slice_get_read rows (length rows) index c.index-rows-index.result refl c.if-prove.false c.index-rows-index.is in
    record {
      last = last;
      held = ap (λ (r : Row). is_held r c.args.cycle.0) (one_there rows index last.row c.index-rows-index.result last.is at)
          ∙ sym c.is_held.ensures ∙ c.if-is_held.true;
    }

pub returns-else-is_held : goal.returns-else-is_held
returns-else-is_held c =
    let rows = c.args.begun.now.rows.now in
    let index = c.in_ok-index.field-0.now in
    let last : IsLastOf rows c.args.begun.now.count c.args.name.now index =
    subst (IsLastBegun rows c.args.begun.now.count c.args.name.now) (sym c.get.ensures.value ∙ ap option_copied c.in_ok-index.was)
    (c.requires.leads c.args.name.now) in
    let at : slice_get rows index ≡ Some c.index-rows-index.result =
    slice_get_read rows (length rows) index c.index-rows-index.result refl c.if-prove.false c.index-rows-index.is in
    λ other also.
    ap (λ (r : Row). is_held r c.args.cycle.0) (last_once rows c.args.begun.now.count c.args.name.now other index also last
    ∙ one_there rows index last.row c.index-rows-index.result last.is at)
    ∙ sym c.is_held.ensures ∙ c.if-is_held.false
