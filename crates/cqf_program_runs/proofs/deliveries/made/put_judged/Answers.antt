use Rattle.std.proofs.Common.{◌≡◌, ◌∙◌, ℕ, None, Option, Some, ap, option_copied, subst, sym}
use Rattle.std.specs.Prelude.{slice_get}
use Rattle.cqf_instants_run.specs.Coverage.{queued_as, verdict_of}
use Rattle.cqf_model.specs.declared.topology.Row.{Row}
use Rattle.cqf_model.specs.Shift.{offer_cycle}
use Rattle.cqf_program_runs.specs.Deliveries.ByVerdict.{deliveries_for}
use Rattle.cqf_program_runs.specs.Deliveries.{deliveries_to}
use Rattle.cqf_program_runs.specs.Deliveries.Ending.{known_over, over_of}
use Rattle.cqf_program_runs.specs.Deliveries.UnderWay.{WritesWhole, row_judged}
use Rattle.cqf_program_runs.proofs.SlotsWrite.{deliveries_kept}
use Rattle.cqf_program_runs.proofs.deliveries.made.put_judged.Goals as goal

pub returns-in-Some : goal.returns-in-Some
returns-in-Some c = λ whole reports.
    let ended = c.args.ended.now in
    let d = ended.domain.now in
    let rows = ended.rows.now in
    let x = c.args.x.now in
    let row = c.in-Some.row.now in
    let at : slice_get rows c.in-Covered.index ≡ Some row = sym c.row_there.ensures ∙ ap option_copied c.in-Some.is in
    let cycle = offer_cycle d x in
    let reported : WritesWhole d (Some row) c.args.slot.now (whole x.frame) =
    subst (λ (o : Option Row). WritesWhole d o c.args.slot.now (whole x.frame)) (ap (row_judged rows) c.in-Covered.is ∙ at) reports in
    c.put_to_listeners.ensures
    ∙ deliveries_kept d row c.args.slot.now (whole x.frame) c.args.deadline x reported
    ∙ ap (λ (deadline : Option ℕ). deliveries_to d (whole x.frame) deadline x row) c.requires.due
    ∙ sym (ap (deliveries_for d (known_over (over_of ended whole)) x) (ap (verdict_of rows cycle) c.in-Covered.is ∙ ap (queued_as cycle) at))

pub returns-in_default : goal.returns-in_default
returns-in_default c = λ whole reports.
    let ended = c.args.ended.now in
    let d = ended.domain.now in
    let rows = ended.rows.now in
    let x = c.args.x.now in
    let at : slice_get rows c.in-Covered.index ≡ None = sym c.row_there.ensures ∙ ap option_copied c.in_default.is in
    let cycle = offer_cycle d x in
    c.requires.empty
    ∙ sym (ap (deliveries_for d (known_over (over_of ended whole)) x) (ap (verdict_of rows cycle) c.in-Covered.is ∙ ap (queued_as cycle) at))
