use Rattle.std.proofs.Common.{◌≡◌, ◌∙◌, ◌-◌, ◌<◌, [], Bool, Option, Some, ap, arith, if◌then◌else◌, nat_lt, subst, sym, true}
use Rattle.std.specs.Option.{option_and_then}
use Rattle.std.specs.Prelude.{slice_get}
use Rattle.std.proofs.lemmas.Bool.Decides.{nat_tests}
use Rattle.std.proofs.lemmas.Option.{get_or_from_slice_get}
use Rattle.cqf_instants_run.specs.Coverage.{verdict_of}
use Rattle.cqf_instants_run.specs.declared.judged.EdgeVerdict.{EdgeVerdict}
use Rattle.cqf_instants_run.specs.declared.judged.EdgeVerdict.TheVariants.{Dropped}
use Rattle.cqf_instants_run.specs.Columns.{verdict_at}
use Rattle.cqf_model.specs.declared.frames.Reason.TheVariants.{Unknown}
use Rattle.cqf_model.specs.Shift.{offer_cycle}
use Rattle.cqf_program_runs.specs.Deliveries.ByVerdict.{deliveries_for}
use Rattle.cqf_program_runs.specs.Deliveries.Ending.{known_over, over_of}
use Rattle.cqf_program_runs.specs.Deliveries.UnderWay.{WritesWhole, row_judged}
use Rattle.cqf_program_runs.specs.declared.deliveries.delivery.Delivery.{Delivery}
use Rattle.std.proofs.Common.{List}
use Rattle.cqf_program_runs.proofs.deliveries.made.put_offer.Goals as goal

pub returns : goal.returns
returns c = λ whole reports.
    let ended = c.args.ended.now in
    let d = ended.domain.now in
    let rows = ended.rows.now in
    let edge_verdicts = ended.edge_verdicts.now in
    let x = c.args.x.now in
    let known = known_over (over_of ended whole) in
    let edge_verdict = c.edge_verdict_there-edge_verdict.result in
    let at : slice_get edge_verdicts (x.frame - 1) ≡ Some edge_verdict = c.edge_verdict_there-edge_verdict.ensures in
    let reported : WritesWhole d (row_judged rows edge_verdict) c.args.slot.now (whole x.frame) =
    subst (λ (o : Option EdgeVerdict). WritesWhole d (option_and_then (row_judged rows) o) c.args.slot.now (whole x.frame)) at reports in
    let less : offer_cycle d x < ended.cycles = omega (arith, c.if-cycle-ended.false, c.requires.cycle) in
    let is_run : nat_lt (offer_cycle d x) ended.cycles ≡ true = grind (arith, nat_tests) in
    let verdict : verdict_of rows (offer_cycle d x) edge_verdict ≡ verdict_at d rows edge_verdicts x =
    ap (verdict_of rows (offer_cycle d x)) (sym (get_or_from_slice_get edge_verdicts (x.frame - 1) edge_verdict (Dropped Unknown) at)) in
    c.put_judged.ensures whole reported
    ∙ ap (deliveries_for d known x) verdict
    ∙ sym (ap {B = List Delivery} (λ (b : Bool). if b then deliveries_for d known x (verdict_at d rows edge_verdicts x) else []) is_run)
