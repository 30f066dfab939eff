use Rattle.std.proofs.Common.{◌≡◌, ◌∙◌, ◌<◌, ◌++◌, List, None, Some, ap, arith, find, length, option_copied, subst, sym, take}
use Rattle.std.proofs.lemmas.List.{take_all}
use Rattle.std.proofs.lemmas.Result.{IfErr-weaker, IfOk-weaker}
use Rattle.cqf_instants_run.proofs.Offers.{numbered_all}
use Rattle.cqf_lists.proofs.Members.{find_member}
use Rattle.cqf_model.specs.declared.frames.Offered.{Offered}
use Rattle.cqf_model.specs.Policing.{numbered}
use Rattle.cqf_program_runs.specs.declared.deliveries.delivery.Delivery.{Delivery}
use Rattle.cqf_program_runs.specs.Check.Checked.{complaint_line, counts_of, finished}
use Rattle.cqf_program_runs.specs.Check.Counting.{NoneBad, checked_over}
use Rattle.cqf_program_runs.specs.Deliveries.Ending.{deliveries_among, deliveries_over, over_of}
use Rattle.cqf_program_runs.proofs.Counted.{ends_it, first_bad_of_all, none_bad_more}
use Rattle.cqf_program_runs.proofs.OneMore.{among_more}
use Rattle.cqf_program_runs.proofs.Written.{IsRefused-line, IsRefused-same, checked_none, checked_some}
use Rattle.cqf_program_runs.proofs.deliveries.command.check_each.Goals as goal

pub put_those_of-requires-clause-followed : goal.put_those_of-requires-clause-followed
put_those_of-requires-clause-followed c =
    record { whole = c.requires.whole; is = (c.loop-index.invariant c.requires.whole c.requires.is).0 }

pub with-counts-requires-clause-early : goal.with-counts-requires-clause-early
with-counts-requires-clause-early c =
    let before = (c.loop-index.invariant c.requires.whole c.requires.is).1.before in
    let few = c.requires.is.is_over.few in
    record {
      under_way = omega (arith, before.under_way, c.loop-index-test.true, few);
      delivered = omega (arith, before.delivered, c.loop-index-test.true, few);
      timed = omega (arith, before.timed, c.loop-index-test.true, few);
    }

pub complaint_stop-requires : goal.complaint_stop-requires
complaint_stop-requires c =
    (find_member ends_it c.as_slice.result.now c.in-Some.delivery.now (sym c.first_bad.ensures ∙ ap option_copied c.in-Some.is)).1

pub returns-in-Some-clause-err : goal.returns-in-Some-clause-err
returns-in-Some-clause-err c = λ whole followed.
    let over = over_of c.args.ended.now whole in
    let index = c.loop-index.index in
    let so_far = c.loop-index.invariant whole followed in
    let bad = c.in-Some.delivery.now in
    let within : index < length over.offers = omega (arith, c.loop-index-test.true) in
    let found : find ends_it c.put_those_of.new.here ≡ Some bad =
    ap (find ends_it) (sym c.as_slice.ensures.value) ∙ sym c.first_bad.ensures ∙ ap option_copied c.in-Some.is in
    IsRefused-line (checked_over over c.args.offers) (complaint_line bad) _
    (checked_some (deliveries_over over) (counts_of c.args.offers (deliveries_over over)) bad
    (first_bad_of_all over index c.put_those_of.new.here within (c.put_those_of.ensures.here whole so_far.0) so_far.1.well bad found))
    c.complaint_stop.ensures

pub loop-index-preserved : goal.loop-index-preserved
loop-index-preserved c = λ whole followed.
    let over = over_of c.args.ended.now whole in
    let index = c.loop-index.index in
    let here = c.put_those_of.new.here in
    let is_followed = (c.loop-index.invariant whole followed).0 in
    let so_far = (c.loop-index.invariant whole followed).1 in
    let are = c.put_those_of.ensures.here whole is_followed in
    let done = deliveries_among over (take index (numbered over.offers)) in
    let within : index < length over.offers = omega (arith, c.loop-index-test.true) in
    let found : find ends_it here ≡ None =
    ap (find ends_it) (sym c.as_slice.ensures.value) ∙ sym c.first_bad.ensures ∙ ap option_copied c.in_default.is in (
      c.put_those_of.ensures.next whole is_followed,
      record {
        well = none_bad_more over index here within are so_far.well found;
        counted = c.with-counts.ensures.counts c.args.offers done so_far.counted
            ∙ ap (λ (more : List Delivery). counts_of c.args.offers (done ++ more)) c.as_slice-in-loop-index.ensures.value
            ∙ ap (counts_of c.args.offers) (among_more over index here within are);
        before = c.with-counts.ensures.more index so_far.before;
      },
    )

pub returns-clause-ok : goal.returns-clause-ok
returns-clause-ok c =
    IfOk-weaker c.finish.result _ _
    (λ line reported. λ whole followed.
    let over = over_of c.args.ended.now whole in
    let so_far = (c.loop-index.invariant whole followed).1 in
    let all : take c.loop-index.index (numbered over.offers) ≡ numbered over.offers =
    take_all c.loop-index.index (numbered over.offers) (omega (arith, c.loop-index-test.false, numbered_all over.offers)) in
    let well : NoneBad (deliveries_over over) = subst (λ (xs : List Offered). NoneBad (deliveries_among over xs)) all so_far.well in
    let counted = so_far.counted ∙ ap (λ (xs : List Offered). counts_of c.args.offers (deliveries_among over xs)) all in
    checked_none (deliveries_over over) (counts_of c.args.offers (deliveries_over over)) well ∙ ap finished (sym counted) ∙ reported)
    c.finish.ensures.ok

pub returns-clause-err : goal.returns-clause-err
returns-clause-err c =
    IfErr-weaker c.finish.result _ _
    (λ stop refused. λ whole followed.
    let over = over_of c.args.ended.now whole in
    let so_far = (c.loop-index.invariant whole followed).1 in
    let all : take c.loop-index.index (numbered over.offers) ≡ numbered over.offers =
    take_all c.loop-index.index (numbered over.offers) (omega (arith, c.loop-index-test.false, numbered_all over.offers)) in
    let well : NoneBad (deliveries_over over) = subst (λ (xs : List Offered). NoneBad (deliveries_among over xs)) all so_far.well in
    let counted = so_far.counted ∙ ap (λ (xs : List Offered). counts_of c.args.offers (deliveries_among over xs)) all in
    IsRefused-same (checked_over over c.args.offers) (finished c.loop-index.counts) stop
    (checked_none (deliveries_over over) (counts_of c.args.offers (deliveries_over over)) well ∙ ap finished (sym counted)) refused)
    c.finish.ensures.err
