use Rattle.std.proofs.Common.{◌∙◌, ◌+◌, ◌++◌, List, ap, arith, sym, take}
use Rattle.std.proofs.lemmas.Grind.{flat_map-append}
use Rattle.std.proofs.lemmas.List.{take_all}
use Rattle.cqf_model.specs.declared.frames.Offered.{Offered}
use Rattle.cqf_model.specs.Policing.{numbered}
use Rattle.cqf_instants_run.proofs.Offers.{numbered_all}
use Rattle.cqf_output.proofs.WriterLemmas.{Puts-as, Puts-then}
use Rattle.cqf_report.specs.Written.{line_of_fields}
use Rattle.cqf_program_runs.specs.declared.deliveries.delivery.Delivery.{Delivery}
use Rattle.cqf_program_runs.specs.Deliveries.Text.{delivery_fields, lines_of_deliveries}
use Rattle.cqf_program_runs.specs.Deliveries.Ending.{deliveries_among, over_of}
use Rattle.cqf_program_runs.proofs.OneMore.{among_more}
use Rattle.cqf_program_runs.proofs.deliveries.lines.put_all.Goals as goal

pub put_those_of-requires-clause-followed : goal.put_those_of-requires-clause-followed
put_those_of-requires-clause-followed g c =
    record { whole = c.requires.whole; is = (c.loop-index.invariant c.requires.whole c.requires.is).0 }

pub loop-index-preserved : goal.loop-index-preserved
loop-index-preserved g c = λ whole followed.
    let over = over_of c.args.ended.now whole in
    let index = c.loop-index.index in
    let so_far = c.loop-index.invariant whole followed in
    let done = deliveries_among over (take index (numbered over.offers)) in
    let here = c.as_slice.result.now in (
      c.put_those_of.ensures.next whole so_far.0,
      Puts-as (lines_of_deliveries done ++ lines_of_deliveries here) (lines_of_deliveries (deliveries_among over (take (index + 1) (numbered over.offers))))
          (sym (flat_map-append (λ (delivery : Delivery). line_of_fields (delivery_fields delivery)) done here)
          ∙ ap lines_of_deliveries (ap (λ (more : List Delivery). done ++ more) c.as_slice.ensures.value
          ∙ among_more over index c.put_those_of.new.here (omega (arith, c.loop-index-test.true)) (c.put_those_of.ensures.here whole so_far.0)))
          (Puts-then (lines_of_deliveries done) (lines_of_deliveries here) so_far.1 c.put_each.ensures),
    )

pub returns : goal.returns
returns g c = λ whole followed.
    let over = over_of c.args.ended.now whole in
    Puts-as _ _
    (ap (λ (xs : List Offered). lines_of_deliveries (deliveries_among over xs))
    (take_all c.loop-index.index (numbered over.offers) (omega (arith, c.loop-index-test.false, numbered_all over.offers))))
    (c.loop-index.invariant whole followed).1
