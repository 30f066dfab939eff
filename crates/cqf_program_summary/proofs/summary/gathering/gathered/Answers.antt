use Rattle.std.proofs.Common.{◌≡◌, ◌∙◌, ◌+◌, ◌-◌, ◌*◌, ◌≤◌, ◌<◌, ℕ, List, nat_lt, Some, ap, arith, get_or, length, refl, subst, sym}
use Rattle.std.specs.Prelude.{slice_get}
use Rattle.std.proofs.lemmas.List.{take_all}
use Rattle.std.proofs.lemmas.Option.{slice_get_read}
use Rattle.cqf_instants_run.proofs.Offers.{numbered_all}
use Rattle.cqf_instants_run.proofs.Covers.{numbered_at}
use Rattle.cqf_units.specs.Timing.{cycle_at}
use Rattle.cqf_model.specs.declared.frames.Offer.{Offer}
use Rattle.cqf_model.specs.declared.frames.Offered.{Offered}
use Rattle.cqf_model.specs.Policing.{numbered}
use Rattle.cqf_program_runs.specs.declared.deliveries.delivery.Delivery.{Delivery}
use Rattle.cqf_program_runs.specs.Deliveries.Ending.{deliveries_among, deliveries_at, over_of}
use Rattle.cqf_program_summary.specs.Summary.Counting.{SummaryWithin, summary_with}
use Rattle.cqf_program_summary.specs.Summary.{offers_within, summary_by}
use Rattle.cqf_program_summary.specs.Summary.Written.{written_streams}
use Rattle.cqf_program_summary.proofs.OneMore.{is_run_more, not_run_more}
use Rattle.cqf_program_summary.proofs.Within.{summary_later}
use Rattle.cqf_program_summary.proofs.summary.gathering.gathered.Goals.{else-is_run, then-is_run}
use Rattle.cqf_program_summary.proofs.summary.gathering.gathered.Goals as goal

pub put_those_of-requires-clause-followed : goal.put_those_of-requires-clause-followed
put_those_of-requires-clause-followed c =
    record { whole = c.requires.followed.whole; is = (c.loop-index.invariant.so_far c.requires.followed.whole c.requires.followed.is).0 }

pub add-requires-clause-within : goal.add-requires-clause-within
add-requires-clause-within c =
    let offers = c.args.ended.now.offers.now in
    let index = c.loop-index.index in
    let few : length offers ≤ 16777215 = c.requires.followed.is.is_over.few in
    let inside : index < length offers = omega (arith, c.loop-index-test.true) in
    let rest = 3372220014 - 201 * index in
    let all : 201 * index + rest ≡ 3372220014 = omega arith in
    subst (λ (k : ℕ). SummaryWithin k c.loop-index.sums) all
    (summary_later (201 * index) rest c.loop-index.sums c.loop-index.invariant.within)

pub loop-index-preserved : goal.loop-index-preserved
loop-index-preserved c =
    let offers = c.args.ended.now.offers.now in
    let index = c.loop-index.index in
    let offer = c.index-ended-index.result in
    let here = c.put_those_of.new.here in
    let x : Offered = record { frame = index + 1; offer = offer } in
    let inside : index < length offers = omega (arith, c.loop-index-test.true) in
    let read : slice_get offers index ≡ Some offer = slice_get_read offers (length offers) index offer refl inside c.index-ended-index.is in
    let at : slice_get (numbered offers) index ≡ Some x = numbered_at offers index offer read in
    let next : 201 * index + 201 ≡ 201 * (index + 1) = omega arith in
    elim c.if-is_run.branch [
      | then-is_run w ↦ record {
        within = subst (SummaryWithin (201 * (index + 1))) (sym w.sums-is)
            (subst (λ (k : ℕ). SummaryWithin k w.add.new.self) next (w.add.ensures.more (201 * index) c.loop-index.invariant.within));
        so_far = λ whole followed.
            let over = over_of c.args.ended.now whole in
            let before = c.loop-index.invariant.so_far whole followed in
            let are = c.put_those_of.ensures.here whole before.0 in
            let is_here : here ≡ deliveries_at over x = are x at in (
              c.put_those_of.ensures.next whole before.0,
              λ streams due first.
                  w.sums-is
                  ∙ w.add.ensures.sums
                  ∙ ap (λ (ds : List Delivery). summary_with (get_or offers index offer).stream ds c.loop-index.sums) w.as_slice.ensures.value
                  ∙ ap (λ (o : Offer). summary_with o.stream here c.loop-index.sums) (sym c.index-ended-index.is)
                  ∙ is_run_more over streams due index x at here is_here inside are c.loop-index.sums
                  (ap (λ (o : Offer). nat_lt (cycle_at over.domain.cycle_time o.at.0) over.cycles) c.index-ended-index.is ∙ sym c.is_run.ensures ∙ w.if-is_run.true)
                  (before.1 streams due first),
            );
      }
      | else-is_run w ↦ record {
        within = subst (SummaryWithin (201 * (index + 1))) (sym w.sums-is)
            (subst (λ (k : ℕ). SummaryWithin k c.loop-index.sums) next (summary_later (201 * index) 201 c.loop-index.sums c.loop-index.invariant.within));
        so_far = λ whole followed.
            let over = over_of c.args.ended.now whole in
            let before = c.loop-index.invariant.so_far whole followed in
            let are = c.put_those_of.ensures.here whole before.0 in
            let is_here : here ≡ deliveries_at over x = are x at in (
              c.put_those_of.ensures.next whole before.0,
              λ streams due first.
                  w.sums-is
                  ∙ not_run_more over streams due index x at here is_here inside are c.loop-index.sums
                  (ap (λ (o : Offer). nat_lt (cycle_at over.domain.cycle_time o.at.0) over.cycles) c.index-ended-index.is ∙ sym c.is_run.ensures ∙ w.if-is_run.false)
                  (before.1 streams due first),
            );
      }
    ]

pub returns : goal.returns
returns c = λ whole followed streams due first.
    let over = over_of c.args.ended.now whole in
    (c.loop-index.invariant.so_far whole followed).1 streams due first
    ∙ ap (λ (xs : List Offered). summary_by over.domain (written_streams streams) due (offers_within over.domain over.cycles xs) (deliveries_among over xs))
    (take_all c.loop-index.index (numbered over.offers) (omega (arith, c.loop-index-test.false, numbered_all over.offers)))
