use Rattle.std.proofs.Common.{◌≡◌, ◌∙◌, ◌+◌, ◌-◌, ℕ, List, Option, Some, ap, arith, length, refl, subst, sym}
use Rattle.std.specs.Prelude.{slice_get}
use Rattle.std.proofs.lemmas.Option.{slice_get_read}
use Rattle.cqf_instants_run.proofs.Covers.{numbered_at}
use Rattle.cqf_units.specs.Timing.{cycle_at}
use Rattle.cqf_units.specs.declared.timing.Nanos.{Nanos}
use Rattle.cqf_model.specs.declared.frames.Offer.{Offer}
use Rattle.cqf_model.specs.declared.frames.Offered.{Offered}
use Rattle.cqf_program_runs.specs.Deliveries.Ending.{deliveries_at, over_of}
use Rattle.cqf_program_runs.specs.Deliveries.UnderWay.{WritesUpTo, WritesWhole, row_at}
use Rattle.cqf_program_runs.proofs.FollowedOn.{first_writes, goes_on, writes_in_time}
use Rattle.cqf_program_runs.proofs.KeptSlots.{some_same}
use Rattle.cqf_program_runs.proofs.deliveries.made.put_those_of.Goals as goal

pub write_up_to-requires-clause-in_time : goal.write_up_to-requires-clause-in_time
write_up_to-requires-clause-in_time c =
    let followed = c.requires.followed in
    writes_in_time (over_of c.args.ended.now followed.whole) c.args.index c.args.under_way.now followed.is

pub returns-clause-here : goal.returns-clause-here
returns-clause-here c = λ whole followed x is.
    let ended = c.args.ended.now in
    let d = ended.domain.now in
    let over = over_of ended whole in
    let offers = ended.offers.now in
    let index = c.args.index in
    let offer : Offer = c.index-ended-index.result in
    let here : Offered = record { frame = index + 1; offer = offer } in
    let at : slice_get offers index ≡ Some offer = slice_get_read offers (length offers) index offer refl c.requires.there c.index-ended-index.is in
    let same : here ≡ x = some_same here x (sym (numbered_at offers index offer at) ∙ is) in
    let same_x : c.offered-x.result ≡ here =
    c.offered-x.ensures ∙ ap {B = Offered} (λ (o : Offer). record { frame = index + 1; offer = o }) (sym c.index-ended-index.is) in
    let last : c.from.result + c.from-2.result ≡ cycle_at d.cycle_time offer.at.0 + c.args.under_way.now.hop_number =
    (λ i. (c.from.ensures ∙ c.cycle_of-cycle.ensures ∙ (λ j. cycle_at (c.cycle_time.ensures.value j) (same_x j).offer.at.0)) i + c.from-2.ensures i) in
    let reports = subst (λ (n : ℕ). WritesUpTo d ended.rows.now ended.edge_verdicts.now index n c.args.under_way.now c.write_up_to.new.self) last c.write_up_to.ensures in
    let first = first_writes over index c.args.under_way.now c.write_up_to.new.self c.go_on.new.self offer at followed reports in
    let back : index ≡ index + 1 - 1 = omega arith in
    let reported : WritesWhole d (row_at ended.rows.now ended.edge_verdicts.now (c.offered-x.result.frame - 1)) c.first.result.now (whole c.offered-x.result.frame) =
    subst (λ (y : Offered). WritesWhole d (row_at ended.rows.now ended.edge_verdicts.now (y.frame - 1)) c.first.result.now (whole y.frame)) (sym same_x)
    (subst (λ (k : ℕ). WritesWhole d (row_at ended.rows.now ended.edge_verdicts.now k) c.first.result.now (whole (index + 1))) back
    (subst (λ (slot : List (Option Nanos)). WritesWhole d (row_at ended.rows.now ended.edge_verdicts.now index) slot (whole (index + 1))) (sym c.first.ensures) first)) in
    c.put_offer.ensures whole reported ∙ ap (deliveries_at over) (same_x ∙ same)

pub returns-clause-next : goal.returns-clause-next
returns-clause-next c = λ whole followed.
    let ended = c.args.ended.now in
    let d = ended.domain.now in
    let over = over_of ended whole in
    let offers = ended.offers.now in
    let index = c.args.index in
    let offer : Offer = c.index-ended-index.result in
    let at : slice_get offers index ≡ Some offer = slice_get_read offers (length offers) index offer refl c.requires.there c.index-ended-index.is in
    let same_x : c.offered-x.result ≡ record { frame = index + 1; offer = offer } =
    c.offered-x.ensures ∙ ap {B = Offered} (λ (o : Offer). record { frame = index + 1; offer = o }) (sym c.index-ended-index.is) in
    let last : c.from.result + c.from-2.result ≡ cycle_at d.cycle_time offer.at.0 + c.args.under_way.now.hop_number =
    (λ i. (c.from.ensures ∙ c.cycle_of-cycle.ensures ∙ (λ j. cycle_at (c.cycle_time.ensures.value j) (same_x j).offer.at.0)) i + c.from-2.ensures i) in
    let reports = subst (λ (n : ℕ). WritesUpTo d ended.rows.now ended.edge_verdicts.now index n c.args.under_way.now c.write_up_to.new.self) last c.write_up_to.ensures in
    goes_on over index c.args.under_way.now c.write_up_to.new.self c.go_on.new.self offer at followed reports c.go_on.ensures
