use Rattle.std.proofs.Common.{◌≡◌, ◌∙◌, ap, arith, subst, sym}
use Rattle.cqf_output.specs.Edge.{IsWritten, writing}
use Rattle.cqf_output.proofs.WriterLemmas.{IsWritten-written, Puts-as}
use Rattle.cqf_program_runs.specs.Deliveries.Text.{text_of_deliveries}
use Rattle.cqf_program_runs.specs.Deliveries.Ending.{Over, deliveries_over, over_of}
use Rattle.cqf_program_runs.specs.Deliveries.Following.{AreDeliveriesWritten, Ending, IsFollowed}
use Rattle.cqf_program_runs.proofs.deliveries.outputs.DeliveriesOutput.write.Goals as goal

pub put_deliveries-requires : goal.put_deliveries-requires
put_deliveries-requires g c = record {
  whole = c.self.invariant.whole;
  is = subst (λ (over : Over). IsFollowed over 0 c.self.inside.under_way) (sym (c.over.ensures c.self.invariant.whole)) c.self.invariant.followed;
}

pub returns : goal.returns
returns g c = λ text is_written.
    let own = c.self.inside in
    let ending : Ending = record { planned = own.planned; cycles = own.cycles; noted = own.noted; under_way = own.under_way } in
    let reported : AreDeliveriesWritten ending text = subst (λ (e : Ending). AreDeliveriesWritten e text) (sym c.self.view_is) is_written in
    let followed = subst (λ (over : Over). IsFollowed over 0 own.under_way) (sym (c.over.ensures reported.whole)) reported.followed in
    let put = Puts-as (text_of_deliveries (deliveries_over (over_of c.over.result reported.whole))) text
    (ap (λ (x : Over). text_of_deliveries (deliveries_over x)) (c.over.ensures reported.whole) ∙ sym reported.is) (c.put_deliveries.ensures reported.whole followed) in
    let done : IsWritten (writing g.W.Write.contents c.args.reported.now c.close-written.result.now) text =
    IsWritten-written g.W.Write.contents c.args.reported.now c.new-writer.result c.put_deliveries.new.writer c.close-written.result.now _
    c.new-writer.ensures.opens put c.close-written.ensures.closes in
    let names = c.close-written.ensures.same ∙ (c.put_deliveries.ensures reported.whole followed).same ∙ c.new-writer.ensures.same in
    grind (arith, done, names)
