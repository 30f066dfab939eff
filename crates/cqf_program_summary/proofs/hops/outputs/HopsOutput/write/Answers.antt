use Rattle.std.proofs.Common.{◌≡◌, ◌∙◌, ℕ, List, ap, arith, subst, sym}
use Rattle.std.specs.Prelude.{vec_capacity}
use Rattle.cqf_instants.specs.Progress.{AreStartsOf, Progress}
use Rattle.cqf_output.specs.Edge.{IsWritten, writing}
use Rattle.cqf_output.proofs.WriterLemmas.{IsWritten-written, Puts-as}
use Rattle.cqf_program_summary.specs.Hops.Gathered.{wanted_by}
use Rattle.cqf_program_summary.specs.Hops.Prepared.{written_with}
use Rattle.cqf_program_summary.specs.Hops.Rounds.{AreWrittenLegs, CanBeWritten, SomeCanBeWritten, WrittenHops, written_by}
use Rattle.cqf_program_summary.specs.Hops.Text.{text_of_legs}
use Rattle.cqf_program_summary.proofs.hops.outputs.HopsOutput.write.Goals as goal

pub at_first-under_way-requires : goal.at_first-under_way-requires
at_first-under_way-requires g c = c.self.invariant.1.fresh

pub put_rounds-requires-clause-stands : goal.put_rounds-requires-clause-stands
put_rounds-requires-clause-stands g c = λ starts are.
    c.at_first-under_way.ensures.stands starts _ (subst (λ (p : Progress). AreStartsOf p.basis starts) c.at_first-under_way.ensures.same are)

pub put_rounds-requires-clause-can : goal.put_rounds-requires-clause-can
put_rounds-requires-clause-can g c =
    let first = c.at_first-under_way.ensures in
    let same : written_by c.self.inside.domain
    (record { offers = c.as_slice.result.now; wanted = wanted_by c.choice.result; drops = c.as_slice-2.result.now }) c.as_slice-3.result.now
    c.at_first-under_way.result.pass c.at_first-under_way.result.kept c.at_first-under_way.result.here
    ≡ written_with c.self.inside.domain c.self.inside.offers.items c.self.inside.prepared = λ i. record {
      domain = c.self.inside.domain;
      source = record { offers = c.as_slice.ensures.value i; wanted = c.choice.ensures i; drops = c.as_slice-2.ensures.value i };
      rounds = c.as_slice-3.ensures.value i;
      pass = first.same i;
      kept_room = first.kept_room i;
      here_room = first.here_room i;
    } in
    subst (λ (z : WrittenHops). SomeCanBeWritten z) (sym same) c.self.invariant

pub returns : goal.returns
returns g c = λ text reported.
    let o = c.args.self in
    let first = c.at_first-under_way.ensures in
    let W = g.W.Write.contents in
    let same : written_by c.self.inside.domain
    (record { offers = c.as_slice.result.now; wanted = wanted_by c.choice.result; drops = c.as_slice-2.result.now }) c.as_slice-3.result.now
    c.at_first-under_way.result.pass c.at_first-under_way.result.kept c.at_first-under_way.result.here ≡ o = (λ i. record {
      domain = c.self.inside.domain;
      source = record { offers = c.as_slice.ensures.value i; wanted = c.choice.ensures i; drops = c.as_slice-2.ensures.value i };
      rounds = c.as_slice-3.ensures.value i;
      pass = first.same i;
      kept_room = first.kept_room i;
      here_room = first.here_room i;
    }) ∙ c.self.view_is in
    let put =
    Puts-as (text_of_legs c.self.inside.domain c.as_slice.result.now reported.legs) text
    (ap (λ (z : WrittenHops). text_of_legs z.domain z.source.offers reported.legs) same ∙ sym reported.is)
    (c.put_rounds.ensures reported.starts reported.legs (subst (λ (z : WrittenHops). CanBeWritten reported.starts z) (sym same) reported.can)
    (subst (λ (z : WrittenHops). AreWrittenLegs reported.starts z reported.legs) (sym same) reported.are)) in
    let done : IsWritten (writing W c.args.reported.now c.close-written.result.now) text =
    IsWritten-written W c.args.reported.now c.new-writer.result c.put_rounds.new.writer c.close-written.result.now _ c.new-writer.ensures.opens put c.close-written.ensures.closes in
    let names = c.close-written.ensures.same ∙ put.same ∙ c.new-writer.ensures.same in
    grind (arith, done, names)
