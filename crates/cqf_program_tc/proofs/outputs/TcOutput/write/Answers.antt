use Rattle.std.proofs.Common.{◌≡◌, ◌∙◌, List, ap, arith, sym}
use Rattle.cqf_addressing.specs.Streams.{gate_index}
use Rattle.cqf_addressing.specs.declared.streams.StreamAddress.{StreamAddress}
use Rattle.cqf_model.specs.declared.topology.Row.{Row}
use Rattle.cqf_model.specs.Domain.{Domain}
use Rattle.cqf_output.specs.Edge.{IsWritten, writing}
use Rattle.cqf_output.proofs.WriterLemmas.{IsWritten-written, Puts-as}
use Rattle.cqf_program_tc.specs.Output.{text_of_tc}
use Rattle.cqf_program_tc.specs.Rows.{indices_in}
use Rattle.cqf_program_tc.specs.Text.{tc_text}
use Rattle.cqf_program_tc.specs.Words.{gate_words}
use Rattle.cqf_program_tc.proofs.Ready.{ready_as}
use Rattle.cqf_program_tc.proofs.outputs.TcOutput.write.Goals as goal

pub put_script-requires-clause-ready : goal.put_script-requires-clause-ready
put_script-requires-clause-ready g c =
    let plan = c.self.inside.plan in
    let lent = c.as_plan.result in
    ready_as plan.domain lent.domain.now plan.rows.items lent.rows.now (indices_in plan.indices.items) (indices_in c.as_slice.result.now)
    plan.links.items lent.links.now plan.streams.items lent.streams.now
    c.as_plan.ensures.domain c.as_plan.ensures.rows (ap indices_in c.as_slice.ensures.value) c.as_plan.ensures.links c.as_plan.ensures.streams
    c.self.invariant.plan

pub put_script-requires-clause-words : goal.put_script-requires-clause-words
put_script-requires-clause-words g c =
    c.as_slice-2.ensures.value ∙ c.self.invariant.words ∙ sym (ap (λ (d : Domain). gate_words d.cycle_time) c.as_plan.ensures.domain)

pub returns : goal.returns
returns g c =
    let plan = c.self.inside.plan in
    let lent = c.as_plan.result in
    let software = c.self.inside.software in
    let same : tc_text lent.domain.now software (gate_index lent.addresses.now) lent.rows.now ≡ text_of_tc c.args.self =
    ap (λ (d : Domain). tc_text d software (gate_index lent.addresses.now) lent.rows.now) c.as_plan.ensures.domain
    ∙ ap (λ (addresses : List StreamAddress). tc_text plan.domain software (gate_index addresses) lent.rows.now) c.as_plan.ensures.addresses
    ∙ ap (λ (rows : List Row). tc_text plan.domain software (gate_index plan.addresses.items) rows) c.as_plan.ensures.rows
    ∙ ap text_of_tc c.self.view_is in
    let put = Puts-as (tc_text lent.domain.now software (gate_index lent.addresses.now) lent.rows.now) (text_of_tc c.args.self) same c.put_script.ensures in
    let done : IsWritten (writing g.W.Write.contents c.args.written.now c.close-written.result.now) (text_of_tc c.args.self) =
    IsWritten-written g.W.Write.contents c.args.written.now c.new-writer.result c.put_script.new.writer c.close-written.result.now _
    c.new-writer.ensures.opens put c.close-written.ensures.closes in
    let names = c.close-written.ensures.same ∙ c.put_script.ensures.same ∙ c.new-writer.ensures.same in
    grind (arith, done, names)
