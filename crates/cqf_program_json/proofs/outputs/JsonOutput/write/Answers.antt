use Rattle.std.proofs.Common.{◌≡◌, ◌∙◌, List, ap, arith, subst, sym}
use Rattle.cqf_admission.specs.ActiveCycles.{AreOfGoodPaces}
use Rattle.cqf_model.specs.declared.topology.Row.{Row}
use Rattle.cqf_output.specs.Edge.{IsWritten, writing}
use Rattle.cqf_output.proofs.WriterLemmas.{IsWritten-written, Puts-as}
use Rattle.cqf_program_json.specs.Output.{text_of_json}
use Rattle.cqf_program_json.specs.Text.{json_text}
use Rattle.cqf_program_json.proofs.outputs.JsonOutput.write.Goals as goal

-- the rows that are passed on have good paces
pub put_object-requires-clause-paced : goal.put_object-requires-clause-paced
put_object-requires-clause-paced g c =
    subst (λ (rows : List Row). AreOfGoodPaces rows) (sym c.as_slice-3.ensures.value) c.self.invariant.paced

pub returns : goal.returns
returns g c =
    let d = c.self.inside.domain in
    let same : json_text d c.as_slice.result.now c.as_slice-2.result.now c.as_slice-3.result.now
    ≡ json_text d c.self.inside.addresses.items c.self.inside.links.items c.self.inside.rows.items =
    λ i. json_text d (c.as_slice.ensures.value i) (c.as_slice-2.ensures.value i) (c.as_slice-3.ensures.value i) in
    let put = Puts-as _ (text_of_json c.args.self) (same ∙ ap text_of_json c.self.view_is) c.put_object.ensures in
    let done : IsWritten (writing g.W.Write.contents c.args.written.now c.close-written.result.now) (text_of_json c.args.self) =
    IsWritten-written g.W.Write.contents c.args.written.now c.new-writer.result c.put_object.new.writer c.close-written.result.now _
    c.new-writer.ensures.opens put c.close-written.ensures.closes in
    let names = c.close-written.ensures.same ∙ c.put_object.ensures.same ∙ c.new-writer.ensures.same in
    grind (arith, done, names)
