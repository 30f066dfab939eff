use Rattle.std.proofs.Common.{◌∙◌, ap, arith}
use Rattle.cqf_output.specs.Edge.{IsWritten, writing}
use Rattle.cqf_output.proofs.WriterLemmas.{IsWritten-written, Puts-as}
use Rattle.cqf_compile.specs.ConfigText.{config_text}
use Rattle.cqf_program_plans.specs.Compile.Written.{text_of_config}
use Rattle.cqf_program_plans.proofs.compile.outputs.ConfigOutput.write.Goals as goal

pub returns : goal.returns
returns g c =
    let put = Puts-as (config_text c.self.inside.plan c.as_slice.result.now) (text_of_config c.args.self)
    (ap (config_text c.self.inside.plan) c.as_slice.ensures.value ∙ ap text_of_config c.self.view_is)
    c.put_config.ensures in
    let done : IsWritten (writing g.W.Write.contents c.args.reported.now c.close-written.result.now) (text_of_config c.args.self) =
    IsWritten-written g.W.Write.contents c.args.reported.now c.new-writer.result c.put_config.new.writer c.close-written.result.now _
    c.new-writer.ensures.opens put c.close-written.ensures.closes in
    let names = c.close-written.ensures.same ∙ c.put_config.ensures.same ∙ c.new-writer.ensures.same in
    grind (arith, done, names)
