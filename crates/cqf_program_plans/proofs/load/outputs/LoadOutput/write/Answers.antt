use Rattle.std.proofs.Common.{◌∙◌, ap, arith}
use Rattle.cqf_output.specs.Edge.{IsWritten, writing}
use Rattle.cqf_output.proofs.WriterLemmas.{IsWritten-written, Puts-as, Puts-then}
use Rattle.cqf_program_plans.specs.Load.Access.{lines_of_access}
use Rattle.cqf_program_plans.specs.Load.Text.{load_text}
use Rattle.cqf_program_plans.specs.Load.Written.{text_of_load}
use Rattle.cqf_program_plans.proofs.load.outputs.LoadOutput.write.Goals as goal

pub returns : goal.returns
returns g c =
    let inside = c.self.inside in
    let access = Puts-as (lines_of_access c.as_slice.result.now) (lines_of_access inside.access.items) (ap lines_of_access c.as_slice.ensures.value)
    c.put_all_access.ensures in
    let both = Puts-then (load_text inside.domain inside.listing) (lines_of_access inside.access.items) c.put_load.ensures access in
    let put = Puts-as _ (text_of_load c.args.self) (ap text_of_load c.self.view_is) both in
    let done : IsWritten (writing g.W.Write.contents c.args.reported.now c.close-written.result.now) (text_of_load c.args.self) =
    IsWritten-written g.W.Write.contents c.args.reported.now c.new-writer.result c.put_all_access.new.writer c.close-written.result.now _
    c.new-writer.ensures.opens put c.close-written.ensures.closes in
    let names = c.close-written.ensures.same ∙ c.put_all_access.ensures.same ∙ c.put_load.ensures.same ∙ c.new-writer.ensures.same in
    grind (arith, done, names)
