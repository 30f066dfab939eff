use Rattle.std.proofs.Common.{◌∙◌, ap, arith, map, subst, sym}
use Rattle.std.specs.Prelude.{List}
use Rattle.cqf_admission.specs.Asking.{asked_paced}
use Rattle.cqf_admission.specs.Running.{AreThere}
use Rattle.cqf_admission.specs.declared.logs.Logged.{Logged}
use Rattle.cqf_output.specs.Edge.{IsWritten, writing}
use Rattle.cqf_output.proofs.WriterLemmas.{IsWritten-written, Puts-as}
use Rattle.cqf_program_scenario.specs.Logged.{entries_in}
use Rattle.cqf_program_runs.specs.Run.Output.{run_text}
use Rattle.cqf_program_runs.specs.Run.Written.{IsRunWritten, RunToWrite}
use Rattle.cqf_program_runs.proofs.run.outputs.RunOutput.write.Goals as goal

pub put_run-requires : goal.put_run-requires
put_run-requires g c =
    let given = c.self.inside.given in
    subst (λ (entries : List Logged). AreThere (map asked_paced given.requests.items) given.script.items entries) (sym c.as_slice.ensures.value)
    c.self.invariant

pub returns : goal.returns
returns g c = λ text is_written.
    let own = c.self.inside in
    let output : RunToWrite = record { given = own.given; entries = own.entries.items; book = own.book } in
    let reported : IsRunWritten output text = subst (λ (o : RunToWrite). IsRunWritten o text) (sym c.self.view_is) is_written in
    let of_parts = c.put_run.ensures reported.0 reported.1 in
    let put = Puts-as (run_text own.given.domain (entries_in own.given c.as_slice.result.now) reported.0) text
    (ap (λ (entries : List Logged). run_text own.given.domain (entries_in own.given entries) reported.0) c.as_slice.ensures.value ∙ sym reported.2) of_parts in
    let done : IsWritten (writing g.W.Write.contents c.args.reported.now c.close-written.result.now) text =
    IsWritten-written g.W.Write.contents c.args.reported.now c.new-writer.result c.put_run.new.writer c.close-written.result.now _
    c.new-writer.ensures.opens put c.close-written.ensures.closes in
    let names = c.close-written.ensures.same ∙ of_parts.same ∙ c.new-writer.ensures.same in
    grind (arith, done, names)
