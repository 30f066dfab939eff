use Rattle.std.proofs.Common.{◌∙◌, List, ap, arith, map}
use Rattle.cqf_model.specs.Port.{Transmission}
use Rattle.cqf_model.specs.declared.ports.Arrival.{Arrival}
use Rattle.cqf_port.specs.PortState.{start_of}
use Rattle.cqf_output.specs.Edge.{IsWritten, writing}
use Rattle.cqf_output.proofs.WriterLemmas.{IsWritten-written, Puts-as}
use Rattle.cqf_report.specs.Starts.{text_of_starts}
use Rattle.cqf_units.specs.Timing.{ticks_of_octet}
use Rattle.cqf_program_plans.specs.Port.Written.{text_of_port}
use Rattle.cqf_program_plans.proofs.port.outputs.PortOutput.write.Goals as goal

pub returns : goal.returns
returns g c =
    let text = λ (arrivals : List Arrival) (starts : List Transmission). text_of_starts (ticks_of_octet c.self.inside.rate) (map (start_of arrivals) starts) in
    let put = Puts-as (text c.arrivals.result.now c.starts.result.now) (text_of_port c.args.self)
    (ap (λ (arrivals : List Arrival). text arrivals c.starts.result.now) c.arrivals.ensures ∙ ap (text c.self.inside.port.arrivals) c.starts.ensures
    ∙ ap text_of_port c.self.view_is)
    c.put_starts_of_port.ensures in
    let done : IsWritten (writing g.W.Write.contents c.args.reported.now c.close-written.result.now) (text_of_port c.args.self) =
    IsWritten-written g.W.Write.contents c.args.reported.now c.new-writer.result c.put_starts_of_port.new.writer c.close-written.result.now _
    c.new-writer.ensures.opens put c.close-written.ensures.closes in
    let names = c.close-written.ensures.same ∙ c.put_starts_of_port.ensures.same ∙ c.new-writer.ensures.same in
    grind (arith, done, names)
