use Rattle.std.proofs.Common.{ap}
use Rattle.cqf_output.proofs.WriterLemmas.{Puts-as}
use Rattle.cqf_program_tc.specs.Program.{object_text}
use Rattle.cqf_program_tc.proofs.program.put_object_of.Goals as goal

pub returns : goal.returns
returns g c = Puts-as (object_text c.cycle_time.result.0) (object_text c.args.domain.now.cycle_time) (ap object_text c.cycle_time.ensures.value)
    c.put_object.ensures
