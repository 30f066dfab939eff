use Rattle.cqf_output.proofs.LineLemmas.{fault_line-printed}
use Rattle.std.proofs.Common.{string_bytes}
use Rattle.cqf_output.proofs.stops.line_of_fault.Goals as goal

pub returns : goal.returns
returns g c = fault_line-printed c.args.part.now (string_bytes c.in_ok-line.line) (g.F.Display.output c.args.fault.now) c.in_ok-line.ensures.ok
