use Rattle.std.proofs.Common.{map}
use Rattle.cqf_port.specs.PortState.{start_of}
use Rattle.cqf_output.proofs.WriterLemmas.{Puts-then}
use Rattle.cqf_report.specs.Written.{line_of_fields}
use Rattle.cqf_report.specs.Starts.{lines_of_port, start_header}
use Rattle.cqf_units.specs.Timing.{ticks_of_octet}
use Rattle.cqf_program_scenario.proofs.ports.put_starts_of_port.Goals as goal

pub returns : goal.returns
returns g c =
    Puts-then (line_of_fields start_header) (lines_of_port (ticks_of_octet c.args.rate) (map (start_of c.args.arrivals.now) c.args.starts.now))
    c.put_port_header.ensures c.put_each.ensures
