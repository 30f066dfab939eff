use Rattle.std.proofs.Common.{decimal}
use Rattle.cqf_topology.specs.NodeNames.{name_of_link}
use Rattle.cqf_report.proofs.LineLemmas.{Puts-six}
use Rattle.cqf_report.proofs.books.put_started.Goals as goal

pub returns : goal.returns
returns g c =
    let started = c.args.started.now in
    Puts-six c.args.what.now (decimal started.cycle.0) (name_of_link c.args.domain.now started.link) (decimal started.frame) (decimal started.octets)
    (decimal started.start.0)
    c.put.ensures c.put_byte.ensures c.put_number.ensures c.put_byte-2.ensures c.put_link.ensures c.put_byte-3.ensures
    c.put_number-2.ensures c.put_byte-4.ensures c.put_number-3.ensures c.put_byte-5.ensures c.put_number-4.ensures c.put_byte-6.ensures
