use Rattle.std.proofs.Common.{decimal}
use Rattle.cqf_topology.specs.NodeNames.{name_of_link}
use Rattle.cqf_report.proofs.LineLemmas.{Puts-four}
use Rattle.cqf_report.proofs.links.put_sums.Goals as goal

pub returns : goal.returns
returns g c =
    Puts-four (name_of_link c.args.domain.now c.args.link) (decimal c.args.sums.frames) (decimal c.args.sums.octets) (decimal c.args.most)
    c.put_link.ensures c.put_byte.ensures c.put_number.ensures c.put_byte-2.ensures c.put_number-2.ensures c.put_byte-3.ensures
    c.put_number-3.ensures c.put_byte-4.ensures
