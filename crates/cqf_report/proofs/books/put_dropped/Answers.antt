use Rattle.std.proofs.Common.{◌∙◌, codes, decimal}
use Rattle.cqf_output.proofs.WriterLemmas.{Puts-as}
use Rattle.cqf_topology.specs.NodeNames.{name_of_bridge}
use Rattle.cqf_report.specs.Books.{name_of_reason}
use Rattle.cqf_report.proofs.LineLemmas.{Puts-six}
use Rattle.cqf_report.proofs.books.put_dropped.Goals as goal

pub returns : goal.returns
returns g c =
    let dropped = c.args.dropped.now in
    Puts-six (codes "drop") (decimal dropped.cycle.0) (name_of_bridge c.args.domain.now dropped.bridge) (decimal dropped.frame) (decimal dropped.octets)
    (name_of_reason dropped.reason)
    c.put.ensures c.put_byte.ensures c.put_number.ensures c.put_byte-2.ensures c.put_bridge.ensures c.put_byte-3.ensures
    c.put_number-2.ensures c.put_byte-4.ensures c.put_number-3.ensures c.put_byte-5.ensures
    (Puts-as _ (name_of_reason dropped.reason) (c.as_bytes.ensures.value ∙ c.reason_name.ensures.name) c.put-2.ensures) c.put_byte-6.ensures
