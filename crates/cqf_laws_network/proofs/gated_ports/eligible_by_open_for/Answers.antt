use Rattle.cqf_units.specs.Timing.{ending_of}
use Rattle.cqf_model.proofs.Legal.{ends_later}
use Rattle.cqf_laws_network.proofs.Spans.{fits_while_open}
use Rattle.cqf_laws_network.proofs.gated_ports.eligible_by_open_for.Goals as goal

pub returns : goal.returns
returns c entries class t octets octet_time open_for round positive is =
    fits_while_open entries class t (ending_of t octets octet_time) open_for round (ends_later t octets octet_time positive) is
