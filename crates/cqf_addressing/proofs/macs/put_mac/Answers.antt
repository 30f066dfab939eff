use Rattle.std.proofs.Common.{ap}
use Rattle.cqf_output.proofs.WriterLemmas.{Puts-as}
use Rattle.cqf_addressing.specs.Mac.{mac_text}
use Rattle.cqf_addressing.proofs.macs.put_mac.Goals as goal

pub returns : goal.returns
returns g c = Puts-as _ _ (ap mac_text c.octets-octets.ensures.value) c.put_octets.ensures
