use Rattle.cqf_output.proofs.WriterLemmas.{Puts-then}
use Rattle.cqf_addressing.proofs.macs.put_octets.Goals as goal

pub returns : goal.returns
returns g c = Puts-then _ _ c.put_octet.ensures
    (Puts-then _ _ c.put_byte.ensures
    (Puts-then _ _ c.put_octet-2.ensures
    (Puts-then _ _ c.put_byte-2.ensures
    (Puts-then _ _ c.put_octet-3.ensures
    (Puts-then _ _ c.put_byte-3.ensures
    (Puts-then _ _ c.put_octet-4.ensures
    (Puts-then _ _ c.put_byte-4.ensures
    (Puts-then _ _ c.put_octet-5.ensures
    (Puts-then _ _ c.put_byte-5.ensures
    c.put_octet-6.ensures)))))))))
