-- One more link is put.
use Rattle.std.proofs.Common.{◌+◌, sym, take}
use Rattle.std.specs.List.{flat_map}
use Rattle.cqf_compile.proofs.Pieces.{flat_map_found}
use Rattle.cqf_compile.specs.ConfigText.{text_of_link}
use Rattle.cqf_output.proofs.WriterLemmas.{Puts-as, Puts-then}
use Rattle.cqf_compile.proofs.ConfigPieces.{port_pieces}
use Rattle.cqf_compile.proofs.config.put_ports.Goals as goal

pub loop-link-preserved : goal.loop-link-preserved
loop-link-preserved g c =
    let d = c.args.domain.now in
    let more = flat_map_found (text_of_link d) d.links c.loop-link.link _
    (port_pieces d c.loop-link.link c.link.result c.port_list_of-list.result c.link.ensures c.port_list_of-list.ensures) in
    Puts-as _ (flat_map (text_of_link d) (take (c.loop-link.link + 1) d.links)) (sym more) (Puts-then _ _ c.loop-link.invariant c.put_port.ensures)
