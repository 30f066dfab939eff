use Rattle.std.proofs.Common.{◌<◌, arith, length}
use Rattle.cqf_program_tc.specs.Rows.{indices_in}
use Rattle.cqf_program_tc.proofs.NotedRows.{length-indices, noted_by_link, noted_by_none}
use Rattle.cqf_program_tc.proofs.rows.note_link.Goals as goal

-- the link leaves a bridge of the domain
pub note-requires : goal.note-requires
note-requires c =
    omega (arith, (c.know.ensures.accepted.links_good c.args.link c.link-from.result c.link-from.ensures).from_bridge, c.requires)

pub returns-in_ok-note : goal.returns-in_ok-note
returns-in_ok-note c =
    let good = c.know.ensures.accepted.links_good c.args.link c.link-from.result c.link-from.ensures in
    let inside : c.link-from.result.from < length (indices_in c.args.lists.now.items) =
    omega (arith, good.from_bridge, c.requires, length-indices c.args.lists.now.items) in
    noted_by_link c.args.domain.now c.args.link c.args.index c.link-from.result _ _ c.link-from.ensures inside c.in_ok-note.ensures

pub returns-else-link-links : goal.returns-else-link-links
returns-else-link-links c =
    noted_by_none c.args.domain.now c.args.link c.args.index _ (omega (arith, c.if-link-links.false, c.links.ensures))
