use Rattle.std.proofs.Common.{ap, length, rules, sum, ◌∙◌}
use Rattle.cqf_report.proofs.LinkLists.{listed_frames, listed_octets}
use Rattle.cqf_report.proofs.links.sums_of_link.Goals as goal

pub returns-clause-frames : goal.returns-clause-frames
returns-clause-frames g c starts by_link =
    ap length c.as_slice-listed.ensures.value
    ∙ listed_frames starts c.args.by_link.now c.args.link c.from.result c.index-by_link-from.result _ by_link (search rules) c.from.ensures
    c.index-by_link-from.is

pub returns-clause-octets : goal.returns-clause-octets
returns-clause-octets g c starts by_link =
    c.sum_of.ensures ∙ ap sum c.as_slice-listed.ensures.value
    ∙ listed_octets starts c.args.by_link.now c.args.link c.from.result c.index-by_link-from.result _ by_link (search rules) c.from.ensures
    c.index-by_link-from.is
