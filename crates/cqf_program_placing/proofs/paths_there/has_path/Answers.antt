use Rattle.std.proofs.Common.{◌∙◌}
use Rattle.cqf_program_placing.proofs.RouteLemmas.{are_links}
use Rattle.cqf_program_placing.proofs.paths_there.has_path.Goals as goal

pub is_led-requires : goal.is_led-requires
is_led-requires c = are_links c.args.at.plan.now c.links.result.now (c.links.ensures ∙ c.requires) c.know.ensures.accepted
