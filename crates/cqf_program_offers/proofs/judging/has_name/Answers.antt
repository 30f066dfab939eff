use Rattle.std.proofs.Common.{◌∙◌}
use Rattle.cqf_program_offers.proofs.Judged.{named_there}
use Rattle.cqf_program_offers.proofs.judging.has_name.Goals as goal

pub returns : goal.returns
returns c = c.contains.ensures ∙ named_there c.args.names.now.keys c.args.rows.now c.args.name.now c.requires
