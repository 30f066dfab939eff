use Rattle.std.proofs.Common.{◌∙◌}
use Rattle.cqf_network.proofs.PairLemmas.{list_any-held}
use Rattle.cqf_network.proofs.repeats.holds.Goals as goal

pub returns : goal.returns
returns c = c.contains.ensures ∙ list_any-held c.args.pair.0 c.args.pair.1 c.args.held.now.keys
