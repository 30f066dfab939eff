use Rattle.std.proofs.Common.{codes}
use Rattle.toml.proofs.Views.{table_get}
use Rattle.cqf_network.proofs.draft.duplex_value.Goals as goal

pub returns : goal.returns
returns c = table_get c.get.result (codes "duplex") c.args.table.now.entries c.get.ensures.value
