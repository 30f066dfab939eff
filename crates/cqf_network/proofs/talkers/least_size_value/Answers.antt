use Rattle.std.proofs.Common.{codes}
use Rattle.toml.proofs.Views.{table_get}
use Rattle.cqf_network.proofs.talkers.least_size_value.Goals as goal

pub returns : goal.returns
returns c = table_get c.get.result (codes "least-size") c.args.table.now.entries c.get.ensures.value
