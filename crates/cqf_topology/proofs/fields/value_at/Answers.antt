use Rattle.toml.proofs.Views.{table_get}
use Rattle.cqf_topology.specs.Fields.{key_text}
use Rattle.cqf_topology.proofs.fields.value_at.Goals as goal

pub returns : goal.returns
returns c =
    table_get c.get.result (key_text c.args.key) c.args.table.now.entries (rw (← c.as_str.ensures) c.get.ensures.value)
