use Rattle.toml.proofs.Views.{table_get}
use Rattle.cqf_addressing.specs.Keys.{key_text}
use Rattle.cqf_addressing.proofs.values.value_at.Goals as goal

pub returns : goal.returns
returns c =
    table_get c.get.result (key_text c.args.key) c.args.table.now.entries (rw (← c.as_str.ensures) c.get.ensures.value)
