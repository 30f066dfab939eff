use Rattle.std.proofs.Common.{◌≡◌, ◌∙◌, Bor, Option, Some, None, is_some, option_map, refl, ap}
use Rattle.toml.specs.declared.value.Value.{Value}
use Rattle.toml.specs.View.{view}
use Rattle.toml.proofs.Views.{table_get}
use Rattle.cqf_topology.specs.Fields.{key_text}
use Rattle.cqf_network_text.proofs.filling.has_key.Goals as goal

-- something is found where its data is
found : (o : Option (Bor Value)) → is_some o ≡ is_some (option_map (λ x. view x.now) o)
found None = refl
found (Some x) = refl

pub returns : goal.returns
returns c =
    c.is_some.ensures ∙ found c.get.result
    ∙ ap is_some (table_get c.get.result (key_text c.args.key) c.args.table.now.entries (rw (← c.as_str.ensures) c.get.ensures.value))
