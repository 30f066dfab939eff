use Rattle.std.proofs.Common.{◌≡◌, ◌∙◌, Option, Some, None, ap}
use Rattle.std.specs.Option.{option_and_then}
use Rattle.toml.specs.Data.{Data, Items, as_array, no_items}
use Rattle.toml.specs.View.{array_view, items_view, view}
use Rattle.cqf_network_text.specs.Networks.{array_or_none}
use Rattle.cqf_network_text.proofs.filling.elements_at.Goals as goal

-- the value is an array, is none, or is absent
found : (o : Option Data) (d : Data) (items : Items) → Some d ≡ o → Some items ≡ as_array d → items ≡ array_or_none (option_and_then as_array o)
found o d items at is = ap array_or_none (is ∙ ap (option_and_then as_array) at)

other : (o : Option Data) (d : Data) → Some d ≡ o → None ≡ as_array d → no_items ≡ array_or_none (option_and_then as_array o)
other o d at is = ap array_or_none (is ∙ ap (option_and_then as_array) at)

nothing : (o : Option Data) → None ≡ o → no_items ≡ array_or_none (option_and_then as_array o)
nothing o at = ap (λ p. array_or_none (option_and_then as_array p)) at

pub returns-in-Some-as_array : goal.returns-in-Some-as_array
returns-in-Some-as_array c =
    ap items_view c.as_slice.ensures.value
    ∙ found _ (view c.in-Some.value.now) (array_view c.in-Some-as_array.values.now) c.in-Some.ensures c.in-Some-as_array.ensures

pub returns-in-None-as_array : goal.returns-in-None-as_array
returns-in-None-as_array c = other _ (view c.in-Some.value.now) c.in-Some.ensures c.in-None-as_array.ensures

pub returns-in-None : goal.returns-in-None
returns-in-None c = nothing _ c.in-None.ensures
