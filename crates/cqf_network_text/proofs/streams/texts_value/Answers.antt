use Rattle.std.proofs.Common.{String, Global, ap, string_bytes, sym, ◌∙◌}
use Rattle.std.proofs.lemmas.Simd.{map-map}
use Rattle.toml.specs.Data.{Data, array, string}
use Rattle.toml.specs.View.{items_of}
use Rattle.toml.proofs.Views.{view-Array}
use Rattle.cqf_network_text.proofs.Putting.{push_here, push_last}
use Rattle.cqf_network_text.proofs.streams.texts_value.Goals as goal

-- a text's data
abbrev data_of : String Global → Data
data_of text = string (string_bytes text)

pub loop-text-preserved : goal.loop-text-preserved
loop-text-preserved c =
    push_here data_of c.args.texts.now c.loop-text.text-index c.text-item.result c.loop-text.values.items c.push.new.self.items
    c.in_ok-value.value c.loop-text-test.true c.text-item.is (c.in_ok-value.ensures ∙ ap string c.as_str.ensures.value)
    c.in_ok-push.ensures.items c.loop-text.invariant

pub returns : goal.returns
returns c =
    view-Array c.loop-text.values
    ∙ ap array (push_last data_of c.args.texts.now c.loop-text.text-index c.loop-text.values.items c.loop-text-test.false c.loop-text.invariant
    ∙ ap items_of (sym (map-map string string_bytes c.args.texts.now)))
