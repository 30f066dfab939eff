use Rattle.std.proofs.Common.{String, Vec, Global, ap, map, string_bytes, sym, ◌∙◌}
use Rattle.std.proofs.lemmas.Simd.{map-map}
use Rattle.toml.specs.Data.{Data, array}
use Rattle.toml.specs.View.{items_of}
use Rattle.toml.proofs.Views.{view-Array}
use Rattle.cqf_network_text.specs.DomainMembers.{texts_data}
use Rattle.cqf_network_text.proofs.Putting.{push_here, push_last}
use Rattle.cqf_network_text.proofs.streams.branches_value.Goals as goal

-- a branch's data
abbrev data_of : Vec (String Global) Global → Data
data_of path = texts_data (map string_bytes path.items)

pub loop-path-preserved : goal.loop-path-preserved
loop-path-preserved c =
    push_here data_of c.args.paths.now c.loop-path.path-index c.path-item.result c.loop-path.values.items c.push.new.self.items
    c.in_ok-value.value c.loop-path-test.true c.path-item.is
    (c.in_ok-value.ensures ∙ ap (λ texts. texts_data (map string_bytes texts)) c.as_slice.ensures.value) c.in_ok-push.ensures.items c.loop-path.invariant

pub returns : goal.returns
returns c =
    view-Array c.loop-path.values
    ∙ ap array (push_last data_of c.args.paths.now c.loop-path.path-index c.loop-path.values.items c.loop-path-test.false c.loop-path.invariant
    ∙ ap items_of (sym (map-map texts_data (λ path. map string_bytes path.items) c.args.paths.now)))
