use Rattle.std.proofs.Common.{String, Vec, Global, ap, map, string_bytes, sym, ◌∙◌}
use Rattle.std.proofs.lemmas.Simd.{map-map}
use Rattle.toml.specs.Data.{Data, array, string}
use Rattle.toml.specs.View.{items_of}
use Rattle.toml.proofs.Views.{view-Array}
use Rattle.cqf_network_text.proofs.Putting.{push_here, push_last}
use Rattle.cqf_program_without.specs.Streams.{last_name}
use Rattle.cqf_program_without.proofs.streams.last_names.Goals as goal

-- the data of a branch's last node
abbrev data_of : Vec (String Global) Global → Data
data_of path = string (last_name (map string_bytes path.items))

pub loop-path-preserved : goal.loop-path-preserved
loop-path-preserved c =
    push_here data_of c.args.paths.now c.loop-path.path-index c.path-item.result c.loop-path.names.items c.push.new.self.items
    c.in_ok-name.name c.loop-path-test.true c.path-item.is
    (c.in_ok-name.ensures ∙ ap string (c.last_name.ensures ∙ ap (λ texts. last_name (map string_bytes texts)) c.as_slice.ensures.value))
    c.in_ok-push.ensures.items c.loop-path.invariant

pub returns : goal.returns
returns c =
    view-Array c.loop-path.names
    ∙ ap array (push_last data_of c.args.paths.now c.loop-path.path-index c.loop-path.names.items c.loop-path-test.false c.loop-path.invariant
    ∙ ap items_of (sym (ap (map string) (map-map last_name (λ path. map string_bytes path.items) c.args.paths.now)
    ∙ map-map string (λ path. last_name (map string_bytes path.items)) c.args.paths.now)))
