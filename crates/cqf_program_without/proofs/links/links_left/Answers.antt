use Rattle.std.proofs.Common.{◌∙◌, ap}
use Rattle.toml.specs.Data.{array}
use Rattle.toml.specs.View.{items_view}
use Rattle.toml.proofs.Views.{view-Array}
use Rattle.cqf_program_without.proofs.LinkLists.{left_last, left_next}
use Rattle.cqf_program_without.proofs.links.links_left.Goals as goal

pub loop-index-preserved : goal.loop-index-preserved
loop-index-preserved c =
    left_next c.args.links.now (items_view c.args.stations.now) c.args.values.now c.loop-index.index c.index-values-index.result c.in_ok-left.left
    c.loop-index.all.items c.put_some.new.values.items c.loop-index-test.true c.index-values-index.is c.in_ok-left.ensures c.in_ok-put_some.ensures
    c.loop-index.invariant

pub returns : goal.returns
returns c =
    view-Array c.loop-index.all
    ∙ ap array (left_last c.args.links.now (items_view c.args.stations.now) c.args.values.now c.loop-index.index c.loop-index.all.items
    c.loop-index-test.false c.loop-index.invariant)
