use Rattle.std.proofs.Common.{ap, ◌∙◌}
use Rattle.toml.specs.Data.{array}
use Rattle.toml.proofs.Views.{view-Array}
use Rattle.cqf_network_text.proofs.FilledLists.{fill_last, fill_next}
use Rattle.cqf_network_text.proofs.filling.filled_values.Goals as goal

pub loop-index-preserved : goal.loop-index-preserved
loop-index-preserved c =
    fill_next c.args.filled.now c.args.values.now c.loop-index.index c.index-values-index.result c.loop-index.all.items c.push.new.self.items
    c.in_ok-one.one c.loop-index-test.true c.index-values-index.is c.in_ok-one.ensures c.in_ok-push.ensures.items c.loop-index.invariant

pub returns : goal.returns
returns c =
    view-Array c.loop-index.all
    ∙ ap array (fill_last c.args.filled.now c.args.values.now c.loop-index.index c.loop-index.all.items c.loop-index-test.false c.loop-index.invariant)
