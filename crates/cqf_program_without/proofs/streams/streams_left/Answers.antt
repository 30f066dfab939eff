use Rattle.std.proofs.Common.{ap, ◌∙◌}
use Rattle.toml.specs.Data.{array}
use Rattle.toml.specs.View.{view}
use Rattle.toml.proofs.Views.{view-Array}
use Rattle.cqf_network_text.proofs.Putting.{push_here, push_last}
use Rattle.cqf_program_without.specs.Streams.{stream_item_left}
use Rattle.cqf_program_without.proofs.StreamLists.{each_left}
use Rattle.cqf_program_without.proofs.streams.streams_left.Goals as goal

pub loop-value-preserved : goal.loop-value-preserved
loop-value-preserved c =
    push_here (λ v. stream_item_left c.args.links.now (view v)) c.args.values.now c.loop-value.value-index c.value-item.result c.loop-value.all.items
    c.push.new.self.items c.in_ok-left.left c.loop-value-test.true c.value-item.is c.in_ok-left.ensures c.in_ok-push.ensures.items c.loop-value.invariant

pub returns : goal.returns
returns c =
    view-Array c.loop-value.all
    ∙ ap array (push_last (λ v. stream_item_left c.args.links.now (view v)) c.args.values.now c.loop-value.value-index c.loop-value.all.items
    c.loop-value-test.false c.loop-value.invariant ∙ each_left c.args.links.now c.args.values.now)
