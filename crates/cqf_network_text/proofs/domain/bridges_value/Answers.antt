use Rattle.std.proofs.Common.{Some, arith, ap, sym, ◌∙◌}
use Rattle.toml.specs.Data.{array, string}
use Rattle.toml.proofs.Views.{view-Array}
use Rattle.cqf_network_text.proofs.Putting.{push_last, push_next}
use Rattle.cqf_network_text.proofs.domain.bridges_value.Goals as goal

pub loop-number-preserved : goal.loop-number-preserved
loop-number-preserved c =
    push_next string c.args.domain.now.bridges c.loop-number.number c.as_str.result.now c.loop-number.names.items c.push.new.self.items c.in_ok-name.name
    (c.bridge_name.ensures ∙ ap Some (sym c.as_str.ensures.value)) c.in_ok-name.ensures c.in_ok-push.ensures.items c.loop-number.invariant

pub returns : goal.returns
returns c =
    view-Array c.loop-number.names
    ∙ ap array (push_last string c.args.domain.now.bridges c.loop-number.number c.loop-number.names.items (omega arith) c.loop-number.invariant)
