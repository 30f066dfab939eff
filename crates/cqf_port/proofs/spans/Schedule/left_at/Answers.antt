use Rattle.std.proofs.Common.{◌^◌, List, subst}
use Rattle.cqf_model.specs.GateList.{Entry}
use Rattle.cqf_port.specs.Spans.{AreSpansAt}
use Rattle.cqf_port.proofs.Staying.{spans_within}
use Rattle.cqf_port.proofs.spans.Schedule.left_at.Goals as goal

-- what is left of the spans of the entry in force
pub returns : goal.returns
returns c = subst (λ (entries : List Entry). AreSpansAt entries c.args.t.0 (2 ^ 62) c.less.result) c.self.view_is
    (spans_within c.mask_is_in_force.ensures.states c.mask_is_in_force.ensures.round c.mask_is_in_force.ensures.some c.self.inside.list
    c.args.t.0 c.entry_at-index.result.0 c.entry_at-index.result.1 c.entry_at-index.ensures.in_force c.self.inside.spans c.less.result
    c.self.invariant c.less.ensures.short c.less.ensures.left)
