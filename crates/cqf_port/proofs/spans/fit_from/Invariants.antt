use Rattle.std.proofs.Common.{◌-◌, ◌≤◌}
use Rattle.cqf_model.specs.GateList.{InForce}
use Rattle.cqf_port.specs.Quiet.{FitsNowhere}
use Rattle.cqf_port.proofs.spans.fit_from.Given as goal

-- an entry begins, and before it fits nowhere
abbrev pub invariant-loop-t : goal.invariant-loop-t
invariant-loop-t l = record {
  later : l.fn.ahead.begins ≤ l.t;
  force : InForce l.list l.t l.index 0;
  nowhere : FitsNowhere l.list l.class l.need l.fn.ahead.begins l.t;
}

-- what is left up to the end
abbrev pub decreases-loop-t : goal.decreases-loop-t
decreases-loop-t l = l.end - l.t
