use Rattle.std.proofs.Common.{◌-◌, ◌≤◌}
use Rattle.cqf_port.specs.PortState.{rules_of}
use Rattle.cqf_port.specs.Progress.{AreMore, IsAbreast}
use Rattle.cqf_port.proofs.run.run.Given as goal

-- the port is abreast of the instant, and has only made starts
abbrev pub invariant-instants : goal.invariant-instants
invariant-instants l = record {
  abreast : IsAbreast (rules_of l.egress.schedule.now l.egress.rate) l.egress.arrivals.now l.t l.starts.items l.progress;
  more : AreMore l.initial.starts.items l.starts.items l.fn.reached.0;
  from_reached : l.fn.reached.0 ≤ l.t;
  in_time : l.t ≤ l.until.0;
}

-- what is left up to the end
abbrev pub decreases-instants : goal.decreases-instants
decreases-instants l = l.until.0 - l.t
