use Rattle.std.proofs.Common.{◌≡◌, ◌+◌, min, take, All}
use Rattle.cqf_traffic.specs.TrafficText.{IsTrafficText}
use Rattle.cqf_access.specs.Access.{demand}
use Rattle.cqf_access.specs.Bounding.{all_promises, link_of}
use Rattle.cqf_access.proofs.bounds.taken_by_all.Given as goal

-- what the streams so far take, and that their numbers are in range
abbrev pub invariant-loop-promise : goal.invariant-loop-promise
invariant-loop-promise l =
    (l.sum ≡ min (demand (link_of l.fn.rate l.fn.other) (all_promises (take l.promise-index l.promises)) l.time.0) (l.most.0 + 1))
    × All IsTrafficText (take l.promise-index l.promises)
