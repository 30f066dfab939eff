use Rattle.std.proofs.Common.{◌≡◌, take}
use Rattle.cqf_traffic.specs.Offering.{sent_from}
use Rattle.cqf_traffic.proofs.making.sent_from.Given as goal

abbrev pub invariant-loop-number : goal.invariant-loop-number
invariant-loop-number l = l.list.items ≡ sent_from l.until.end.0 l.until.seed 0 (take l.number l.senders)
