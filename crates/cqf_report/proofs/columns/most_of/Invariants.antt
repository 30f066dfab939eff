-- The greatest so far.
use Rattle.std.proofs.Common.{◌≡◌, fold, max, take}
use Rattle.cqf_report.proofs.columns.most_of.Given as goal

abbrev pub invariant-loop-octets : goal.invariant-loop-octets
invariant-loop-octets l = l.most ≡ fold max 0 (take l.octets-index l.listed)
