-- The octets of the starts so far are in the column.
use Rattle.std.proofs.Common.{◌≡◌, take, map}
use Rattle.cqf_report.proofs.links.octet_column.Given as goal

abbrev pub invariant-loop-start : goal.invariant-loop-start
invariant-loop-start l = l.column.items ≡ map (λ start. start.octets) (take l.start-index l.starts)
