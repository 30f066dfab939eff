use Rattle.std.proofs.Common.{map, take}
use Rattle.std.specs.Arc.{arc_value}
use Rattle.cqf_relay.proofs.LearnedRows.{LearnsThese}
use Rattle.cqf_relay.proofs.relay.Relay.learn_rows.Given as goal

abbrev pub invariant-loop-row : goal.invariant-loop-row
invariant-loop-row l = LearnsThese (map (λ row. arc_value row) (take l.row-index l.row-items)) l.fn.self l.self
