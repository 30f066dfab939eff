-- Those so far are judged.
use Rattle.std.proofs.Common.{map, take}
use Rattle.cqf_program_placing.specs.Settled.{settled_value}
use Rattle.cqf_program_planning.specs.Orders.{AreJudgedBy}
use Rattle.cqf_program_planning.proofs.trying.judge_all.Given as goal

abbrev pub invariant-loop-cycle_time : goal.invariant-loop-cycle_time
invariant-loop-cycle_time l = AreJudgedBy l.network (map settled_value l.streams) l.tries (take l.cycle_time-index l.cycle_time-items) l.reported.items
