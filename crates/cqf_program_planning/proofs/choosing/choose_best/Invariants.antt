-- The best choice so far.
use Rattle.std.proofs.Common.{map, take}
use Rattle.cqf_program_placing.specs.Settled.{settled_value}
use Rattle.cqf_program_planning.specs.Trying.{ComesOfSome}
use Rattle.cqf_program_planning.proofs.choosing.choose_best.Given as goal

abbrev pub invariant-loop-cycle_time : goal.invariant-loop-cycle_time
invariant-loop-cycle_time l =
    ComesOfSome l.network (map settled_value l.streams) l.search.tries (take l.cycle_time-index l.cycle_time-items) l.choice
