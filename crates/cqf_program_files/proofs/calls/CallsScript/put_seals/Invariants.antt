use Rattle.std.proofs.Common.{codes, replicate}
use Rattle.cqf_program_files.specs.Calls.{HasPut, numbered}
use Rattle.cqf_program_files.proofs.calls.CallsScript.put_seals.Given as goal

abbrev pub invariant-loop-seal : goal.invariant-loop-seal
invariant-loop-seal l = HasPut l.fn.self l.self (numbered l.number (replicate l._seal (codes "seal")))
