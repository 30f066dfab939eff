-- The entries have the form of a list.
use Rattle.std.proofs.Common.{arith}
use Rattle.std.proofs.lemmas.Bool.Decides.{nat_tests}
use Rattle.cqf_gates.proofs.EntryTests.{IsStreamList-from_tests}
use Rattle.cqf_gates.proofs.streams.StreamList.new.Goals as goal

pub invariant_of-result : goal.invariant_of-result
invariant_of-result c = (omega arith, rw c.placed.ensures (IsStreamList-from_tests c.args.entries.now (grind (arith, nat_tests)) (omega arith) (cc) (cc)))
