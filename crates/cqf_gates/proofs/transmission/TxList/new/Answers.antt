-- The entries have the form of a list.
use Rattle.std.proofs.Common.{◌≤◌, length, arith}
use Rattle.std.proofs.lemmas.Bool.Decides.{nat_tests}
use Rattle.cqf_gates.proofs.EntryTests.{lasting-from_test}
use Rattle.cqf_gates.proofs.transmission.TxList.new.Goals as goal

pub invariant_of-result : goal.invariant_of-result
invariant_of-result c =
    let few : length c.args.entries.now ≤ 16 = c.in-Ok.ensures.1 in
    rw c.in-Ok.ensures.0 (record {
      some = grind (arith, nat_tests);
      few = few;
      lasting = lasting-from_test _ (cc);
    })
