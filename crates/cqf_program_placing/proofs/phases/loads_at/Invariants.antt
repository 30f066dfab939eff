-- The loads of the hops so far.
use Rattle.std.proofs.Common.{◌≡◌, take}
use Rattle.arrayvec.specs.ArrayVec.{array_vec_len}
use Rattle.cqf_model.specs.History.{held_in, seals}
use Rattle.cqf_program_placing.specs.ActiveCycles.{loads_down, share_at}
use Rattle.cqf_program_placing.proofs.phases.loads_at.Given as goal

abbrev pub invariant-loop-hop : goal.invariant-loop-hop
invariant-loop-hop l =
    let rows = held_in l.domain l.admission.entries (seals l.admission.entries) in record {
      loads : l.loads.items ≡ loads_down (share_at l.domain rows l.cost l.pace) (take l.hop-index l.tree);
      many : array_vec_len l.loads ≡ l.hop-index;
    }
