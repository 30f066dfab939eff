-- The links of the hops so far are recomputed.
use Rattle.std.proofs.Common.{◌≡◌, take}
use Rattle.cqf_model.specs.History.{held_in, seals}
use Rattle.cqf_model.specs.Table.{links_in}
use Rattle.cqf_program_placing.specs.Known.{AreRenewed}
use Rattle.cqf_program_placing.specs.ActiveCycles.{left_emptiest}
use Rattle.cqf_program_placing.proofs.rooms.renew_lefts.Given as goal

abbrev pub invariant-loop-hop : goal.invariant-loop-hop
invariant-loop-hop l =
    let rows = held_in l.domain l.admission.entries (seals l.admission.entries) in record {
      every : l.emptiest.every ≡ l.fn.emptiest.every;
      left : AreRenewed (left_emptiest l.domain rows l.fn.emptiest.every) (links_in (take l.hop-index l.tree)) l.fn.emptiest.left.items l.emptiest.left.items;
    }
