use Rattle.std.proofs.Common.{◌≡◌, ◌++◌, ◌∷◌, []}
use Rattle.cqf_lists.specs.Lists.{each_below}
use Rattle.cqf_traffic.specs.Offering.{frame_of}
use Rattle.cqf_traffic.proofs.making.put_block.Given as goal

abbrev pub invariant-loop-frame : goal.invariant-loop-frame
invariant-loop-frame l = l.list.items ≡ l.initial.list.items ++ each_below (λ _. frame_of l.sender l.traffic l.at.0 ∷ []) l._frame
