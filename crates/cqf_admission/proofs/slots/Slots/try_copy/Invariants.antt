-- The lists so far have been copied.
use Rattle.std.proofs.Common.{◌≡◌, map, length, take}
use Rattle.cqf_admission.proofs.slots.Slots.try_copy.Given as goal

abbrev pub invariant-loop-list : goal.invariant-loop-list
invariant-loop-list l = (length l.lists.items ≡ l.list-index) × (map (λ list. list.items) l.lists.items ≡ map (λ list. list.items) (take l.list-index l.list-items))
