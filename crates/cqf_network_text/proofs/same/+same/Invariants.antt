use Rattle.std.proofs.Common.{◌≡◌, take}
use Rattle.toml.specs.View.{items_view, members_view}
use Rattle.cqf_network_text.proofs.same.+same.Given as goal

abbrev pub invariant-are_same-loop-index : goal.invariant-are_same-loop-index
invariant-are_same-loop-index l = items_view (take l.index l.items.items) ≡ items_view (take l.index l.others.items)

-- where what is still to come is the same, all is
abbrev pub invariant-is_same_table-loop-key : goal.invariant-is_same_table-loop-key
invariant-is_same_table-loop-key l = members_view l.key-iterator ≡ members_view l.rest → members_view l.table.entries ≡ members_view l.other.entries
