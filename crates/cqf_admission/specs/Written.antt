-- An order that was read, as the definitions have it.
use Rattle.cqf_admission.specs.declared.lines.Order.{Order}
use Rattle.cqf_admission.specs.Lines.{Written}

abbrev pub written : Order → Written
written order = record { seat = order.seat; wish = order.wish; name = order.name.now }
