use Rattle.std.specs.Prelude.{◌≡◌, filter, take}
use Rattle.cqf_model.specs.Network.{numbered_background}
use Rattle.cqf_agenda.specs.Picking.{is_backed_from}
use Rattle.cqf_agenda.proofs.picking.listed_background.Given as goal

-- of the first frames those of the bridge are listed
abbrev pub invariant-loop-index : goal.invariant-loop-index
invariant-loop-index l = l.list.items ≡ filter (is_backed_from l.domain l.bridge) (numbered_background (take l.index l.background))
