use Rattle.std.specs.Prelude.{◌≡◌, filter, take}
use Rattle.cqf_model.specs.Policing.{numbered}
use Rattle.cqf_agenda.specs.Picking.{is_offered_to}
use Rattle.cqf_agenda.proofs.picking.listed_offers.Given as goal

-- of the first offers those at the bridge are listed
abbrev pub invariant-loop-index : goal.invariant-loop-index
invariant-loop-index l = l.list.items ≡ filter (is_offered_to l.bridge) (numbered (take l.index l.offers))
