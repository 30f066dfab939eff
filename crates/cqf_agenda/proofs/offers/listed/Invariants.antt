use Rattle.std.specs.Prelude.{◌≡◌, filter, take}
use Rattle.cqf_model.specs.Policing.{numbered}
use Rattle.cqf_laws_cycle.specs.Gathered.{is_offered_in}
use Rattle.cqf_agenda.proofs.offers.listed.Given as goal

abbrev pub invariant-loop-index : goal.invariant-loop-index
invariant-loop-index l = l.list.items ≡ filter (is_offered_in l.domain l.bridge l.cycle.0) (numbered (take l.index l.offers))
