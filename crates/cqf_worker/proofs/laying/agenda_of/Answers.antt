use Rattle.cqf_worker.proofs.laying.agenda_of.Goals as goal

-- an agenda without background frames has the bridge's offers
pub returns : goal.returns
returns c = c.in_ok-agenda.ensures.offers_are
