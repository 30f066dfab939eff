use Rattle.cqf_refused_values.proofs.plans.sealed.Goals as goal

-- a Seal's table goes along the domain's links
pub returns-in-Ok : goal.returns-in-Ok
returns-in-Ok c = c.in-Ok.ensures.lets_go.links
