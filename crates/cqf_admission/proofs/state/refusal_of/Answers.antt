use Rattle.std.proofs.Common.{◌∙◌, ap, arith, sym}
use Rattle.cqf_units.specs.Timing.{cost_of}
use Rattle.cqf_units.proofs.Costs.{cost_within}
use Rattle.cqf_model.specs.Limits.{streams_within}
use Rattle.cqf_admission.specs.Weighing.{stand_short}
use Rattle.cqf_admission.proofs.Taken.{refused_many, refused_short, refused_taken, taken_by}
use Rattle.cqf_admission.proofs.state.refusal_of.Goals as goal

pub cost-cost-requires-clause-less : goal.cost-cost-requires-clause-less
cost-cost-requires-clause-less c = omega (arith, c.overhead.ensures.short)

pub cost-cost-requires-clause-fits : goal.cost-cost-requires-clause-fits
cost-cost-requires-clause-fits c =
    omega (arith, c.requires.octets, cost_within c.overhead.result c.args.form.octets c.overhead.ensures.short)

pub returns-then-is_some : goal.returns-then-is_some
returns-then-is_some c =
    let stands = c.args.holdings.now.rows in
    let form = c.args.form in
    refused_taken c.args.domain.now stands form.name.now (cost_of c.args.domain.now.overhead form.octets) form.pace form.tree.now
    (taken_by stands form.name.now c.holder.result c.holder.ensures ∙ sym c.is_some.ensures ∙ c.if-is_some.true)

pub returns-then-count-streams_within : goal.returns-then-count-streams_within
returns-then-count-streams_within c =
    let stands = c.args.holdings.now.rows in
    let form = c.args.form in
    let free = taken_by stands form.name.now c.holder.result c.holder.ensures ∙ sym c.is_some.ensures ∙ c.if-is_some.false in
    refused_many c.args.domain.now stands form.name.now (cost_of c.args.domain.now.overhead form.octets) form.pace form.tree.now free
    (omega (arith, c.count.ensures, c.if-count-streams_within.true, c.streams_within.ensures, ap streams_within c.limits.ensures))

pub returns : goal.returns
returns c =
    let stands = c.args.holdings.now.rows in
    let form = c.args.form in
    let free = taken_by stands form.name.now c.holder.result c.holder.ensures ∙ sym c.is_some.ensures ∙ c.if-is_some.false in
    c.short_of.ensures
    ∙ (λ i. stand_short c.args.domain.now stands ((c.cost-cost.ensures ∙ ap (λ o. cost_of o form.octets) c.overhead.ensures.value) i) form.pace form.tree.now)
    ∙ refused_short c.args.domain.now stands form.name.now (cost_of c.args.domain.now.overhead form.octets) form.pace form.tree.now free
    (omega (arith, c.count.ensures, c.if-count-streams_within.false, c.streams_within.ensures, ap streams_within c.limits.ensures))
