use Rattle.std.proofs.Common.{◌≡◌, ◌∙◌, Bool, true, false, Some, None, ap, refl, sym}
use Rattle.std.specs.Prelude.{if◌then◌else◌}
use Rattle.cqf_model.specs.Domain.{Domain, end_of}
use Rattle.cqf_model.specs.History.{most_beside}
use Rattle.cqf_program_plans.specs.declared.latency.latencies.Latency.{Latency}
use Rattle.cqf_program_plans.specs.EndNames.{name_of_end}
use Rattle.cqf_program_plans.specs.Latency.Text.{is_station, latency_from_talker, latency_to}
use Rattle.cqf_program_plans.proofs.latency.listeners.latency_at.Goals as goal

-- the value, if there is one if and only if a test passes
there_if : {A : Type 0} (b : Bool) (x y : A) → Some x ≡ (if b then Some y else None) → (b ≡ true) × (x ≡ y)
there_if true x y e = (refl, cc)
there_if false x y e = let never : ⊥ = cc in absurd never

-- and if there is no value, there is none on the other side
none_if : {A B : Type 0} (b : Bool) (y : A) (z : B) → None ≡ (if b then Some y else None) → None ≡ (if b then Some z else None)
none_if true y z e = let never : ⊥ = cc in absurd never
none_if false y z e = refl

pub latency_to-latency-requires-clause-named : goal.latency_to-latency-requires-clause-named
latency_to-latency-requires-clause-named c =
    let d = c.domain-domain.result.now in
    let link = c.args.hop.now.link in
    (there_if (is_station (end_of d link)) c.in-Some.listener (name_of_end d link) c.in-Some.ensures).1

pub returns-in-Some : goal.returns-in-Some
returns-in-Some c =
    let costs = c.args.costs.now in
    let row = c.args.row.now in
    let hop = c.args.hop.now in
    let d = c.domain-domain.result.now in
    let ends = c.args.ends in
    let reported : Latency = latency_from_talker ends.times
    (latency_to costs.domain (most_beside costs.rows row.tree.items row.pace hop.link) row ends.deadline hop) in
    let there = there_if (is_station (end_of d hop.link)) c.in-Some.listener (name_of_end d hop.link) c.in-Some.ensures in
    let station : is_station (end_of costs.domain hop.link) ≡ true =
    ap (λ (domain : Domain). is_station (end_of domain hop.link)) (sym c.domain-domain.ensures) ∙ there.0 in
    ap Some (c.latency_from_talker.ensures ∙ ap (latency_from_talker ends.times) c.latency_to-latency.ensures.value
    ∙ (λ i. latency_from_talker ends.times (latency_to (c.domain-domain.ensures i) (c.at_hop-cost.ensures i) row ends.deadline hop)))
    ∙ ap (λ (b : Bool). if b then Some reported else None) (sym station)

pub returns-in-None : goal.returns-in-None
returns-in-None c =
    let costs = c.args.costs.now in
    let row = c.args.row.now in
    let hop = c.args.hop.now in
    let d = c.domain-domain.result.now in
    let ends = c.args.ends in
    let reported : Latency = latency_from_talker ends.times
    (latency_to costs.domain (most_beside costs.rows row.tree.items row.pace hop.link) row ends.deadline hop) in
    none_if (is_station (end_of d hop.link)) (name_of_end d hop.link) reported c.in-None.ensures
    ∙ ap (λ (domain : Domain). if is_station (end_of domain hop.link) then Some reported else None) c.domain-domain.ensures
