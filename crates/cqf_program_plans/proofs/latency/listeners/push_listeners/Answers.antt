use Rattle.std.proofs.Common.{◌≡◌, ◌∙◌, ◌++◌, List, Contains, append-nil, ap, filter, get_or, map, refl, subst, sym, take, take_all}
use Rattle.std.proofs.lemmas.List.Elements.{Contains-get_or}
use Rattle.std.proofs.lemmas.Simd.{map-map}
use Rattle.cqf_compile.proofs.Bridges.{link-inside, no_hop}
use Rattle.cqf_model.specs.declared.topology.Hop.{Hop}
use Rattle.cqf_model.specs.Domain.{end_of}
use Rattle.cqf_model.specs.History.{most_beside}
use Rattle.cqf_program_plans.specs.declared.latency.latencies.Latency.{Latency}
use Rattle.cqf_program_plans.specs.Latency.Text.{is_station, latency_from_talker, latency_to}
use Rattle.cqf_program_plans.proofs.Found.{items_of, listed_more}
use Rattle.cqf_program_plans.proofs.latency.listeners.push_listeners.Goals as goal
use Rattle.cqf_program_plans.proofs.latency.listeners.push_listeners.Goals.{in-Some+in_ok-push, in_default}

pub latency_at-requires-clause-link : goal.latency_at-requires-clause-link
latency_at-requires-clause-link c =
    let d = c.args.costs.now.domain in
    link-inside d d c.args.row.now.tree.items c.as_slice-hop-items.result.now c.loop-hop.hop-index refl c.as_slice-hop-items.ensures.value
    c.loop-hop-test.true c.requires.countable.inside

pub latency_at-requires-clause-of_tree : goal.latency_at-requires-clause-of_tree
latency_at-requires-clause-of_tree c =
    let items = c.as_slice-hop-items.result.now in
    let hop : Hop = get_or items c.loop-hop.hop-index no_hop in
    subst (λ (hops : List Hop). Contains hops hop) c.as_slice-hop-items.ensures.value
    (Contains-get_or items c.loop-hop.hop-index no_hop c.loop-hop-test.true)

pub loop-hop-preserved : goal.loop-hop-preserved
loop-hop-preserved c =
    let d = c.args.costs.now.domain in
    let rows = c.args.costs.now.rows in
    let done = c.loop-hop.latencies.items in
    let row = c.args.row.now in
    let items = c.as_slice-hop-items.result.now in
    let more = listed_more (λ (hop : Hop). is_station (end_of d hop.link))
    (λ (hop : Hop). latency_from_talker c.args.ends.times (latency_to d (most_beside rows row.tree.items row.pace hop.link) row c.args.ends.deadline hop)) items c.loop-hop.hop-index no_hop
    c.latency_at.result c.args.latencies.now.items done c.loop-hop-test.true c.latency_at.ensures c.loop-hop.invariant in
    elim c.match-latency_at.branch [
      | in-Some+in_ok-push w ↦
          ap (λ v. v.items) w.latencies-is ∙ w.in_ok-push.ensures.items ∙ ap (λ o. done ++ items_of o) (sym w.in-Some.is) ∙ more
      | in_default w ↦
          ap (λ v. v.items) w.latencies-is ∙ sym (append-nil done) ∙ ap (λ o. done ++ items_of o) (sym w.in_default.is) ∙ more
    ]

pub returns : goal.returns
returns c =
    let d = c.args.costs.now.domain in
    let rows = c.args.costs.now.rows in
    let before = c.args.latencies.now.items in
    let row = c.args.row.now in
    let items = c.as_slice-hop-items.result.now in
    let to : Hop → Latency = λ hop. latency_to d (most_beside rows row.tree.items row.pace hop.link) row c.args.ends.deadline hop in
    let heard : List Hop → List Hop = filter (λ (hop : Hop). is_station (end_of d hop.link)) in
    let all : take c.loop-hop.hop-index items ≡ row.tree.items =
    take_all c.loop-hop.hop-index items c.loop-hop-test.false ∙ c.as_slice-hop-items.ensures.value in
    c.loop-hop.invariant
    ∙ ap (λ (hops : List Hop). before ++ map (λ (hop : Hop). latency_from_talker c.args.ends.times (to hop)) (heard hops)) all
    ∙ ap (λ (reported : List Latency). before ++ reported) (sym (map-map (latency_from_talker c.args.ends.times) to (heard row.tree.items)))
