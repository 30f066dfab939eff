use Rattle.std.proofs.Common.{◌∙◌, ◌++◌, List, Some, append-nil, ap, get_or, subst, sym}
use Rattle.std.specs.Prelude.{Contains, option_map}
use Rattle.cqf_model.specs.declared.topology.Hop.{Hop}
use Rattle.std.proofs.lemmas.List.Elements.{Contains-get_or}
use Rattle.cqf_compile.proofs.Bridges.{no_hop}
use Rattle.cqf_program_plans.proofs.Found.{items_of}
use Rattle.cqf_program_summary.specs.Summary.Listing.{cost_beside}
use Rattle.cqf_program_summary.proofs.Found.{first_path, paths_more}
use Rattle.cqf_program_summary.proofs.summary.fares.push_listeners.Goals as goal
use Rattle.cqf_program_summary.proofs.summary.fares.push_listeners.Goals.{in-Some+in_ok-push_path, in_default}

pub listener_to-requires-clause-of_tree : goal.listener_to-requires-clause-of_tree
listener_to-requires-clause-of_tree c =
    let hops = c.as_slice-hop-items.result.now in
    let hop : Hop = get_or hops c.loop-hop.hop-index no_hop in
    subst (λ (them : List Hop). Contains them hop) c.as_slice-hop-items.ensures.value (Contains-get_or hops c.loop-hop.hop-index no_hop c.loop-hop-test.true)

pub loop-hop-preserved : goal.loop-hop-preserved
loop-hop-preserved c =
    let done = c.loop-hop.paths.items in
    let more = paths_more c.args.domain.now (cost_beside c.args.costs.now (Some c.args.row.now)) c.as_slice-hop-items.result.now c.loop-hop.hop-index c.listener_to.result
    c.args.paths.now.items done c.loop-hop-test.true c.listener_to.ensures c.loop-hop.invariant in
    elim c.match-listener_to.branch [
      | in-Some+in_ok-push_path w ↦
          ap (λ v. v.items) w.paths-is ∙ w.in_ok-push_path.ensures ∙ ap (λ o. done ++ items_of (option_map first_path o)) (sym w.in-Some.is) ∙ more
      | in_default w ↦
          ap (λ v. v.items) w.paths-is ∙ sym (append-nil done) ∙ ap (λ o. done ++ items_of (option_map first_path o)) (sym w.in_default.is) ∙ more
    ]
