use Rattle.std.proofs.Common.{◌≡◌, ◌∙◌, [], Err, Ok, ap, refl, subst, sym}
use Rattle.cqf_topology.specs.declared.faults.DomainFault.TheVariants.{Memory, NameTaken}
use Rattle.cqf_topology.specs.DomainText.{first_taken}
use Rattle.cqf_topology.proofs.Accepted.{taken-at}
use Rattle.cqf_topology.proofs.Refusals.{Gives-residual}
use Rattle.cqf_topology.specs.Fields.{Gives}
use Rattle.cqf_network.specs.declared.faults.NetworkFault.TheVariants.{Domain}
use Rattle.cqf_network.specs.NetworkDomain.{with_names}
use Rattle.cqf_network.proofs.CheckedLemmas.{kept, names_passed, numbered_names_are, passed, refused}
use Rattle.cqf_network.proofs.domain.NetworkDomain.of_draft.Goals as goal

pub returns-in_err-bridges : goal.returns-in_err-bridges
returns-in_err-bridges c =
    let text = c.args.draft.now in
    let e = c.in_err-bridges.field-0.0 in
    Gives-residual (Domain Memory) (Domain e) (λ domain. domain) c.from_residual.result _ c.from_residual.ensures.1
    (λ known. refused (first_taken [] text.bridges) text.bridges _ e
    (taken-at c.new-none.result.keys [] c.bridges.result.now text.bridges c.new-none.ensures c.bridges.ensures (Err e)
    (c.in_err-bridges.ensures (λ is. known (ap Domain is)))))

pub returns-in_err-stations : goal.returns-in_err-stations
returns-in_err-stations c =
    let text = c.args.draft.now in
    let e = c.in_err-stations.field-0.0 in
    let bridges = c.in_ok-bridges.bridges.keys in
    let numbered = taken-at c.new-none.result.keys [] c.bridges.result.now text.bridges c.new-none.ensures c.bridges.ensures (Ok bridges)
    c.in_ok-bridges.ensures in
    let same : text.bridges ≡ bridges = kept (first_taken [] text.bridges) NameTaken text.bridges bridges numbered in
    Gives-residual (Domain Memory) (Domain e) (λ domain. domain) c.from_residual-in_err-stations.result _ c.from_residual-in_err-stations.ensures.1
    (λ known. passed (first_taken [] text.bridges) text.bridges bridges _ numbered
    ∙ refused (first_taken text.bridges text.stations) text.stations (with_names text) e
    (taken-at bridges text.bridges c.stations.result.now text.stations (sym same) c.stations.ensures (Err e)
    (c.in_err-stations.ensures (λ is. known (ap Domain is)))))

pub of_names-requires : goal.of_names-requires
of_names-requires c =
    let text = c.args.draft.now in
    let bridges = c.in_ok-bridges.bridges.keys in
    let stations = c.in_ok-stations.stations.keys in
    numbered_names_are text bridges stations c.requires
    (taken-at c.new-none.result.keys [] c.bridges.result.now text.bridges c.new-none.ensures c.bridges.ensures (Ok bridges) c.in_ok-bridges.ensures)
    (taken-at bridges bridges c.stations.result.now text.stations refl c.stations.ensures (Ok stations) c.in_ok-stations.ensures)

pub returns : goal.returns
returns c =
    let text = c.args.draft.now in
    let bridges = c.in_ok-bridges.bridges.keys in
    let stations = c.in_ok-stations.stations.keys in
    let numbered = taken-at c.new-none.result.keys [] c.bridges.result.now text.bridges c.new-none.ensures c.bridges.ensures (Ok bridges)
    c.in_ok-bridges.ensures in
    let same : text.bridges ≡ bridges = kept (first_taken [] text.bridges) NameTaken text.bridges bridges numbered in
    let whole = names_passed text bridges stations numbered
    (taken-at bridges text.bridges c.stations.result.now text.stations (sym same) c.stations.ensures (Ok stations) c.in_ok-stations.ensures) in
    subst (λ wanted. Gives (Domain Memory) (λ domain. domain) c.of_names.result wanted) (sym whole) c.of_names.ensures
