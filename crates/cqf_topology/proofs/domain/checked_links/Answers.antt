use Rattle.std.proofs.Common.{◌∙◌, length, Ok, All, sym, ap, subst, arith}
use Rattle.std.proofs.Math.Nat.{min-le_right}
use Rattle.cqf_topology.specs.declared.faults.DomainFault.TheVariants.{Memory}
use Rattle.cqf_topology.specs.DomainText.{IsNumberedDomain, joined, with_links, with_these}
use Rattle.cqf_topology.specs.JoinedLink.{HasSmallEnds}
use Rattle.cqf_topology.proofs.Accepted.{numbered, joined-small, checked-unknown, checked-numbered}
use Rattle.cqf_topology.proofs.Passed.{passes}
use Rattle.cqf_topology.proofs.Refusals.{Gives-residual}
use Rattle.cqf_topology.proofs.domain.checked_links.Goals as goal

pub returns-in_err-joined-clause-given : goal.returns-in_err-joined-clause-given
returns-in_err-joined-clause-given c =
    let d = c.args.draft.now in
    let e = c.in_err-joined.field-0.0 in
    let bridges = c.args.bridges.now.keys in
    let stations = c.args.stations.now.keys in
    let names = c.requires in
    Gives-residual Memory e (λ links. with_these d links.items) c.from_residual.result _ c.from_residual.ensures.1
    (λ known. checked-unknown d bridges stations e names.has_bridges.bridges_are names.stations_are
    (ap (joined bridges stations) (sym c.links.ensures) ∙ c.in_err-joined.ensures known))

pub returns-in_err-check-clause-given : goal.returns-in_err-check-clause-given
returns-in_err-check-clause-given c =
    let d = c.args.draft.now in
    let bridges = c.args.bridges.now.keys in
    let stations = c.args.stations.now.keys in
    let items = c.in_ok-joined.joined.items in
    let n = numbered d bridges stations items c.requires (ap (joined bridges stations) (sym c.links.ensures) ∙ c.in_ok-joined.ensures) in
    Gives-residual Memory c.in_err-check.field-0.0 (λ links. with_these d links.items) c.from_residual-in_err-check.result _
    c.from_residual-in_err-check.ensures.1
    (λ known. checked-numbered d bridges stations items n ∙ ap (with_links d) (sym c.as_slice.ensures.value) ∙ c.in_err-check.ensures known)

pub links_of-requires : goal.links_of-requires
links_of-requires c =
    let d = c.args.draft.now in
    let bridges = c.args.bridges.now.keys in
    let stations = c.args.stations.now.keys in
    let items = c.in_ok-joined.joined.items in
    let n = numbered d bridges stations items c.requires (ap (joined bridges stations) (sym c.links.ensures) ∙ c.in_ok-joined.ensures) in
    let p = passes d c.as_slice.result.now (with_these d c.as_slice.result.now) c.in_ok-check.ensures in
    subst (All HasSmallEnds) (sym c.as_slice-2.ensures.value)
    (joined-small d bridges stations items n (omega (arith, p.few_bridges, ap length n.bridges_are, min-le_right d.limits.bridges 1024))
    (omega (arith, p.few_stations, ap length n.stations_are, min-le_right d.limits.stations 4096)))

pub returns-clause-given : goal.returns-clause-given
returns-clause-given c =
    let d = c.args.draft.now in
    let bridges = c.args.bridges.now.keys in
    let stations = c.args.stations.now.keys in
    let items = c.in_ok-joined.joined.items in
    let n = numbered d bridges stations items c.requires (ap (joined bridges stations) (sym c.links.ensures) ∙ c.in_ok-joined.ensures) in
    checked-numbered d bridges stations items n ∙ ap (with_links d) (sym c.as_slice.ensures.value) ∙ c.in_ok-check.ensures
    ∙ ap (λ links. Ok (with_these d links)) (c.as_slice.ensures.value ∙ sym c.as_slice-2.ensures.value ∙ sym c.in_ok-links.ensures)

pub returns-clause-numbered : goal.returns-clause-numbered
returns-clause-numbered c =
    let d = c.args.draft.now in
    let bridges = c.args.bridges.now.keys in
    let stations = c.args.stations.now.keys in
    let items = c.in_ok-joined.joined.items in
    let n = numbered d bridges stations items c.requires (ap (joined bridges stations) (sym c.links.ensures) ∙ c.in_ok-joined.ensures) in
    subst (IsNumberedDomain d bridges stations) (sym (c.in_ok-links.ensures ∙ c.as_slice-2.ensures.value)) n
