use Rattle.std.proofs.Common.{◌<◌, ◌∙◌, ◌+◌, ℕ, List, arith, length, set, subst, sym, take}
use Rattle.std.proofs.lemmas.List.{length-map, take_all}
use Rattle.std.proofs.lemmas.List.Elements.{All-get_or}
use Rattle.cqf_model.specs.declared.topology.Hop.{Hop}
use Rattle.cqf_model.specs.Table.{links_in}
use Rattle.cqf_admission.specs.Sums.{AreMoreOn}
use Rattle.cqf_admission.proofs.SumLemmas.{link_at, more_step, no_hop, room_step}
use Rattle.cqf_admission.proofs.sums.add_on.Goals as goal

pub index_mut-requires : goal.index_mut-requires
index_mut-requires c =
    let at = link_at c.args.tree.now c.loop-hop.hop-index no_hop c.loop-hop-test.true in
    let low = All-get_or (λ (l : ℕ). l < length c.args.sums.now.items) (links_in c.args.tree.now) c.loop-hop.hop-index 0 at.0 c.requires.inside in
    omega (arith, low, c.from-index.ensures, at.1, c.loop-hop.invariant.as_many)

pub overflow_add-index_mut : goal.overflow_add-index_mut
overflow_add-index_mut c =
    let at = link_at c.args.tree.now c.loop-hop.hop-index no_hop c.loop-hop-test.true in
    let step = room_step (links_in c.args.tree.now) c.loop-hop.hop-index c.requires.apart at.0 c.args.sums.now.items c.loop-hop.sums.items c.args.number
    c.from-index.result c.index_mut.result.now (c.from-index.ensures ∙ at.1) c.requires.inside c.index_mut.ensures.value c.requires.room c.loop-hop.invariant in
    omega (arith, step.1, c.from.ensures)

pub loop-hop-preserved : goal.loop-hop-preserved
loop-hop-preserved c =
    let now = c.loop-hop.sums.items in
    let here = c.index_mut.result.now in
    let at = link_at c.args.tree.now c.loop-hop.hop-index no_hop c.loop-hop-test.true in
    subst (λ (n : ℕ). AreMoreOn c.args.sums.now.items (take (c.loop-hop.hop-index + 1) (links_in c.args.tree.now)) c.args.number (set now c.from-index.result (here + n)))
    (sym c.from.ensures)
    (more_step (links_in c.args.tree.now) c.loop-hop.hop-index c.requires.apart at.0 c.args.sums.now.items now c.args.number c.from-index.result here
    (c.from-index.ensures ∙ at.1) c.requires.inside c.index_mut.ensures.value c.loop-hop.invariant)

pub returns : goal.returns
returns c =
    let long = length-map c.args.tree.now (λ (hop : Hop). hop.link) in
    subst (λ (links : List ℕ). AreMoreOn c.args.sums.now.items links c.args.number c.loop-hop.sums.items)
    (take_all c.loop-hop.hop-index (links_in c.args.tree.now) (omega (arith, c.loop-hop-test.false, long))) c.loop-hop.invariant
