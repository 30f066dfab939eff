use Rattle.std.proofs.Common.{◌≡◌, ◌*◌, ◌+◌, ◌-◌, ◌<◌, ◌≤◌, ◌∙◌, ◌++◌, ℕ, List, ap, arith, drop, fold, get_or, length, max, set, subst, sym, take}
use Rattle.std.specs.Prelude.{if◌then◌else◌}
use Rattle.std.proofs.lemmas.List.{take_all, with_items_is}
use Rattle.cqf_model.specs.declared.topology.Hop.{Hop}
use Rattle.cqf_model.specs.Paces.{is_active}
use Rattle.cqf_admission.specs.ActiveCycles.{AreKept, AreLessIn, HasIn, HaveIn, SumsByCycle}
use Rattle.cqf_admission.proofs.SumLemmas.{no_hop}
use Rattle.cqf_admission.proofs.ActiveCycleLemmas.{AreFor, for_none, hop_done, low_at, most_kept, read_part, held_at, sums_long, wrote_long}
use Rattle.cqf_admission.proofs.cycle_sums.CycleSums.take.Goals as goal

pub loop-hop-init : goal.loop-hop-init
loop-hop-init c = record {
  kept = c.self.invariant;
  so_far = subst (λ (now : SumsByCycle). AreFor (λ x y. x - y) c.args.self.now (take 0 c.args.tree.now) c.args.pace c.from-number.result now) (sym c.self.view_is)
      (for_none (λ x y. x - y) (λ x. omega arith) c.args.self.now c.args.tree.now c.args.pace c.from-number.result);
}

pub invariant_of-self : goal.invariant_of-self
invariant_of-self c = c.loop-hop.invariant.kept

pub slice_bounds-take_in_active_cycles-end : goal.slice_bounds-take_in_active_cycles-end
slice_bounds-take_in_active_cycles-end c =
    let low = low_at c.args.tree.now c.loop-hop.hop-index no_hop c.args.self.now.links c.loop-hop-test.true c.requires.inside in
    omega (arith, low, c.from-link.ensures, ap length c.deref_mut.ensures.value, c.loop-hop.invariant.kept.whole, c.loop-hop.invariant.so_far.links)

pub take_in_active_cycles-requires-clause-held : goal.take_in_active_cycles-requires-clause-held
take_in_active_cycles-requires-clause-held c =
    let tree = c.args.tree.now in
    let i = c.loop-hop.hop-index in
    let before = c.args.self.now in
    let now : SumsByCycle = record { links = c.loop-hop.self-inside.links; sums = c.loop-hop.self-inside.sums.items } in
    let hop : Hop = get_or tree i no_hop in
    let low = low_at tree i no_hop before.links c.loop-hop-test.true c.requires.inside in
    let within : hop.link < now.links = omega (arith, low, c.loop-hop.invariant.so_far.links) in
    let long = sums_long now hop.link within c.loop-hop.invariant.kept.whole in
    let held = subst (λ (n : ℕ). HasIn before tree c.args.pace n) (sym c.from-number.ensures) c.requires.held in
    subst (λ (xs : List ℕ). HaveIn (λ active_cycle. is_active c.args.pace hop.hop_number active_cycle) xs c.from-number.result)
    (sym (read_part now c.deref_mut.result.now c.from-link.result hop.link c.from-link.ensures c.deref_mut.ensures.value))
    (λ active_cycle below t.
    held_at tree i no_hop c.loop-hop-test.true c.requires.apart c.args.pace c.from-number.result before now low held c.loop-hop.invariant.so_far active_cycle
    (omega (arith, below, long)) t)

pub loop-hop-preserved : goal.loop-hop-preserved
loop-hop-preserved c =
    let tree = c.args.tree.now in
    let i = c.loop-hop.hop-index in
    let before = c.args.self.now in
    let sums = c.loop-hop.self-inside.sums in
    let now : SumsByCycle = record { links = c.loop-hop.self-inside.links; sums = sums.items } in
    let hop : Hop = get_or tree i no_hop in
    let index = c.from-link.result in
    let given = c.deref_mut.result.now in
    let greatest = c.loop-hop.self-inside.greatest.items in
    let most = c.take_in_active_cycles.result in
    let ys = c.take_in_active_cycles.new.cycle_sums in
    let low = low_at tree i no_hop before.links c.loop-hop-test.true c.requires.inside in
    let within : hop.link < now.links = omega (arith, low, c.loop-hop.invariant.so_far.links) in
    let part = read_part now given index hop.link c.from-link.ensures c.deref_mut.ensures.value in
    let long = ap length part ∙ sums_long now hop.link within c.loop-hop.invariant.kept.whole in
    let wrote : List ℕ = take (index * 80) given ++ (ys ++ drop (index * 80 + 80 - index * 80) (drop (index * 80) given)) in
    let done : length ys ≡ 80 = c.take_in_active_cycles.ensures.cycle_sums.as_many ∙ long in
    let room : index * 80 + 80 ≤ length given =
    omega (arith, within, c.from-link.ensures, ap length c.deref_mut.ensures.value, c.loop-hop.invariant.kept.whole) in
    let kept = with_items_is sums wrote (omega (arith, wrote_long given ys index room done, c.deref_mut.ensures.len)) in
    let later = take sums.len (wrote ++ drop (length wrote) sums.items) in
    let step = hop_done (λ x y. x - y) (λ x. omega arith) tree i no_hop c.loop-hop-test.true c.requires.apart c.args.pace c.requires.good c.from-number.result before now low
    c.loop-hop.invariant.kept.whole c.loop-hop.invariant.so_far ys index given later greatest most c.from-link.ensures c.deref_mut.ensures.value kept done
    (λ k below. c.take_in_active_cycles.ensures.cycle_sums.each k (omega (arith, below, long)) ∙ ap (λ (xs : List ℕ). get_or xs k 0 - (if is_active c.args.pace hop.hop_number k then c.from-number.result else 0)) part)
    c.loop-hop.invariant.kept c.take_in_active_cycles.ensures.most in
    record {
      kept = subst (λ (l : ℕ). AreKept (record { links = now.links; sums = later }) (set greatest l most)) (sym c.from-link.ensures) step.0;
      so_far = step.1;
    }

pub returns : goal.returns
returns c =
    let all = take_all c.loop-hop.hop-index c.args.tree.now c.loop-hop-test.false in
    let so_far = subst (λ (tree : List Hop). AreFor (λ x y. x - y) c.args.self.now tree c.args.pace c.from-number.result
    (record { links = c.loop-hop.self-inside.links; sums = c.loop-hop.self-inside.sums.items })) all c.loop-hop.invariant.so_far in
    subst (λ (n : ℕ). AreLessIn c.args.self.now c.args.tree.now c.args.pace n
    (record { links = c.loop-hop.self-inside.links; sums = c.loop-hop.self-inside.sums.items })) c.from-number.ensures
    (record { links = so_far.links; each = so_far.each })

pub take_in_active_cycles-requires-clause-most : goal.take_in_active_cycles-requires-clause-most
take_in_active_cycles-requires-clause-most c =
    let tree = c.args.tree.now in
    let i = c.loop-hop.hop-index in
    let now : SumsByCycle = record { links = c.loop-hop.self-inside.links; sums = c.loop-hop.self-inside.sums.items } in
    let hop : Hop = get_or tree i no_hop in
    let greatest = c.loop-hop.self-inside.greatest.items in
    let kept = c.loop-hop.invariant.kept in
    let low = low_at tree i no_hop c.args.self.now.links c.loop-hop-test.true c.requires.inside in
    let within : hop.link < now.links = omega (arith, low, c.loop-hop.invariant.so_far.links) in
    c.index.ensures
    ∙ most_kept now greatest kept c.from-link.result hop.link c.index.result.now within c.from-link.ensures
    ∙ ap (fold max 0) (sym (read_part now c.deref_mut.result.now c.from-link.result hop.link c.from-link.ensures c.deref_mut.ensures.value))
