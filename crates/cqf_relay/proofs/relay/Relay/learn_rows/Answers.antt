use Rattle.std.proofs.Common.{Global, List, ap, arith, drop, length, map, refl, rules, subst, sym, take, ◌+◌, ◌-◌, ◌∙◌}
use Rattle.std.specs.Arc.{arc_value}
use Rattle.std.specs.Prelude.{nat_lt}
use Rattle.std.specs.declared.sync.Arc.{Arc}
use Rattle.std.proofs.lemmas.List.{with_items_is}
use Rattle.std.proofs.lemmas.List.Sorted.{IsPartitionPoint-from_clause}
use Rattle.cqf_model.specs.declared.topology.Row.{Row}
use Rattle.cqf_relay.specs.declared.outlet.Outlet.{Outlet}
use Rattle.cqf_relay.specs.Standing.{LearnOnEach}
use Rattle.cqf_relay.proofs.LearnedRows.{learned_all, learned_new, learned_one, new_from}
use Rattle.cqf_relay.proofs.relay.Relay.learn_rows.Goals as goal

pub loop-row-init : goal.loop-row-init
loop-row-init c =
    record { domain = refl; number = refl; cycles = refl; tables = refl; inlets = refl; edge = refl; known = refl; learn = refl }

pub loop-row-preserved : goal.loop-row-preserved
loop-row-preserved c =
    let all = c.rows-rows.result.now in
    let first = c.partition_point-first.result in
    let rest = take (length all - first) (drop first all) in
    let mid = c.loop-row.self in
    let learned = c.learn_on_each.new.outlets in
    let one : LearnOnEach (arc_value c.row-item.result) mid.outlets.items learned =
    subst (λ (row : Row). LearnOnEach row mid.outlets.items learned) c.deref.ensures
    (subst (λ (outlets : List Outlet). LearnOnEach c.deref.result.now outlets learned) c.as_mut_slice.ensures.value c.in_ok-learn_on_each.ensures) in
    let kept = with_items_is mid.outlets learned (omega (arith, one.count, mid.outlets.ok.0)) in
    learned_one (λ row. arc_value row) rest c.loop-row.row-index c.row-item.result c.args.self.now mid _ (omega arith) c.row-item.is c.loop-row.invariant
    refl refl refl refl refl refl
    (ap (λ n. n + 1) (c.from.ensures ∙ ap (λ (row : Row). row.no) c.deref-in-loop-row.ensures))
    (subst (λ (outlets : List Outlet). LearnOnEach (arc_value c.row-item.result) mid.outlets.items outlets) (sym kept) one)

pub returns : goal.returns
returns c =
    let all = c.rows-rows.result.now in
    let first = c.partition_point-first.result in
    let rest = take (length all - first) (drop first all) in
    let known = c.args.self.now.known in
    let new = new_from (λ row. arc_value row) known first all c.args.table.now.rows c.rows-rows.ensures.rows c.rows-rows.ensures.order.numbers
    c.partition_point-first.ensures.bound
    (λ up. IsPartitionPoint-from_clause (λ (row : Arc Row Global). nat_lt (arc_value row).no known) all first c.partition_point-first.ensures.partitioned up
    (λ a r f q. search rules)) in
    learned_new (map (λ row. arc_value row) rest) c.args.table.now.rows c.args.self.now c.loop-row.self new
    (learned_all (λ row. arc_value row) rest c.loop-row.row-index c.args.self.now c.loop-row.self (omega arith) c.loop-row.invariant)
