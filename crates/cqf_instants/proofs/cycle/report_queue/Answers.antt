use Rattle.std.proofs.Common.{◌+◌, ◌*◌, ◌<◌, ◌^◌, List, Contains, ap, arith, length, rules, subst, sym}
use Rattle.std.specs.List.Sorted.{IsNonDecreasingBy}
use Rattle.std.proofs.lemmas.List.Sorted.{Contains-permutation, IsNonDecreasingBy-from_sort_by_key, IsPermutation-sym, length_permutation}
use Rattle.cqf_instants.specs.declared.queues.Waiting.{Waiting}
use Rattle.cqf_instants.specs.Queues.{HasSpace, ReportsOfQueue, after_hop, in_pace, key_in_cycle, queue_time}
use Rattle.cqf_instants.proofs.cycle.report_queue.Goals as goal

pub report_link-requires-clause-hops : goal.report_link-requires-clause-hops
report_link-requires-clause-hops c w k =
    let sorted = c.sort_unstable_by_key.new.self.items in
    c.requires.hops w
    (Contains-permutation sorted c.args.queue.now.items w (IsPermutation-sym c.args.queue.now.items sorted c.sort_unstable_by_key.ensures.permutation)
    (subst (λ (xs : List Waiting). Contains xs w) c.as_slice.ensures.value k))

pub report_link-requires-clause-in_time : goal.report_link-requires-clause-in_time
report_link-requires-clause-in_time c =
    let sorted = c.sort_unstable_by_key.new.self.items in
    let rise : IsNonDecreasingBy key_in_cycle sorted =
    IsNonDecreasingBy-from_sort_by_key key_in_cycle _ c.sort_unstable_by_key.ensures.sorted (λ a r q k. search rules) in
    subst (λ (xs : List Waiting). queue_time c.args.sender.octet_time xs + c.args.sender.delay < 2 ^ 32) (sym c.as_slice.ensures.value)
    (c.requires.in_time sorted c.sort_unstable_by_key.ensures.permutation rise)

pub returns-clause-reports : goal.returns-clause-reports
returns-clause-reports c =
    let sorted = c.sort_unstable_by_key.new.self.items in
    record {
      empty = search rules;
      own_capacity = search rules;
      sorted = sorted;
      same = c.sort_unstable_by_key.ensures.permutation;
      rise = IsNonDecreasingBy-from_sort_by_key key_in_cycle _ c.sort_unstable_by_key.ensures.sorted (λ a r q k. search rules);
      reports = subst (λ (xs : List Waiting). ReportsOfQueue c.args.sender c.args.cycle.number.0 c.args.cycle.begins xs c.args.branches.now c.args.next.now.items
          c.report_link.new.next.items c.args.starts.now.items c.report_link.new.starts.items) c.as_slice.ensures.value c.report_link.ensures.reports;
    }

pub report_link-requires-clause-space : goal.report_link-requires-clause-space
report_link-requires-clause-space c =
    let sorted = c.sort_unstable_by_key.new.self.items in
    let rise : IsNonDecreasingBy key_in_cycle sorted =
    IsNonDecreasingBy-from_sort_by_key key_in_cycle _ c.sort_unstable_by_key.ensures.sorted (λ a r q k. search rules) in
    subst (λ (xs : List Waiting). HasSpace c.args.next.now.items (λ l. in_pace (after_hop c.args.sender c.args.branches.now l) c.args.sender.octet_time 0 xs))
    (sym c.as_slice.ensures.value) (c.requires.space sorted c.sort_unstable_by_key.ensures.permutation rise)

pub report_link-requires-clause-starts_space : goal.report_link-requires-clause-starts_space
report_link-requires-clause-starts_space c =
    let sorted = c.sort_unstable_by_key.new.self.items in
    omega (
      arith,
      c.requires.starts_space,
      length_permutation c.args.queue.now.items sorted c.sort_unstable_by_key.ensures.permutation,
      ap length c.as_slice.ensures.value,
    )
