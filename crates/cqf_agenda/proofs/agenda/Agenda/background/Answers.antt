use Rattle.std.proofs.Common.{rules, ◌∙◌, ◌*◌, ◌+◌, ◌-◌, List, ap, drop, length, refl, subst, sym, take}
use Rattle.std.specs.Prelude.{◌==◌, filter, nat_lt}
use Rattle.std.specs.List.Sorted.{IsNonDecreasingBy}
use Rattle.std.proofs.lemmas.List.Sorted.{IsPartitionPoint-from_clause}
use Rattle.cqf_units.specs.Timing.{cycle_at}
use Rattle.cqf_model.specs.declared.frames.Backed.{Backed}
use Rattle.cqf_agenda.specs.Agenda.{AgendaOf, background_at, instant_of_backed}
use Rattle.cqf_agenda.proofs.Cutting.{cut_of}
use Rattle.cqf_agenda.proofs.agenda.Agenda.background.Goals as goal

pub returns : goal.returns
returns c =
    let time = c.self.inside.cycle_time.0 in
    let all = c.as_slice-all.result.now in
    let from = c.partition_point-from.result in
    let rest = take (length all - from) (drop from all) in
    cut_of instant_of_backed time c.args.cycle.0 c.from.result all rest from c.partition_point-count.result
    c.from.ensures c.self.invariant.some (subst (λ (xs : List Backed). IsNonDecreasingBy instant_of_backed xs) (sym c.as_slice-all.ensures.value)
    c.self.invariant.background)
    (λ up. IsPartitionPoint-from_clause (λ (y : Backed). nat_lt (instant_of_backed y) (c.from.result * time)) all from
    c.partition_point-from.ensures.partitioned up
    (λ a r f q. search rules))
    c.partition_point-from.ensures.bound refl
    (λ up. IsPartitionPoint-from_clause (λ (y : Backed). nat_lt (instant_of_backed y) (c.from.result * time + time)) rest c.partition_point-count.result
    c.partition_point-count.ensures.partitioned up (λ a r f q. search rules))
    c.partition_point-count.ensures.bound
    ∙ ap (λ (xs : List Backed). filter (λ (x : Backed). cycle_at time (instant_of_backed x) == c.args.cycle.0) xs) c.as_slice-all.ensures.value
    ∙ ap (λ (a : AgendaOf). background_at a c.args.cycle.0) c.self.view_is
