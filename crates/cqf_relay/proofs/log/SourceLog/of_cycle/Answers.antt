use Rattle.std.proofs.Common.{rules, refl}
use Rattle.std.specs.Prelude.{nat_le, nat_lt, drop, length, take, ◌-◌}
use Rattle.std.proofs.lemmas.List.Sorted.{IsPartitionPoint-from_clause}
use Rattle.cqf_relay.specs.declared.log.ArrivedFrame.{ArrivedFrame}
use Rattle.cqf_relay.specs.Logs.{cycle_of_came}
use Rattle.cqf_relay.proofs.Sources.{cut_of_key}
use Rattle.cqf_relay.proofs.log.SourceLog.of_cycle.Goals as goal

pub returns : goal.returns
returns c = λ up.
    let all = c.as_slice-all.result.now in
    let from = c.partition_point-from.result in
    let rest = take (length all - from) (drop from all) in
    cut_of_key cycle_of_came c.args.cycle all c.args.self.now.frames.items rest from c.partition_point-count.result
    c.as_slice-all.ensures.value up
    (λ parted. IsPartitionPoint-from_clause (λ (it : ArrivedFrame). nat_lt it.cycle c.args.cycle) all from c.partition_point-from.ensures.partitioned parted
    (λ a r f q. search rules))
    c.partition_point-from.ensures.bound refl
    (λ parted. IsPartitionPoint-from_clause (λ (it : ArrivedFrame). nat_le it.cycle c.args.cycle) rest c.partition_point-count.result
    c.partition_point-count.ensures.partitioned parted (λ a r f q. search rules))
    c.partition_point-count.ensures.bound
