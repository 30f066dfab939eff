use Rattle.std.proofs.Common.{◌≡◌, length}
use Rattle.cqf_model.specs.Network.{Network}
use Rattle.cqf_model.specs.Run.{Run}
use Rattle.cqf_plain.specs.Driven.{AllStandHalfway, IsCycleOf, IsTableOf, all_of}
use Rattle.cqf_plain.proofs.Received.{FirstHaveReceived}
use Rattle.cqf_plain.proofs.receiving.receive_all.Given as goal

-- the first bridges have received
abbrev pub invariant-loop-index : goal.invariant-loop-index
invariant-loop-index l = record {
  many : length l.bridges.items ≡ length l.fn.bridges.items;
  received : (run : Run) (net : Network) (of : IsCycleOf run net l.table.cycle) (is_table : IsTableOf run l.table) →
      AllStandHalfway run net l.table.cycle (all_of run net l.table.cycle) l.fn.bridges.items →
      FirstHaveReceived run net l.table of is_table l.index l.bridges.items l.fn.drops.items l.drops.items;
}
