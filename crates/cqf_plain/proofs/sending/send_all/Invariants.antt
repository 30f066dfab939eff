use Rattle.std.proofs.Common.{◌≡◌, length}
use Rattle.cqf_model.specs.Network.{Network}
use Rattle.cqf_model.specs.Run.{Run}
use Rattle.cqf_plain.specs.Driven.{AllStandBefore, IsCycleOf}
use Rattle.cqf_plain.proofs.Sent.{FirstHaveSent}
use Rattle.cqf_plain.proofs.sending.send_all.Given as goal

-- the first bridges have sent
abbrev pub invariant-loop-index : goal.invariant-loop-index
invariant-loop-index l = record {
  many : length l.bridges.items ≡ length l.fn.bridges.items;
  sent : (run : Run) (net : Network) (of : IsCycleOf run net l.cycle.0) → AllStandBefore run net l.cycle.0 l.fn.bridges.items →
      FirstHaveSent run net l.cycle.0 of l.index l.bridges.items l.batches.items;
}
