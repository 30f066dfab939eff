use Rattle.std.proofs.Common.{arith}
use Rattle.cqf_port.proofs.next.all_come.Goals as goal

-- none at first
pub loop-class-init : goal.loop-class-init
loop-class-init c = record {
  from = omega arith;
  soon = omega arith;
  come = λ class index below. absurd (omega arith);
}
