use Rattle.std.proofs.Common.{ap, arith}
use Rattle.cqf_bridge.specs.PortRecord.{PortRecord}
use Rattle.cqf_bridge.proofs.sending.send_port.Goals as goal

pub run_to-requires-clause-later : goal.run_to-requires-clause-later
run_to-requires-clause-later c =
    omega (
      arith,
      ap (λ (r : PortRecord). r.port.reached) c.in_ok-take_background.ensures,
      c.requires.in_step.reached,
      c.end_of-end.ensures.value,
      c.end_of-end.ensures.lasting,
    )

pub run_to-requires-clause-near : goal.run_to-requires-clause-near
run_to-requires-clause-near c =
    omega (
      arith,
      ap (λ (r : PortRecord). r.port.reached) c.in_ok-take_background.ensures,
      c.requires.in_step.reached,
      c.end_of-end.ensures.value,
      c.end_of-end.ensures.short,
    )
