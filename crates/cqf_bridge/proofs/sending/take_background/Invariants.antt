use Rattle.std.specs.Prelude.{◌≡◌, take}
use Rattle.cqf_bridge.specs.BridgeState.{port_with}
use Rattle.cqf_bridge.proofs.sending.take_background.Given as goal

abbrev pub invariant-loop-frame : goal.invariant-loop-frame
invariant-loop-frame l = l.port ≡ port_with (take l.frame-index l.background) l.fn.port
