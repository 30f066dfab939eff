use Rattle.std.specs.Prelude.{take}
use Rattle.cqf_model.specs.Run.{AreBackground}
use Rattle.cqf_test_fixtures.proofs.given.are_background.Given as goal

-- the frames so far may be given to a run
abbrev pub invariant-loop-frame : goal.invariant-loop-frame
invariant-loop-frame l = AreBackground l.domain (take l.frame-index l.frames)
