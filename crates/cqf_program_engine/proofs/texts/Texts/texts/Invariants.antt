use Rattle.std.proofs.Common.{◌≡◌, ◌++◌, drop, map}
use Rattle.cqf_program_engine.specs.Edge.{pieces_of}
use Rattle.cqf_program_engine.proofs.texts.Texts.texts.Given as goal

abbrev pub invariant-loop-end : goal.invariant-loop-end
invariant-loop-end l =
    map (λ text. text.now) l.texts.items ++ pieces_of l.bytes l.start (drop l.end-index l.end-items) ≡ pieces_of l.bytes 0 l.end-items
